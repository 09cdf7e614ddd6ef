use Rattle.std.proofs.Common.{◌≡◌, ◌∙◌, ◌++◌, ℕ, List, [], rules}
use Rattle.pl_cli.specs.Weave.{loaders_text, runs_text}
use Rattle.pl_texts.specs.WeaveText.{end_line}
use Rattle.pl_cli.proofs.WeaveTextLemmas.{text_added}
use Rattle.pl_cli.proofs.weave_text.woven_text.Goals as goal

pub returns : goal.returns
returns g c p choose have follows =
    let w = c.args.woven in
    let start = c.new-out.result.text.items in
    let one = c.add_loaders.new.out.text.items in
    let two = c.add_runs.new.out.items in
    let three = c.extend_from_slice.new.self.items in
    let none : start ≡ [] = search rules in
    let told : two ≡ one ++ runs_text 0 w.runs = search rules in
    let ended : three ≡ two ++ end_line = search rules in
    let whole : c.into_text.result.items ≡ three = search rules in
    whole ∙ text_added start one two three (loaders_text choose 0 w.weave) (runs_text 0 w.runs) end_line none (c.in_ok-add_loaders.ensures p choose have follows) told ended
