use Rattle.std.proofs.Common.{Bool, sym, ap, ◌∙◌}
use Rattle.std.specs.Prelude.{◌||◌}
use Rattle.std.proofs.lemmas.Bool.{or_left}
use Rattle.pl_rewrite.specs.RowWords.{is_asked}
use Rattle.pl_rewrite.proofs.RowWordLaws.{asked_is}
use Rattle.pl_rewrite.proofs.row_words.is_needed.Goals as goal

pub returns-then-needed-row : goal.returns-then-needed-row
returns-then-needed-row c =
    let made = c.args.needed.now.made.now in
    let held = c.args.needed.now.held.now in
    c.if-needed-row.true ∙ sym (or_left (is_asked made c.args.row) (is_asked held c.args.row) (sym (asked_is made c.args.row _ c.requires.made) ∙ c.if-needed-row.true))

pub returns-else-needed-row : goal.returns-else-needed-row
returns-else-needed-row c =
    let made = c.args.needed.now.made.now in
    let held = c.args.needed.now.held.now in
    asked_is held c.args.row _ c.requires.held ∙ sym (ap (λ (b : Bool). b || is_asked held c.args.row) (sym (asked_is made c.args.row _ c.requires.made) ∙ c.if-needed-row.false))
