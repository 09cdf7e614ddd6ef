use Rattle.std.proofs.Common.{◌++◌, Option, ℕ, sym, ap, ◌∙◌}
use Rattle.pl_form.specs.Words.{filled}
use Rattle.pl_form.proofs.LayoutLaws.{filled_is}
use Rattle.pl_form.proofs.library_form.push_filled.Goals as goal

pub returns : goal.returns
returns c =
    filled_is c.args.bytes.now c.args.spot.now c.in-Some.word c.args.out.now.items _ _ _ c.in_ok-push_word.ensures c.in_ok-push_behind.ensures c.in_ok-push_zeros.ensures
    ∙ ap (λ (word : Option ℕ). c.args.out.now.items ++ filled c.args.bytes.now c.args.spot.now word) (sym c.in-Some.is)
