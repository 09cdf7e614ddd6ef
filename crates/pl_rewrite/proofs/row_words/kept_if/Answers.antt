use Rattle.std.proofs.Common.{sym, ◌∙◌}
use Rattle.std.proofs.lemmas.Bool.{false≢true}
use Rattle.std.proofs.lemmas.Result.{IfOk-weaker}
use Rattle.pl_rewrite.proofs.row_words.kept_if.Goals as goal

pub returns-then-not-asked : goal.returns-then-not-asked
returns-then-not-asked c = λ on. absurd (false≢true (sym c.if-not-asked.true ∙ on))

pub returns : goal.returns
returns c = IfOk-weaker c.of.result _ _ (λ kept is. λ on. is) c.of.ensures
