use Rattle.std.proofs.Common.{Option, None, ap, ◌∙◌}
use Rattle.pl_cone.specs.declared.skip.Skip.{Skip}
use Rattle.pl_form.specs.declared.file.Marked.{Marked}
use Rattle.pl_rewrite.specs.Outcomes.{kept_by}
use Rattle.pl_rewrite.specs.declared.outcomes.RowOutcome.TheVariants as outcomes
use Rattle.pl_rewrite.specs.declared.rewriting.RowState.{RowState}
use Rattle.pl_rewrite.proofs.outcomes.stays.Goals as goal

pub returns-in-Some : goal.returns-in-Some
returns-in-Some c = ap (λ (state : RowState). outcomes.Unchanged state) c.current_state.ensures ∙ ap (λ (m : Option Marked). kept_by c.args.taken.now None m) c.in-Some.ensures.value

pub returns-in_ok-too_large-in-None : goal.returns-in_ok-too_large-in-None
returns-in_ok-too_large-in-None c = ap (λ (cause : Skip). outcomes.Original cause) c.in_ok-too_large-in-None.ensures ∙ ap (λ (m : Option Marked). kept_by c.args.taken.now None m) c.in-None.ensures.value
