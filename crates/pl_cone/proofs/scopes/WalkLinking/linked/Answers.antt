use Rattle.std.proofs.Common.{refl, sym, ap, ◌∙◌}
use Rattle.std.proofs.lemmas.Result.{err_from_is_err_and}
use Rattle.pl_base.specs.Answers.{because}
use Rattle.pl_cone.specs.Candidates.{of_link}
use Rattle.pl_cone.proofs.ProgramLinkLaws.{others_are, others_stop, own_refuses}
use Rattle.pl_cone.proofs.scopes.WalkLinking.linked.Goals as goal

pub first_found-requires-clause-linking : goal.first_found-requires-clause-linking
first_found-requires-clause-linking c = c.requires.linking.is

pub first_found-requires-clause-some : goal.first_found-requires-clause-some
first_found-requires-clause-some c = c.requires.links.some

pub others_have_values-requires-clause-linking : goal.others_have_values-requires-clause-linking
others_have_values-requires-clause-linking c = c.requires.linking.is

pub others_have_values-requires-clause-walk : goal.others_have_values-requires-clause-walk
others_have_values-requires-clause-walk c = c.requires.links.walk

pub others_have_values-requires-clause-links : goal.others_have_values-requires-clause-links
others_have_values-requires-clause-links c = c.requires.links.tell c.args.self.now refl c.requires.linking.places

pub returns-in_err-found : goal.returns-in_err-found
returns-in_err-found c =
    let p = err_from_is_err_and c.from_residual.result c.from_residual.ensures.1 in
    rw (p.1, p.2) (own_refuses c.args.self.now c.requires.linking c.requires.links.some _ c.in_err-found.ensures)

pub returns-in-Ok : goal.returns-in-Ok
returns-in-Ok c = (
  c.in_ok-found.ensures.0,
  (
    c.new-remaining.ensures,
    others_are c.args.self.now c.requires.linking c.requires.links.some c.in_ok-found.ensures.1 ∙ ap (because (of_link c.args.self.now.scope.now)) (sym c.in-Ok.ensures),
  ),
)

pub returns-in_ok-refused-in-Err : goal.returns-in_ok-refused-in-Err
returns-in_ok-refused-in-Err c =
    others_stop c.args.self.now c.requires.linking c.requires.links.some c.in-Err.fault c.in_ok-refused-in-Err.field-0 c.in_ok-found.ensures.1 (sym c.in-Err.ensures) c.in_ok-refused-in-Err.ensures
