use Rattle.std.proofs.Common.{◌≡◌, List, Ok, refl, ap, sym, subst, ◌∙◌}
use Rattle.std.proofs.lemmas.Result.{err_from_is_err_and}
use Rattle.pl_base.specs.Answers.{because}
use Rattle.pl_base.proofs.AnswerLaws.{because_ok}
use Rattle.pl_scope.specs.Scope.{objects}
use Rattle.pl_scope.proofs.MemberLaws.{length_objects}
use Rattle.pl_value.specs.Meanings.{meanings}
use Rattle.pl_value.specs.declared.fault.OrdinaryFault.TheVariants.{Link}
use Rattle.pl_value.specs.declared.meaning.Meaning.{Meaning}
use Rattle.pl_conflict.proofs.ConflictLaws.{conflicts_err, objects_within}
use Rattle.pl_conflict.proofs.rows.conflicts.Goals as goal

pub conflicts_by-requires-clause-compared : goal.conflicts_by-requires-clause-compared
conflicts_by-requires-clause-compared c = record {
  one_each = c.requires.one_each ∙ sym (length_objects c.args.scope.now);
  each_part = c.requires.parts ∙ sym (length_objects c.args.scope.now);
  accepted = c.requires.accepted;
  placed = c.requires.placed;
}

pub conflicts_by-requires-clause-given : goal.conflicts_by-requires-clause-given
conflicts_by-requires-clause-given c =
    let os = objects c.args.scope.now in
    let ok = because_ok Link (meanings os c.args.places.now c.args.tls.now) c.in_ok-meanings.meanings c.in_ok-meanings.ensures in
    let given : meanings os c.args.places.now c.args.tls.now ≡ Ok c.as_slice.result.now = subst (λ (gs : List Meaning). meanings os c.args.places.now c.args.tls.now ≡ Ok gs) (sym c.as_slice.ensures) ok in
    record {
      tls = c.args.tls.now;
      all = c.as_slice.result.now;
      given = given;
      within = objects_within os c.args.places.now c.args.tls.now c.as_slice.result.now c.requires.accepted given;
      rows = refl;
    }

pub returns-in_err-meanings-clause-exact : goal.returns-in_err-meanings-clause-exact
returns-in_err-meanings-clause-exact c =
    let p = err_from_is_err_and c.from_residual.result c.from_residual.ensures.1 in
    rw (p.1, p.2) (conflicts_err (objects c.args.scope.now) c.args.parts.now c.args.places.now c.args.tls.now _ c.in_err-meanings.ensures)

pub returns-clause-exact : goal.returns-clause-exact
returns-clause-exact c =
    let os = objects c.args.scope.now in
    let ok = because_ok Link (meanings os c.args.places.now c.args.tls.now) c.in_ok-meanings.meanings c.in_ok-meanings.ensures in
    ap (because Link) (c.in_ok-conflicts_by.ensures.exact c.args.tls.now c.as_slice.result.now (subst (λ (gs : List Meaning). meanings os c.args.places.now c.args.tls.now ≡ Ok gs) (sym c.as_slice.ensures) ok) refl)

pub returns-clause-ascending : goal.returns-clause-ascending
returns-clause-ascending c = c.in_ok-conflicts_by.ensures.ascending
