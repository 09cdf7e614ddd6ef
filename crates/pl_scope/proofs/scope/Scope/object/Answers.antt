use Rattle.std.proofs.Common.{◌≡◌, ◌<◌, Some, length, slice_get, ap, subst, arith}
use Rattle.pl_scope.specs.Scope as spec
use Rattle.pl_scope.specs.Walk.{Walked}
use Rattle.pl_scope.proofs.MemberLaws.{object_at, fit_at, length_walked}
use Rattle.pl_scope.proofs.scope.Scope.object.Goals as goal

pub returns-clause-object : goal.returns-clause-object
returns-clause-object c =
    let members = c.self.inside.members.items in
    let view : spec.walked members ≡ c.args.self.now = c.self.view_is in
    let within : c.args.member < length members = omega (arith, c.requires, ap length view, length_walked members) in
    subst (λ (all : Walked). slice_get (spec.objects all) c.args.member ≡ Some c.index.result.now.object.now) view (object_at members c.args.member c.index.result.now within c.index.ensures)

pub returns-clause-fit : goal.returns-clause-fit
returns-clause-fit c =
    let members = c.self.inside.members.items in
    let view : spec.walked members ≡ c.args.self.now = c.self.view_is in
    let within : c.args.member < length members = omega (arith, c.requires, ap length view, length_walked members) in
    fit_at (spec.objects (spec.walked members)) c.args.member c.index.result.now.object.now c.self.invariant (object_at members c.args.member c.index.result.now within c.index.ensures)
