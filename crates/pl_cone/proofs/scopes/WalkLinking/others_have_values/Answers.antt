use Rattle.std.proofs.Common.{◌<◌, ◌≤◌, ℕ, length, get_or, refl, sym, subst, arith}
use Rattle.std.proofs.lemmas.Option.{slice_get_read, slice_get-get_or}
use Rattle.std.proofs.lemmas.Result.{err_from_is_err_and}
use Rattle.pl_scope.proofs.MemberLaws.{length_objects}
use Rattle.pl_value.proofs.LinkableLaws.{all_symbols}
use Rattle.pl_cone.specs.Links.{TellsOf, meaning_in, objects_of}
use Rattle.pl_cone.specs.declared.linking.Link.{Link}
use Rattle.pl_cone.proofs.ValueLaws.{member_past, member_stops, all_members}
use Rattle.pl_cone.proofs.scopes.WalkLinking.others_have_values.Goals as goal

pub member_has_values-requires-clause-references : goal.member_has_values-requires-clause-references
member_has_values-requires-clause-references c =
    rw c.as_slice-relocs.ensures (all_symbols (objects_of c.args.self.now) c.loop-member.member c.object.result.now c.object.ensures.fit c.object.ensures.object)

pub member_has_values-requires-clause-remaining : goal.member_has_values-requires-clause-remaining
member_has_values-requires-clause-remaining c =
    let m : ℕ = c.loop-member.member in
    let some : 0 < m = omega arith in
    let lt : m < length c.args.walk.now = omega (arith, c.requires.walk.each, c.count-member-end.ensures.count) in
    let r : ℕ = get_or c.args.walk.now m 0 in
    let inside : r < length c.args.links.now = c.requires.walk.within m 0 lt in
    let told : TellsOf c.args.self.now m c.object.result.now.relocations c.index-links-walk.result.remaining =
    c.requires.links m r c.object.result.now c.index-links-walk.result some c.object.ensures.object (slice_get-get_or c.args.walk.now m 0 lt) (slice_get_read c.args.links.now (length c.args.links.now) r c.index-links-walk.result refl inside c.index-links-walk.is) in
    rw (c.as_slice-relocs.ensures, c.as_slice-remaining.ensures) (subst (λ (l : Link). TellsOf c.args.self.now m c.object.result.now.relocations l.remaining) c.index-links-walk.is told)

pub returns-in_err-member_has_values : goal.returns-in_err-member_has_values
returns-in_err-member_has_values c =
    let p = err_from_is_err_and c.from_residual.result c.from_residual.ensures.1 in
    let stop = rw c.as_slice-relocs.ensures at c.in_err-member_has_values.ensures in
    rw (p.1, p.2) (sym (member_stops (meaning_in c.args.self.now) (objects_of c.args.self.now) c.loop-member.member c.object.result.now _ _ c.object.ensures.object (sym stop) c.loop-member.invariant))

pub loop-member-preserved : goal.loop-member-preserved
loop-member-preserved c =
    let ok = rw c.as_slice-relocs.ensures at c.in_ok-member_has_values.ensures in
    member_past (meaning_in c.args.self.now) (objects_of c.args.self.now) c.loop-member.member c.object.result.now _ c.object.ensures.object (sym ok) c.loop-member.invariant

pub returns : goal.returns
returns c =
    let le : length (objects_of c.args.self.now) ≤ c.loop-member.member = omega (arith, length_objects c.args.self.now.scope.now, c.count-member-end.ensures.count) in
    sym (all_members (meaning_in c.args.self.now) (objects_of c.args.self.now) c.loop-member.member _ le c.loop-member.invariant)
