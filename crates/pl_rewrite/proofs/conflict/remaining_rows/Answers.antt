use Rattle.std.proofs.Common.{◌≤◌, List, length, ap, sym, subst, arith, ◌∙◌}
use Rattle.std.specs.Prelude.{filter}
use Rattle.std.proofs.lemmas.Result.{err_from_is_err_and}
use Rattle.pl_base.specs.Answers.{because}
use Rattle.pl_base.proofs.AnswerLaws.{because_ok}
use Rattle.pl_conflict.specs.Conflicts as spec
use Rattle.pl_conflict.proofs.ConflictLaws.{conflicts_ok}
use Rattle.pl_cone.specs.Links.{objects_of}
use Rattle.pl_elf.specs.declared.range.Range.{Range}
use Rattle.pl_rewrite.specs.declared.row_words.HeldWord.{HeldWord}
use Rattle.pl_scope.proofs.MemberLaws.{length_objects}
use Rattle.pl_value.specs.Ordinary.{loaded_objects}
use Rattle.pl_value.specs.declared.fault.OrdinaryFault.TheVariants.{Link}
use Rattle.pl_rewrite.specs.RemainingRows.{AddsNear, AddsRows, TellsHeldOf, is_near_word}
use Rattle.pl_rewrite.specs.Ranges.{ranges_of}
use Rattle.pl_rewrite.proofs.RowsLaws.{listed_done, listed_more, listed_stops, near_is, object_at, first_listed}
use Rattle.pl_rewrite.proofs.conflict.remaining_rows.Goals as goal

pub loop-member-init : goal.loop-member-init
loop-member-init c =
    first_listed c.args.linking.now c.args.walk.now c.args.row_words.now c.args.own.now (ranges_of c.args.own.now) c.new.result.items c.in_ok-near.near.items c.requires.row_words c.new.ensures.items
    (c.in_ok-near.ensures ∙ ap (λ (rs : List Range). filter (is_near_word rs) c.args.own.now) c.in_ok-ranges.ensures)

pub held_at-held-requires-clause-member : goal.held_at-held-requires-clause-member
held_at-held-requires-clause-member c = omega (arith, c.loop-member-test.true, c.count-member-end.ensures.count, length_objects c.args.linking.now.scope.now, c.requires.row_words.one_each)

pub held_at-held-requires-clause-rows : goal.held_at-held-requires-clause-rows
held_at-held-requires-clause-rows c = c.requires.row_words.within

pub add_member-requires-clause-held : goal.add_member-requires-clause-held
add_member-requires-clause-held c = λ o at. subst (TellsHeldOf c.args.linking.now c.loop-member.member o.relocations) (sym c.held_at-held.ensures) (c.requires.row_words.others c.loop-member.member o (omega (arith, c.loop-member.auto.member)) at)

pub returns-in_err-add_member-clause-refused : goal.returns-in_err-add_member-clause-refused
returns-in_err-add_member-clause-refused c =
    let p = err_from_is_err_and c.from_residual-in_err-add_member.result c.from_residual-in_err-add_member.ensures.1 in
    let o = object_at (objects_of c.args.linking.now) c.loop-member.member (omega (arith, c.loop-member-test.true, c.count-member-end.ensures.count, length_objects c.args.linking.now.scope.now)) in
    rw (p.1, p.2) (listed_stops c.args.linking.now c.args.walk.now c.args.row_words.now (ranges_of c.args.own.now) c.loop-member.member o.0 _ _ _ o.1 (c.in_err-add_member.ensures.refused o.0 o.1) c.loop-member.invariant)

pub loop-member-preserved : goal.loop-member-preserved
loop-member-preserved c =
    let o = object_at (objects_of c.args.linking.now) c.loop-member.member (omega (arith, c.loop-member-test.true, c.count-member-end.ensures.count, length_objects c.args.linking.now.scope.now)) in
    let adds = c.in_ok-add_member.ensures.added in
    let rows = subst (λ (hs : List HeldWord). AddsRows c.args.linking.now c.loop-member.member o.0.relocations hs c.loop-member.found_rows.rows.items c.add_member.new.found_rows.rows.items) c.held_at-held.ensures (adds.rows o.0 o.1) in
    let near = subst (λ (rs : List Range). AddsNear c.args.linking.now c.loop-member.member o.0.relocations rs c.loop-member.found_rows.near.items c.add_member.new.found_rows.near.items) c.in_ok-ranges.ensures (adds.near o.0 o.1) in
    listed_more c.args.linking.now c.args.walk.now c.args.row_words.now (ranges_of c.args.own.now) c.loop-member.member o.0 _ _ _ _ (omega (arith, c.loop-member.auto.member)) o.1 rows near c.loop-member.invariant

pub returns-clause-rows : goal.returns-clause-rows
returns-clause-rows c = λ parts compared are.
    let os = objects_of c.args.linking.now in
    let le : length os ≤ c.loop-member.member = omega (arith, c.loop-member-test.false, length_objects c.args.linking.now.scope.now, c.count-member-end.ensures.count) in
    let listed = listed_done c.args.linking.now c.args.walk.now c.args.row_words.now (ranges_of c.args.own.now) c.loop-member.member _ _ le c.loop-member.invariant in
    let both = conflicts_ok os parts c.args.linking.now.places.now c.args.linking.now.modules.now listed.all c.loop-member.found_rows.rows.items c.sort_rows.new.rows.items compared.accepted compared.placed (ap (because Link) listed.given) (listed.exact (loaded_objects c.args.linking.now.places.now parts os) are) c.sort_rows.ensures.rows c.sort_rows.ensures.sorted in
    because_ok Link (spec.conflicts os parts c.args.linking.now.places.now c.args.linking.now.modules.now) c.sort_rows.new.rows.items both.0

pub returns-clause-near : goal.returns-clause-near
returns-clause-near c =
    let le : length (objects_of c.args.linking.now) ≤ c.loop-member.member = omega (arith, c.loop-member-test.false, length_objects c.args.linking.now.scope.now, c.count-member-end.ensures.count) in
    near_is c.args.linking.now c.args.walk.now c.args.row_words.now c.args.own.now _ _ (listed_done c.args.linking.now c.args.walk.now c.args.row_words.now (ranges_of c.args.own.now) c.loop-member.member _ _ le c.loop-member.invariant)
