use Rattle.std.proofs.Common.{sym, ◌∙◌}
use Rattle.std.proofs.lemmas.Result.{err_from_is_err_and, on_ok_weaker, IfErr-weaker}
use Rattle.pl_scope.specs.Scope.{objects}
use Rattle.pl_value.proofs.LinkableLaws.{all_symbols}
use Rattle.pl_rewrite.proofs.NearLaws.{nothing_near}
use Rattle.pl_rewrite.proofs.RowsLaws.{empty_is, member_added, memory_refused, refused_member}
use Rattle.pl_rewrite.proofs.conflict.add_member.Goals as goal

pub add_rows-requires-clause-references : goal.add_rows-requires-clause-references
add_rows-requires-clause-references c =
    rw c.as_slice-relocs.ensures (all_symbols (objects c.args.linking.now.scope.now) c.args.member c.object.result.now c.object.ensures.fit c.object.ensures.object)

pub add_rows-requires-clause-held : goal.add_rows-requires-clause-held
add_rows-requires-clause-held c = rw c.as_slice-relocs.ensures (c.requires.held c.object.result.now c.object.ensures.object)

pub returns-in_err-add_rows-clause-refused : goal.returns-in_err-add_rows-clause-refused
returns-in_err-add_rows-clause-refused c =
    let p = err_from_is_err_and c.from_residual.result c.from_residual.ensures.1 in
    rw (p.1, p.2) (refused_member c.args.linking.now c.args.member c.object.result.now c.as_slice-relocs.result.now _ c.object.ensures.object c.as_slice-relocs.ensures c.in_err-add_rows.ensures.refused)

pub returns-then-is_empty-clause-added : goal.returns-then-is_empty-clause-added
returns-then-is_empty-clause-added c =
    let adds = rw c.as_slice-relocs.ensures at c.in_ok-add_rows.ensures.added in
    member_added c.args.linking.now c.args.member c.args.held.now c.args.ranges.now _ _ c.object.result.now c.object.ensures.object adds
    (nothing_near c.args.linking.now c.args.member c.object.result.now.relocations c.args.ranges.now _ (empty_is c.args.ranges.now (sym c.is_empty.ensures ∙ c.if-is_empty.true)))

pub add_near-requires-clause-references : goal.add_near-requires-clause-references
add_near-requires-clause-references c =
    rw c.as_slice-relocs.ensures (all_symbols (objects c.args.linking.now.scope.now) c.args.member c.object.result.now c.object.ensures.fit c.object.ensures.object)

pub add_near-requires-clause-given : goal.add_near-requires-clause-given
add_near-requires-clause-given c = (c.in_ok-add_rows.ensures.added.all, c.in_ok-add_rows.ensures.added.given)

pub returns-clause-refused : goal.returns-clause-refused
returns-clause-refused c = IfErr-weaker c.add_near.result _ _ (λ fault memory. memory_refused c.args.linking.now c.args.member fault memory) c.add_near.ensures.refused

pub returns-clause-added : goal.returns-clause-added
returns-clause-added c =
    let adds = rw c.as_slice-relocs.ensures at c.in_ok-add_rows.ensures.added in
    let nears = rw c.as_slice-relocs.ensures at c.add_near.ensures.added in
    on_ok_weaker c.add_near.result (λ near. member_added c.args.linking.now c.args.member c.args.held.now c.args.ranges.now _ _ c.object.result.now c.object.ensures.object adds near) nears
