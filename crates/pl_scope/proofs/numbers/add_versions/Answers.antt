use Rattle.std.proofs.Common.{ℕ, List, subst}
use Rattle.pl_scope.specs.Numbers.{IsNumberAdded}
use Rattle.pl_scope.proofs.NumberLaws.{versions_done, versions_more, versions_none}
use Rattle.pl_scope.proofs.numbers.add_versions.Goals as goal

pub loop-row-init : goal.loop-row-init
loop-row-init c = versions_none c.names_in-row-items.result.now c.args.numbers.now

pub loop-row-preserved : goal.loop-row-preserved
loop-row-preserved c =
    let row = c.row-item.result in
    let front = c.loop-row.numbers in
    let added = subst (λ (name : List ℕ). IsNumberAdded name front c.add_number.new.numbers) c.as_slice.ensures c.in_ok-add_number.ensures in
    versions_more c.names_in-row-items.result.now c.loop-row.row-index row c.args.numbers.now front c.add_number.new.numbers c.loop-row-test.true c.row-item.is added c.loop-row.invariant

pub returns : goal.returns
returns c =
    versions_done c.args.object.now c.names_in-row-items.result.now c.loop-row.row-index c.args.numbers.now c.loop-row.numbers c.names_in-row-items.ensures c.loop-row-test.false c.loop-row.invariant
