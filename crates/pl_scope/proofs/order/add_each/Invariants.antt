use Rattle.std.proofs.Common.{◌≡◌, ◌≤◌, length, take, drop}
use Rattle.pl_base.specs.Each.{run}
use Rattle.pl_scope.specs.declared.constants.TheConstants.{MAX_MEMBERS}
use Rattle.pl_scope.specs.Walk as spec
use Rattle.pl_scope.proofs.order.add_each.Given as goal

abbrev pub invariant-loop-name : goal.invariant-loop-name
invariant-loop-name l = record {
  so_far : run spec.added l.names.items (drop l.name-index l.needed) ≡ run spec.added l.fn.names.items l.needed;
  front : take (length l.fn.names.items) l.names.items ≡ l.fn.names.items;
  few : length l.fn.names.items ≤ MAX_MEMBERS → length l.names.items ≤ MAX_MEMBERS;
}
