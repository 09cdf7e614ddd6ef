use Rattle.std.proofs.Common.{◌≡◌, None, drop}
use Rattle.pl_scope.specs.Block.{takes, values}
use Rattle.pl_scope.specs.Probing.{least_from}
use Rattle.pl_scope.proofs.block.first_picked.Given as goal

-- what is left of the candidates gives, after those before, the least of all
abbrev pub invariant-loop-entry : goal.invariant-loop-entry
invariant-loop-entry l = least_from (takes l.block l.pick) l.least (values (drop l.entry-index l.entry-items)) ≡ least_from (takes l.block l.pick) None (values l.entry-items)
