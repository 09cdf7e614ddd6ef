use Rattle.std.proofs.Common.{◌≡◌, drop}
use Rattle.pl_scope.specs.Block.{takes, values}
use Rattle.pl_scope.specs.Probing.{another}
use Rattle.pl_scope.proofs.block.has_another.Given as goal

-- another one is among what is left of the entries where one is among all
abbrev pub invariant-loop-entry : goal.invariant-loop-entry
invariant-loop-entry l = another (takes l.block l.pick) l.index (values (drop l.entry-index l.among)) ≡ another (takes l.block l.pick) l.index (values l.among)
