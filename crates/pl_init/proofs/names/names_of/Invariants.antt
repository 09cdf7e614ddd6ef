use Rattle.std.proofs.Common.{◌≡◌, take, map}
use Rattle.std.specs.Prelude.{string_bytes}
use Rattle.pl_scope.specs.Members.{names}
use Rattle.pl_scope.specs.Scope.{walked}
use Rattle.pl_init.proofs.names.names_of.Given as goal

abbrev pub invariant-loop-member : goal.invariant-loop-member
invariant-loop-member l = map string_bytes l.names.keys ≡ take l.member-index (names (walked l.members))
