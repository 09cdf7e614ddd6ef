use Rattle.std.proofs.Common.{◌≡◌, ◌++◌, drop, map}
use Rattle.std.specs.Prelude.{string_bytes}
use Rattle.std.specs.List.{filter_map}
use Rattle.pl_init.specs.Graph.{number}
use Rattle.pl_init.proofs.names.numbers_of.Given as goal

abbrev pub invariant-loop-name : goal.invariant-loop-name
invariant-loop-name l = l.numbers ++ filter_map (number (map string_bytes l.names.keys)) (drop l.name-index l.needed) ≡ filter_map (number (map string_bytes l.names.keys)) l.needed
