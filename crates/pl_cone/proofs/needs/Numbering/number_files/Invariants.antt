use Rattle.std.proofs.Common.{◌≡◌, ◌<◌, ◌^◌, length, take}
use Rattle.pl_cone.specs.Needs.{AreNumbers, words}
use Rattle.pl_cone.specs.Taken.{names_of}
use Rattle.pl_cone.proofs.needs.Numbering.number_files.Given as goal

abbrev pub invariant-loop-taken : goal.invariant-loop-taken
invariant-loop-taken l = record {
  numbers : AreNumbers l.self.numbers (words l.self.names.items);
  names : words l.self.names.items ≡ take l.taken-index (names_of l.files);
  few : length l.self.names.items < 2 ^ 32;
}
