use Rattle.std.proofs.Common.{◌<◌, ◌^◌, length, take}
use Rattle.pl_cone.specs.Needs.{AreNumbers, KeepNumbers, TellAll, items_of, words}
use Rattle.pl_cone.proofs.needs.Numbering.all_needed.Given as goal

abbrev pub invariant-loop-taken : goal.invariant-loop-taken
invariant-loop-taken l = record {
  numbers : AreNumbers l.self.numbers (words l.self.names.items);
  goes_on : KeepNumbers (words l.fn.self.names.items) (words l.self.names.items);
  few : length l.self.names.items < 2 ^ 32;
  told : TellAll (take l.taken-index l.files) (words l.self.names.items) (items_of l.needed.items);
}
