use Rattle.std.proofs.Common.{◌<◌, ◌^◌, length, take}
use Rattle.pl_cone.specs.Needs.{AreNumbers, KeepNumbers, Tell, words}
use Rattle.pl_cone.proofs.needs.Numbering.numbers_of.Given as goal

abbrev pub invariant-loop-name : goal.invariant-loop-name
invariant-loop-name l = record {
  numbers : AreNumbers l.self.numbers (words l.self.names.items);
  goes_on : KeepNumbers (words l.fn.self.names.items) (words l.self.names.items);
  few : length l.self.names.items < 2 ^ 32;
  told : Tell (words l.self.names.items) (take l.name-index l.needed) l.told.items;
}
