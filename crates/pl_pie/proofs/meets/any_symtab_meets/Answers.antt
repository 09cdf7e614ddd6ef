use Rattle.std.proofs.Common.{refl}
use Rattle.pl_move.proofs.ObjectLaws.{symtab_room}
use Rattle.pl_pie.proofs.meets.any_symtab_meets.Goals as goal

pub symtab_meets-requires : goal.symtab_meets-requires
symtab_meets-requires c = symtab_room _ c.args.symtabs.now c.loop-range.range-index _ _ _ refl refl c.loop-range-test.true c.requires
