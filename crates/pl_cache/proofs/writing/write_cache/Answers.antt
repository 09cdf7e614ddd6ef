use Rattle.std.proofs.Common.{◌<◌, ◌^◌, length, sym, subst, List, All}
use Rattle.pl_slots.specs.declared.slot.Slot.{Slot}
use Rattle.pl_cache.proofs.CacheLaws.{name_short, few_rows}
use Rattle.pl_cache.proofs.writing.write_cache.Goals as goal

pub row_count-requires : goal.row_count-requires
row_count-requires c = few_rows c.args.cache.now c.requires

pub push_rows-requires : goal.push_rows-requires
push_rows-requires c = subst (λ (slots : List Slot). All (λ slot. length slot.name < 2 ^ 8) slots) (sym c.as_slice-2.ensures) (name_short c.args.cache.now c.requires)
