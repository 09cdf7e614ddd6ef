use Rattle.std.proofs.Common.{◌∙◌, ap, Bool, List}
use Rattle.std.specs.Prelude.{◌||◌}
use Rattle.std.specs.List.{list_any}
use Rattle.std.proofs.lemmas.List.{take_all}
use Rattle.pl_elf.specs.declared.range.Range.{Range}
use Rattle.pl_elf.specs.Ranges.{has}
use Rattle.pl_image.specs.Loads.{loads_table}
use Rattle.pl_image.proofs.MaskLemmas.{near_tables}
use Rattle.pl_image.proofs.masked.add_load.Goals as goal

pub returns : goal.returns
returns c = λ a.
    c.loop-table.invariant a
    ∙ ap (λ (ts : List Range). list_any (has a) c.args.ranges.now.items || list_any (loads_table a c.args.load.now) ts) (take_all c.loop-table.table-index c.near-near.result.now c.loop-table-test.false)
    ∙ ap (λ (b : Bool). list_any (has a) c.args.ranges.now.items || b) (near_tables a c.args.load.now c.near-near.result.now c.args.tables.now c.near-near.ensures.same)
