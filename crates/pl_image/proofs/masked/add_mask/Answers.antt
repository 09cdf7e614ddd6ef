use Rattle.std.proofs.Common.{◌∙◌, ap, List, Bool}
use Rattle.std.specs.Prelude.{◌||◌}
use Rattle.std.specs.List.{list_any}
use Rattle.pl_image.specs.declared.mask.Load.{Load}
use Rattle.pl_elf.specs.Ranges.{has}
use Rattle.pl_image.specs.Loads.{loads_table}
use Rattle.pl_image.proofs.MaskLemmas.{masked_is}
use Rattle.pl_image.proofs.masked.add_mask.Goals as goal

pub returns : goal.returns
returns c = λ a.
    c.in_ok-add_loads.ensures a
    ∙ ap (λ (ls : List Load). list_any (has a) c.args.ranges.now.items || list_any (λ (l : Load). list_any (loads_table a l) c.deref.result.now) ls) c.as_slice-2.ensures
    ∙ ap (λ (b : Bool). list_any (has a) c.args.ranges.now.items || b) (masked_is a c.args.mask.now c.deref.result.now (λ k.
    ap (list_any (has k)) c.deref.ensures.value ∙ c.in_ok-tables-2.ensures.same k ∙ ap (list_any (has k)) (c.in_ok-tables.ensures.items ∙ c.as_slice.ensures)))
