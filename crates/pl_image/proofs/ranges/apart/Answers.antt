use Rattle.std.proofs.Common.{◌∙◌, ap, List}
use Rattle.std.specs.List.{list_any}
use Rattle.pl_elf.specs.declared.range.Range.{Range}
use Rattle.pl_elf.specs.Ranges.{has}
use Rattle.pl_image.specs.Index.{rises, merged}
use Rattle.pl_image.proofs.RangeLemmas.{merged_rises, apart_has}
use Rattle.pl_image.proofs.ranges.apart.Goals as goal

pub returns-clause-rises : goal.returns-clause-rises
returns-clause-rises c = ap (rises 0) c.in_ok-kept.ensures ∙ merged_rises 0 c.deref.result.now

pub returns-clause-same : goal.returns-clause-same
returns-clause-same c = λ a.
    ap (list_any (has a)) c.in_ok-kept.ensures
    ∙ ap (λ (rs : List Range). list_any (has a) (merged 0 rs)) c.deref.ensures.value
    ∙ apart_has c.args.ranges.items c.sort_ranges.new.ranges.items a c.sort_ranges.ensures.same c.sort_ranges.ensures.rising
