use Rattle.std.proofs.Common.{◌∙◌, ap}
use Rattle.std.specs.List.{list_any}
use Rattle.pl_elf.specs.Ranges.{has}
use Rattle.pl_rewrite.proofs.ranges.Ranges.of.Goals as goal

pub invariant_of-result : goal.invariant_of-result
invariant_of-result c = record { rising = c.in_ok-rising.ensures.rises; same = λ a. c.in_ok-rising.ensures.same a ∙ ap (list_any (has a)) (c.in_ok-copy.ensures.items ∙ c.deref.ensures.value) }
