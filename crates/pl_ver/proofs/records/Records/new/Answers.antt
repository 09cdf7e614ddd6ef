use Rattle.std.proofs.Common.{refl}
use Rattle.pl_ver.proofs.TakenLaws.{none_taken}
use Rattle.pl_ver.proofs.records.Records.new.Goals as goal

pub invariant_of-result : goal.invariant_of-result
invariant_of-result c = none_taken 0x10000 _ _ refl c.new.ensures.items (c.in_ok-from_elem.ensures.items_if_clones_equal (λ y e. e))
