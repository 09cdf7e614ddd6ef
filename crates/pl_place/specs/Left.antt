-- Holes that are left of a region.
use Rattle.std.specs.Prelude.{ℕ, List, fold, max, nat_lt, if◌then◌else◌}
use Rattle.pl_elf.specs.declared.range.Range.{Range}
use Rattle.pl_slots.specs.Holes.{region_holes, without}

-- what is left of holes beside a range that is taken; a range without addresses takes nothing
abbrev pub without_busy : List Range → Range → List Range
without_busy holes taken = if nat_lt taken.start taken.end then without taken holes else holes

-- the holes of a region beside ranges that are busy
unfoldable pub left : Range → List Range → List Range
left region busy = fold without_busy (region_holes region) busy

-- the end of the highest hole, 0 where there is none
unfoldable pub greatest_end : List Range → ℕ
greatest_end holes = fold (λ end hole. max end hole.end) 0 holes
