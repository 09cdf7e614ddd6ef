-- The policies as functions of holes, a span and an alignment.
use Rattle.std.specs.Prelude.{ℕ, ◌-◌, ◌%◌, ◌==◌, if◌then◌else◌, List, Option, None}
use Rattle.pl_base.specs.Sums.{plus}
use Rattle.pl_elf.specs.declared.range.Range.{Range}
use Rattle.pl_slots.specs.Holes as slots
use Rattle.pl_place.specs.Numbering.{all_room, first_word, numbered}
use Rattle.pl_place.specs.Policy.{Choice}

-- the least place
unfoldable pub lowest : Choice
lowest holes span align = slots.lowest span align holes

-- the greatest place, which is the last of all
unfoldable pub highest : Choice
highest holes span align =
    if all_room span align holes == 0 then None else numbered span align holes (all_room span align holes - 1)

-- the place that a number chooses of all
unfoldable pub seeded : ℕ → Choice
seeded number holes span align =
    if all_room span align holes == 0 then None
    else numbered span align holes (first_word (plus number span) % all_room span align holes)
