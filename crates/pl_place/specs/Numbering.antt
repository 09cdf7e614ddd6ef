-- The places of a span in holes, numbered upwards.
use Rattle.std.specs.Prelude.{◌≡◌, ℕ, ◌+◌, ◌-◌, ◌*◌, ◌/◌, ◌%◌, Bool, ◌&&◌, nat_lt, sum_by, if◌then◌else◌, List, [], ◌∷◌, Option, Some, None}
use Rattle.pl_base.specs.Below.{count_below}
use Rattle.pl_base.specs.Sums.{plus, round_up, is_aligned}
use Rattle.pl_elf.specs.declared.range.Range.{Range}
use Rattle.pl_slots.specs.Holes.{fits_in, fits_at}
use Rattle.pl_place.specs.Left.{greatest_end}
use Rattle.rand_core.specs.Pcg32Seed.{pcg32_seed}
use Rattle.rand_pcg.specs.Pcg.{pcg64, pcg64_of_seed}

-- whether a span fits in one of the holes at an address, and the address is aligned
abbrev pub is_place : List Range → ℕ → ℕ → ℕ → Bool
is_place holes span align start = is_aligned start align && fits_at holes span start

-- how many such addresses are below an address
abbrev pub places_below : List Range → ℕ → ℕ → ℕ → ℕ
places_below holes span align address = count_below (is_place holes span align) address

-- the first word of the generator PCG XSL RR 128/64 that a number seeds
abbrev pub first_word : ℕ → ℕ
first_word seed = (pcg64 (pcg64_of_seed (pcg32_seed 32 seed))).0

-- the place that a number chooses: of all places, numbered upwards from 0, the one whose number is the first word of the number and the span together, modulo how many there are below the end of the highest hole
abbrev pub IsSeeded : ℕ → List Range → ℕ → ℕ → ℕ → Type 0
IsSeeded number holes span align start =
    places_below holes span align start ≡ first_word (plus number span) % places_below holes span align (greatest_end holes)

-- ---- counting hole by hole

-- how many places there are in one hole
unfoldable pub room : ℕ → ℕ → Range → ℕ
room span align hole =
    if fits_in span align hole then (hole.end - span - round_up hole.start align) / align + 1 else 0

-- and in all
unfoldable pub all_room : ℕ → ℕ → List Range → ℕ
all_room span align holes = sum_by (room span align) holes

-- the place of a number in one hole
unfoldable pub place_in : ℕ → Range → ℕ → ℕ
place_in align hole number = round_up hole.start align + align * number

-- and in all
unfoldable pub numbered : ℕ → ℕ → List Range → ℕ → Option ℕ
numbered span align [] number = None
numbered span align (hole ∷ holes) number =
    if nat_lt number (room span align hole) then Some (place_in align hole number)
    else numbered span align holes (number - room span align hole)
