-- The addresses from which the relocations of a program copy, as ranges.
use Rattle.std.specs.Prelude.{◌≡◌, ℕ, Bool, true, ◌&&◌, ◌+◌, ◌-◌, ◌^◌, min, nat_lt, List, Option, Some, None}
use Rattle.std.specs.List.{filter_map, list_any}
use Rattle.pl_elf.specs.Ranges.{has}
use Rattle.pl_elf.specs.declared.range.Range.{Range}
use Rattle.pl_image.specs.Index.{rises}
use Rattle.pl_value.specs.declared.meaning.Meaning.{Meaning}
use Rattle.pl_value.specs.declared.word.Word.{Word}
use Rattle.pl_value.specs.declared.word.Word.TheVariants.{Put, Copy, Nothing}

-- those of a copy; no memory is at the last address of all
abbrev pub range_of : Word → Option Range
range_of (Put word) = None
range_of (Copy member from bytes) = Some (record { start = from; end = min (from + bytes) (2 ^ 64 - 1) })
range_of Nothing = None

unfoldable pub ranges_of : List Meaning → List Range
ranges_of gs = filter_map (λ g. range_of g.word) gs

-- a word from an address on has an address of a range
abbrev pub touches : ℕ → Range → Bool
touches start r = nat_lt r.start r.end && nat_lt start r.end && nat_lt r.start (start + 8)

abbrev pub is_near : List Range → ℕ → Bool
is_near ranges start = list_any (touches start) ranges

-- ranges that rise, with the addresses of others
pub record AreRising (ranges apart : List Range) : Type 0 where
  pub rising : rises 0 apart ≡ true
  pub same : (a : ℕ) → list_any (has a) apart ≡ list_any (has a) ranges
