-- The places that a table of packed relative relocations names (gABI, "Relative Relocation Table": SHT_RELR, DT_RELR). All sums are modulo 2^64.
use Rattle.std.specs.Prelude.{ℕ, ◌-◌, ◌*◌, ◌/◌, ◌%◌, ◌^◌, Bool, true, false, not, ◌==◌, nat_lt, List, [], ◌∷◌, ◌++◌, length, map, filter, Result, Ok, if◌then◌else◌}
use Rattle.std.specs.List.{range_with_len}
use Rattle.pl_base.specs.Answers.{refuse}
use Rattle.pl_base.specs.Sums.{plus, is_aligned}
use Rattle.pl_relr.specs.declared.entries.TheConstants.{ENTRY_SIZE, PLACE_SIZE, BITS, SPAN}
use Rattle.pl_relr.specs.declared.fault.RelrFault.{RelrFault}
use Rattle.pl_relr.specs.declared.fault.RelrFault.TheVariants.{Packed, NoMemory}
use Rattle.pl_relr.specs.Entries.{entries, is_even}

abbrev pub is_memory : RelrFault → Bool
is_memory NoMemory = true
is_memory Packed = false

abbrev pub has_bit : ℕ → ℕ → Bool
has_bit entry bit = entry / 2 ^ bit % 2 == 1

-- bit 1 of an odd entry stands for the next place, each further bit for the one 8 bytes after
abbrev pub place_of_bit : ℕ → ℕ → ℕ
place_of_bit next bit = plus next (PLACE_SIZE * (bit - 1))

-- the bits of an odd entry that stand for places, 1 to 63
unfoldable pub place_bits : List ℕ
place_bits = range_with_len 1 BITS

-- the places that an odd entry names: those of its bits that are set
unfoldable pub odd_places : ℕ → ℕ → List ℕ
odd_places next entry = map (place_of_bit next) (filter (has_bit entry) place_bits)

-- the places that an entry names, where the next place is this one
unfoldable pub entry_places : ℕ → ℕ → List ℕ
entry_places next entry = if is_even entry then entry ∷ [] else odd_places next entry

-- the next place after an entry
unfoldable pub following : ℕ → ℕ → ℕ
following next entry = if is_even entry then plus entry PLACE_SIZE else plus next SPAN

-- the places that entries name, in their order
unfoldable pub places_from : ℕ → List ℕ → List ℕ
places_from next [] = []
places_from next (entry ∷ rest) = entry_places next entry ++ places_from (following next entry) rest

-- an odd first entry has no next place
abbrev pub begins_odd : List ℕ → Bool
begins_odd [] = false
begins_odd (entry ∷ rest) = not (is_even entry)

-- the places that a table names
unfoldable pub places : List ℕ → List ℕ
places table = places_from 0 (entries table)

-- the places, unless the size is no multiple of an entry's, the first entry is odd, or there are more than `most` places
unfoldable pub unpacked : List ℕ → ℕ → Result (List ℕ) RelrFault
unpacked table most =
    refuse (
    (not (is_aligned (length table) ENTRY_SIZE), Packed)
    ∷ (begins_odd (entries table), Packed)
    ∷ (nat_lt most (length (places table)), Packed)
    ∷ [])
    (Ok (places table))
