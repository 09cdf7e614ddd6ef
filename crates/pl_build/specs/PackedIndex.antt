-- Where packed words stand first among lines.
use Rattle.std.specs.Prelude.{◌≡◌, ℕ, ◌==◌, Bool, false, List, Option, Some, None, cond, position}
use Rattle.std.specs.BTreeMap.{get}
use Rattle.std.specs.Option.{option_or}
use Rattle.std.specs.Ordering.{nat_cmp}
use Rattle.pl_build.specs.declared.line.Line.{Line}
use Rattle.pl_build.specs.declared.line.Line.TheVariants.{Packs}
use Rattle.pl_build.specs.declared.packed_index.PackedIndex.{PackedIndex}

-- the place that an index has for an offset
abbrev pub offset_place : PackedIndex → ℕ → Option ℕ
offset_place index offset = get nat_cmp index.places offset

-- the index of no lines
abbrev pub IsEmpty : PackedIndex → Type 0
IsEmpty index = (offset : ℕ) → offset_place index offset ≡ None

-- the offset of a line's packed word
abbrev pub packed_offset : Line → Option ℕ
packed_offset (Packs w) = Some w.offset
packed_offset _ = None

-- an offset is that of a line, if it has one
abbrev pub is_offset : ℕ → Option ℕ → Bool
is_offset offset None = false
is_offset offset (Some own) = own == offset

abbrev pub packs_at : ℕ → Line → Bool
packs_at offset line = is_offset offset (packed_offset line)

-- the offsets that pass have a place more, but where they had one
abbrev pub IsNotedBy : (ℕ → Bool) → PackedIndex → ℕ → PackedIndex → Type 0
IsNotedBy passes old place new = (offset : ℕ) → offset_place new offset ≡ option_or (offset_place old offset) (cond (passes offset) (Some place) None)

-- each offset has the place of the first line that has it
abbrev pub IsPackedIndex : List Line → PackedIndex → Type 0
IsPackedIndex lines index = (offset : ℕ) → offset_place index offset ≡ position (packs_at offset) lines
