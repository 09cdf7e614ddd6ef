-- Places of relocations are below 2^64, and a relocation of no kind is of no bytes.
use Rattle.std.proofs.Common.{◌≡◌, ℕ, ◌%◌, ◌^◌, ◌<◌, true, false, List, [], ◌∷◌, ◌++◌, map, refl, sym, subst, ◌∙◌, inl, inr}
use Rattle.std.specs.Prelude.{◌==◌, filter}
use Rattle.std.specs.List.{All, range_with_len}
use Rattle.std.proofs.lemmas.Bool.{cases_Bool}
use Rattle.std.proofs.lemmas.List.Elements.{All-append, All-cons, All-head, All-nil, All-tail}
use Rattle.pl_base.specs.Bytes.{IsBytes}
use Rattle.pl_base.specs.Windows.{Window}
use Rattle.pl_base.proofs.SumLaws.{plus_below}
use Rattle.pl_base.proofs.WordLaws.{is_bytes_part, word64_below}
use Rattle.pl_elf.specs.Kinds.{is_static}
use Rattle.pl_elf.specs.declared.segment.Segment.{Segment}
use Rattle.pl_object.specs.Accepted.{Accepted, tags_of}
use Rattle.pl_object.specs.FilePart.{file_window, loaded}
use Rattle.pl_object.specs.Relocations.{packed_relocs, reloc, reloc_at, relocs, width}
use Rattle.pl_object.specs.TableClauses.{relr_table}
use Rattle.pl_object.specs.Tables.{jmprel_memory, rela_memory}
use Rattle.pl_object.specs.declared.object.Object.{Object}
use Rattle.pl_object.specs.declared.reloc.Reloc.{Reloc}
use Rattle.pl_relr.specs.Entries.{entries, entry, entry_count}
use Rattle.pl_relr.specs.Places.{entry_places, following, has_bit, odd_places, place_bits, place_of_bit, places, places_from}
use Rattle.pl_sym.specs.declared.symbol.Symbol.{Symbol}

-- ---- of mapped lists

pub each_mapped : {X Y : Type 0} (P : Y → Type 0) (f : X → Y) (xs : List X) → ((x : X) → P (f x)) → All P (map f xs)
each_mapped P f [] each = All-nil P
each_mapped P f (x ∷ xs) each = All-cons P (f x) (map f xs) (each x) (each_mapped P f xs each)

-- ---- packed places

abbrev pub IsLow : ℕ → Type 0
IsLow a = a < 2 ^ 64

odd_low : (next e : ℕ) → All IsLow (odd_places next e)
unfolding odd_places
odd_low next e = each_mapped IsLow (place_of_bit next) (filter (has_bit e) place_bits) (λ bit. plus_below next _)

entry_low : (next e : ℕ) → e < 2 ^ 64 → All IsLow (entry_places next e)
unfolding entry_places
entry_low next e low = elim (cases_Bool (e % 2 == 0)) [
  | inl even ↦ rw even (All-cons IsLow e [] low (All-nil IsLow))
  | inr odd ↦ rw odd (odd_low next e)
]

from_low : (next : ℕ) (es : List ℕ) → All IsLow es → All IsLow (places_from next es)
unfolding places_from
from_low next [] low = All-nil IsLow
from_low next (e ∷ es) low = All-append IsLow (entry_places next e) (places_from (following next e) es) (entry_low next e (All-head IsLow e es low)) (from_low (following next e) es (All-tail IsLow e es low))

pub places_low : (table : List ℕ) → IsBytes table → All IsLow (places table)
unfolding places entries
places_low table bytes = from_low 0 (map (entry table) (range_with_len 0 (entry_count table))) (each_mapped IsLow (entry table) (range_with_len 0 (entry_count table)) (λ i. word64_below _ table bytes))

-- ---- relocations

abbrev pub BeginsLow : Reloc → Type 0
BeginsLow r = r.address < 2 ^ 64

rows_low : (ss : List Symbol) (table : List ℕ) → IsBytes table → All BeginsLow (relocs ss table)
unfolding relocs reloc_at
rows_low ss table bytes = each_mapped BeginsLow (reloc ss table) (range_with_len 0 _) (λ i. word64_below _ table bytes)

packed_low : (p : List ℕ) (ss : List Segment) (us : List ℕ) → All IsLow us → All BeginsLow (packed_relocs p ss us)
unfolding packed_relocs
packed_low p ss [] low = All-nil BeginsLow
packed_low p ss (a ∷ us) low = All-cons BeginsLow _ (packed_relocs p ss us) (All-head IsLow a us low) (packed_low p ss us (All-tail IsLow a us low))

loaded_bytes : (p : List ℕ) (ss : List Segment) (m : Window) → IsBytes p → IsBytes (loaded p ss m)
unfolding loaded
loaded_bytes p ss m bytes = is_bytes_part (file_window ss m).at (file_window ss m).size p bytes

pub relocs_low : (p : List ℕ) (o : Object) → Accepted p o → is_static o.kind ≡ false → IsBytes p → All BeginsLow o.relocations
relocs_low p o is other bytes =
    let ts = tags_of p o in
    let ss = o.segments in
    let rela = rows_low o.symbols (loaded p ss (rela_memory ts)) (loaded_bytes p ss (rela_memory ts) bytes) in
    let jmprel = rows_low o.symbols (loaded p ss (jmprel_memory ts)) (loaded_bytes p ss (jmprel_memory ts) bytes) in
    let packed = packed_low p ss (places (relr_table p ss ts)) (places_low (relr_table p ss ts) (loaded_bytes p ss _ bytes)) in
    subst (All BeginsLow) (sym (is.tabled other).rows)
    (All-append BeginsLow (relocs o.symbols (loaded p ss (rela_memory ts)) ++ relocs o.symbols (loaded p ss (jmprel_memory ts))) (packed_relocs p ss (places (relr_table p ss ts)))
    (All-append BeginsLow (relocs o.symbols (loaded p ss (rela_memory ts))) (relocs o.symbols (loaded p ss (jmprel_memory ts))) rela jmprel) packed)

-- ---- one of no kind

pub none_wide : (ss : List Symbol) (r : Reloc) → r.width ≡ width ss r.kind r.symbol → (r.kind == 0) ≡ true → r.width ≡ 0
unfolding width
none_wide ss r is none = is ∙ (rw none refl)
