-- Rows of tables are read as they were written.
use Rattle.std.proofs.Common.{◌≡◌, ℕ, ◌+◌, ◌*◌, ◌/◌, ◌%◌, ◌<◌, List, [], ◌∷◌, length, map, Option, Some, None, Result, Ok, Err, refl, ap, ◌∙◌, arith}
use Rattle.std.specs.List.{AllByRecursion, flat_map, range_with_len}
use Rattle.std.specs.Int.{byte_at}
use Rattle.byteorder.specs.Numbers.{little_number-reads_back}
use Rattle.pl_base.specs.Bytes.{byte, part, word16, word32, word64}
use Rattle.pl_base.specs.Each.{each}
use Rattle.pl_base.specs.Strings.{string_at}
use Rattle.pl_base.proofs.WindowLaws.{part_byte}
use Rattle.pl_base.proofs.WordLaws.{word16_part, word32_part, word64_part}
use Rattle.pl_dyn.specs.Entries.{entries}
use Rattle.pl_dyn.specs.declared.tags.Tag.{Tag}
use Rattle.pl_sym.specs.Table as table
use Rattle.pl_sym.specs.declared.fault.SymFault.{SymFault}
use Rattle.pl_sym.specs.declared.fault.SymFault.TheVariants.{BadSymbol}
use Rattle.pl_sym.specs.declared.symbol.Symbol.{Symbol}
use Rattle.pl_object.specs.Relocations.{relocs, reloc_at}
use Rattle.pl_build.specs.declared.fields.Field.TheVariants.{Byte, Half, Word, Xword}
use Rattle.pl_build.specs.declared.relocations.Rela.{Rela}
use Rattle.pl_build.specs.declared.symbol_table.SymbolEntry.{SymbolEntry}
use Rattle.pl_build.specs.Dynamic.{tag_bytes}
use Rattle.pl_build.specs.Fields.{fields}
use Rattle.pl_build.specs.Relocations.{rela_bytes}
use Rattle.pl_build.specs.SymbolTable.{entry_bytes}
use Rattle.law_demo.specs.Rows.{FitsTag, EntriesAreRead, FitsRela, reloc_of, RelocsAreRead, Named, FitsEntry, IsFound, symbol_of, SymbolsAreRead}
use Rattle.law_demo.proofs.BackLaws.{begins_itself, rows_back, rows_long}

map_same : {X Y : Type 0} (f g : X → Y) → ((x : X) → f x ≡ g x) → (xs : List X) → map f xs ≡ map g xs
map_same f g same [] = refl
map_same {Y = Y} f g same (x ∷ xs) = ap (λ (y : Y). y ∷ map f xs) (same x) ∙ ap (λ (ys : List Y). g x ∷ ys) (map_same f g same xs)

-- the rows of a whole table
pub table_back : {X : Type 0} (width : ℕ) (written : X → List ℕ) (read : List ℕ → ℕ → X) (fits : X → Type 0)
    → ((x : X) → length (written x) ≡ width) → ((x : X) → fits x → read (written x) 0 ≡ x) → ((bytes : List ℕ) (at : ℕ) → read (part at width bytes) 0 ≡ read bytes at)
    → (xs : List X) → AllByRecursion fits xs
    → map (λ i. read (flat_map written xs) (width * i)) (range_with_len 0 (length xs)) ≡ xs
table_back width written read fits long back alike xs all =
    let bytes : List ℕ = flat_map written xs in
    map_same (λ i. read bytes (width * i)) (λ i. read bytes (0 + width * i)) (λ i. ap (read bytes) (let e : width * i ≡ 0 + width * i = omega arith in e)) (range_with_len 0 (length xs))
    ∙ rows_back width written read fits long back alike bytes [] 0 xs (begins_itself bytes) refl all

-- ---- entries of a dynamic table

read_tag : List ℕ → ℕ → Tag
read_tag bytes at = record { number = word64 at bytes; value = word64 (at + 8) bytes }

pub tag_long : (t : Tag) → length (tag_bytes t) ≡ 16
unfolding tag_bytes fields
tag_long t = refl

tag_back : (t : Tag) → FitsTag t → read_tag (tag_bytes t) 0 ≡ t
unfolding read_tag tag_bytes fields word64
tag_back t fits = rw (little_number-reads_back 8 t.number (fields (Xword t.value ∷ [])) fits.number, little_number-reads_back 8 t.value [] fits.value) refl

tag_alike : (bytes : List ℕ) (at : ℕ) → read_tag (part at 16 bytes) 0 ≡ read_tag bytes at
unfolding read_tag
tag_alike bytes at =
    let here : at + 0 ≡ at = omega arith in
    rw (word64_part at 16 0 bytes (omega arith) ∙ ap (λ (n : ℕ). word64 n bytes) here, word64_part at 16 8 bytes (omega arith)) refl

pub entries_read : EntriesAreRead
unfolding entries read_tag
entries_read rows all =
    let bytes : List ℕ = flat_map tag_bytes rows in
    let count : length bytes / 16 ≡ length rows = omega (arith, rows_long 16 tag_bytes tag_long rows) in
    ap (λ (n : ℕ). map (λ i. read_tag bytes (16 * i)) (range_with_len 0 n)) count
    ∙ table_back 16 tag_bytes read_tag FitsTag tag_long tag_back tag_alike rows all

-- ---- relocations

read_rela : List ℕ → ℕ → Rela
read_rela bytes at = record { offset = word64 at bytes; kind = word32 (at + 8) bytes; symbol = word32 (at + 12) bytes; addend = word64 (at + 16) bytes }

rela_long : (r : Rela) → length (rela_bytes r) ≡ 24
unfolding rela_bytes fields
rela_long r = refl

rela_back : (r : Rela) → FitsRela r → read_rela (rela_bytes r) 0 ≡ r
unfolding read_rela rela_bytes fields word32 word64
rela_back r fits =
    rw (
      little_number-reads_back 8 r.offset (fields (Word r.kind ∷ Word r.symbol ∷ Xword r.addend ∷ [])) fits.offset,
      little_number-reads_back 4 r.kind (fields (Word r.symbol ∷ Xword r.addend ∷ [])) fits.kind,
      little_number-reads_back 4 r.symbol (fields (Xword r.addend ∷ [])) fits.symbol,
      little_number-reads_back 8 r.addend [] fits.addend,
    )
    refl

rela_alike : (bytes : List ℕ) (at : ℕ) → read_rela (part at 24 bytes) 0 ≡ read_rela bytes at
unfolding read_rela
rela_alike bytes at =
    let here : at + 0 ≡ at = omega arith in
    rw (word64_part at 24 0 bytes (omega arith) ∙ ap (λ (n : ℕ). word64 n bytes) here, word32_part at 24 8 bytes (omega arith), word32_part at 24 12 bytes (omega arith), word64_part at 24 16 bytes (omega arith)) refl

pub map_map : {X Y Z : Type 0} (f : Y → Z) (g : X → Y) (xs : List X) → map (λ x. f (g x)) xs ≡ map f (map g xs)
map_map f g [] = refl
map_map {Z = Z} f g (x ∷ xs) = ap (λ (zs : List Z). f (g x) ∷ zs) (map_map f g xs)

pub relocs_read : RelocsAreRead
unfolding relocs reloc_at reloc_of read_rela
relocs_read symbols rows all =
    let bytes : List ℕ = flat_map rela_bytes rows in
    let count : length bytes / 24 ≡ length rows = omega (arith, rows_long 24 rela_bytes rela_long rows) in
    ap (λ (n : ℕ). map (λ i. reloc_of symbols (read_rela bytes (24 * i))) (range_with_len 0 n)) count
    ∙ map_map (reloc_of symbols) (λ i. read_rela bytes (24 * i)) (range_with_len 0 (length rows))
    ∙ ap (map (reloc_of symbols)) (table_back 24 rela_bytes read_rela FitsRela rela_long rela_back rela_alike rows all)

-- ---- symbols

read_entry : List ℕ → ℕ → SymbolEntry
read_entry bytes at = record {
  name = word32 at bytes;
  bind = byte (at + 4) bytes / 16;
  kind = byte (at + 4) bytes % 16;
  visibility = byte (at + 5) bytes % 4;
  section = word16 (at + 6) bytes;
  value = word64 (at + 8) bytes;
  size = word64 (at + 16) bytes;
}

entry_long : (e : SymbolEntry) → length (entry_bytes e) ≡ 24
unfolding entry_bytes fields
entry_long e = refl

-- a number of one byte
byte_back : (n : ℕ) → n < 256 → byte_at 0 n ≡ n
byte_back n small =
    let back : byte_at 0 n + 256 * 0 ≡ n = little_number-reads_back 1 n [] small in
    omega (arith, back)

high_back : (b k : ℕ) → k < 16 → (b * 16 + k) / 16 ≡ b
high_back b k small = omega (arith, small)

low_back : (b k : ℕ) → k < 16 → (b * 16 + k) % 16 ≡ k
low_back b k small = omega (arith, small)

rest_back : (v : ℕ) → v < 4 → v % 4 ≡ v
rest_back v small = omega (arith, small)

entry_back : (e : SymbolEntry) → FitsEntry e → read_entry (entry_bytes e) 0 ≡ e
unfolding read_entry entry_bytes fields word16 word32 word64
entry_back e fits =
    rw (
      little_number-reads_back 4 e.name (fields (Byte (e.bind * 16 + e.kind) ∷ Byte e.visibility ∷ Half e.section ∷ Xword e.value ∷ Xword e.size ∷ [])) fits.name,
      byte_back (e.bind * 16 + e.kind) (omega (arith, fits.bind, fits.kind)),
      byte_back e.visibility (omega (arith, fits.visibility)),
      little_number-reads_back 2 e.section (fields (Xword e.value ∷ Xword e.size ∷ [])) fits.section,
      little_number-reads_back 8 e.value (fields (Xword e.size ∷ [])) fits.value,
      little_number-reads_back 8 e.size [] fits.size,
      high_back e.bind e.kind fits.kind,
      low_back e.bind e.kind fits.kind,
      rest_back e.visibility fits.visibility,
    )
    refl

byte_alike : (bytes : List ℕ) (at k : ℕ) → k < 24 → byte k (part at 24 bytes) ≡ byte (at + k) bytes
byte_alike bytes at k lt = part_byte at 24 bytes k lt

entry_alike : (bytes : List ℕ) (at : ℕ) → read_entry (part at 24 bytes) 0 ≡ read_entry bytes at
unfolding read_entry
entry_alike bytes at =
    let here : at + 0 ≡ at = omega arith in
    rw (
      word32_part at 24 0 bytes (omega arith) ∙ ap (λ (n : ℕ). word32 n bytes) here,
      byte_alike bytes at 4 (omega arith),
      byte_alike bytes at 5 (omega arith),
      word16_part at 24 6 bytes (omega arith),
      word64_part at 24 8 bytes (omega arith),
      word64_part at 24 16 bytes (omega arith),
    )
    refl

-- a row under the name that stands where it says
told_name : SymbolEntry → Option (List ℕ) → Result Symbol SymFault
told_name e None = Err BadSymbol
told_name e (Some name) = Ok (symbol_of (record { name = name; entry = e }))

told : List ℕ → SymbolEntry → Result Symbol SymFault
told strings e = told_name e (string_at e.name strings)

same_named : (bytes : List ℕ) (at : ℕ) (name : Option (List ℕ)) → table.named bytes at name ≡ told_name (read_entry bytes at) name
unfolding told_name read_entry symbol_of
same_named bytes at None = refl
same_named bytes at (Some name) = refl

same_symbol : (bytes strings : List ℕ) (at : ℕ) → table.symbol_at bytes strings at ≡ told strings (read_entry bytes at)
unfolding table.symbol_at told read_entry
same_symbol bytes strings at = same_named bytes at (string_at (word32 at bytes) strings)

each_same : {A B E : Type 0} (f g : A → Result B E) → ((x : A) → f x ≡ g x) → (xs : List A) → each f xs ≡ each g xs
unfolding each
each_same f g same [] = refl
each_same f g same (x ∷ xs) = rw (same x, each_same f g same xs) refl

each_map : {A B C E : Type 0} (f : B → Result C E) (g : A → B) (xs : List A) → each (λ x. f (g x)) xs ≡ each f (map g xs)
unfolding each
each_map f g [] = refl
each_map f g (x ∷ xs) = rw (each_map f g xs) refl

all_told : (strings : List ℕ) (rows : List Named) → AllByRecursion (IsFound strings) rows → each (told strings) (map (λ n. n.entry) rows) ≡ Ok (map symbol_of rows)
unfolding each told told_name
all_told strings [] all = refl
all_told strings (n ∷ rows) all = rw (all.0.name, all_told strings rows all.1) refl

all_fit : (strings : List ℕ) (rows : List Named) → AllByRecursion (IsFound strings) rows → AllByRecursion FitsEntry (map (λ n. n.entry) rows)
all_fit strings [] all = tt
all_fit strings (n ∷ rows) all = (all.0.fits, all_fit strings rows all.1)

pub symbols_read : SymbolsAreRead
unfolding table.symbols
symbols_read strings rows all =
    let entries : List SymbolEntry = map (λ n. n.entry) rows in
    let bytes : List ℕ = flat_map entry_bytes entries in
    let count : length bytes / 24 ≡ length entries = omega (arith, rows_long 24 entry_bytes entry_long entries) in
    ap (λ (n : ℕ). each (λ i. table.symbol_at bytes strings (24 * i)) (range_with_len 0 n)) count
    ∙ each_same (λ i. table.symbol_at bytes strings (24 * i)) (λ i. told strings (read_entry bytes (24 * i))) (λ i. same_symbol bytes strings (24 * i)) (range_with_len 0 (length entries))
    ∙ each_map (told strings) (λ i. read_entry bytes (24 * i)) (range_with_len 0 (length entries))
    ∙ ap (each (told strings)) (table_back 24 entry_bytes read_entry FitsEntry entry_long entry_back entry_alike entries (all_fit strings rows all))
    ∙ all_told strings rows all
