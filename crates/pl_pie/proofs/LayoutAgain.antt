-- The hash tables and the relocations that are read of a fixed file are those of the fixed program.
use Rattle.std.proofs.Common.{◌≡◌, ℕ, ◌^◌, ◌<◌, Bool, true, false, List, [], ◌∷◌, ◌++◌, length, map, refl, sym, ap, subst, ◌∙◌, arith}
use Rattle.std.specs.Prelude.{ℤ, ◌==◌, if◌then◌else◌}
use Rattle.std.specs.Int.{w64, cast_signed}
use Rattle.std.specs.List.{All}
use Rattle.std.proofs.lemmas.Int.{of_z-to_z}
use Rattle.std.proofs.lemmas.List.{length-map, map-append}
use Rattle.std.proofs.lemmas.List.Elements.{All-head, All-tail}
use Rattle.pl_base.specs.Bytes.{IsBytes, word64}
use Rattle.pl_base.specs.Sums.{plus}
use Rattle.pl_base.specs.Windows.{Window, within}
use Rattle.pl_base.proofs.WordLaws.{is_bytes_part, word64_below}
use Rattle.pl_dyn.specs.declared.tags.Tag.{Tag}
use Rattle.pl_elf.specs.declared.segment.Segment.{Segment}
use Rattle.pl_hash.specs.Table.{HashTable}
use Rattle.pl_object.specs.FilePart.{file_window, loaded}
use Rattle.pl_object.specs.Reads.{layout, packed_places, relocations}
use Rattle.pl_object.specs.Relocations.{file_word, packed_reloc, packed_relocs, relocs, word_of}
use Rattle.pl_object.specs.SymbolClauses.{hash_tables}
use Rattle.pl_object.specs.TableClauses.{relr_table}
use Rattle.pl_object.specs.Tables.{jmprel_memory, link_windows, rela_memory}
use Rattle.pl_object.specs.declared.headers.Headers.{Headers}
use Rattle.pl_object.specs.declared.layout.Layout.{Layout}
use Rattle.pl_object.specs.declared.linking.Linking.{Linking}
use Rattle.pl_object.specs.declared.object.Object.{Object}
use Rattle.pl_object.specs.declared.reloc.Reloc.{Reloc}
use Rattle.pl_object.proofs.TabledLaws.{packed_is, tables_pass}
use Rattle.pl_relr.specs.Places as relr
use Rattle.law_fixed.specs.Fixed.{fixed, fixed_reloc, fixed_section, fixed_segment, fixed_symbol, moved_addend}
use Rattle.pl_pie.specs.Pie.{as_program}
use Rattle.pl_pie.proofs.AlikeLaws.{jmprel_alike, rela_alike}
use Rattle.pl_pie.proofs.AtLaws.{IsAt, file_at, headers_of, layout_of, linking_of, new_tags, old_tags}
use Rattle.pl_pie.proofs.LowLaws.{places_low}
use Rattle.pl_pie.proofs.MemoryLaws.{alike_within}
use Rattle.pl_pie.proofs.PackedAgain.{packed_again}
use Rattle.pl_pie.proofs.SymbolsAgain.{hashes_again}
use Rattle.pl_pie.proofs.TablesRead.{jmprel_read, rela_read}
use Rattle.pl_pie.proofs.WordsAgain.{word_again}

-- ---- packed relocations

word_low : (xs : List ℕ) → IsBytes xs → word_of xs < 2 ^ 64
word_low xs bytes = by (length xs == 8)
  where
    by : (b : Bool) → (if b then word64 0 xs else 0) < 2 ^ 64
    by true = word64_below 0 xs bytes
    by false = omega arith

file_word_low : (p : List ℕ) (ss : List Segment) (a : ℕ) → IsBytes p → file_word p ss a < 2 ^ 64
unfolding file_word loaded
file_word_low p ss a bytes = let m : Window = record { at = a; size = 8 } in word_low (within (file_window ss m) p) (is_bytes_part (file_window ss m).at (file_window ss m).size p bytes)

-- the word at a moved place has the address
abbrev pub HasWord : ℕ → List ℕ → List ℕ → List Segment → ℕ → Type 0
HasWord at p file ss a = file_word file (map (fixed_segment at) ss) (plus a at) ≡ plus (file_word p ss a) at

one_packed : (at a old new : ℕ) → old < 2 ^ 64 → new ≡ plus old at → cast_signed w64 new ≡ moved_addend at (cast_signed w64 old)
one_packed at a old new low is = ap (cast_signed w64) (is ∙ ap (λ (n : ℕ). plus n at) (sym (of_z-to_z w64 old low)))

one_moved : (at : ℕ) (p file : List ℕ) (ss : List Segment) (a : ℕ) → IsBytes p → HasWord at p file ss a → packed_reloc file (map (fixed_segment at) ss) (plus a at) ≡ fixed_reloc at (packed_reloc p ss a)
unfolding fixed_reloc
one_moved at p file ss a bytes is =
    ap (λ (z : ℤ). record { address = plus a at; kind = 8; symbol = 0; addend = z; width = 8 }) (one_packed at a (file_word p ss a) (file_word file (map (fixed_segment at) ss) (plus a at)) (file_word_low p ss a bytes) is)

packed_moved : (at : ℕ) (p file : List ℕ) (ss : List Segment) (us : List ℕ) → IsBytes p → All (HasWord at p file ss) us → packed_relocs file (map (fixed_segment at) ss) (map (λ place. plus place at) us) ≡ map (fixed_reloc at) (packed_relocs p ss us)
unfolding packed_relocs
packed_moved at p file ss [] bytes all = refl
packed_moved at p file ss (a ∷ us) bytes all =
    rw (one_moved at p file ss a bytes (All-head (HasWord at p file ss) a us all), packed_moved at p file ss us bytes (All-tail (HasWord at p file ss) a us all)) refl

-- ---- all relocations

three_mapped : (f : Reloc → Reloc) (xs ys zs : List Reloc) → map f xs ++ map f ys ++ map f zs ≡ map f (xs ++ ys ++ zs)
three_mapped f xs ys zs = sym (map-append f (xs ++ ys) zs ∙ ap (λ (rs : List Reloc). rs ++ map f zs) (map-append f xs ys))

layout_from : (xs : List ℕ) (f : Headers) (ts : List Tag) (l : Linking) (hs : List HashTable) (rs : List Reloc) (n : ℕ) → hash_tables xs f.segments f.sections ts (length l.symbols) ≡ hs → relocations xs f.segments ts l.symbols ≡ rs
    → length (packed_places xs f.segments ts) ≡ n → layout xs f ts l ≡ record { hashes = hs; relocations = rs; packed = n; windows = link_windows f.header f.segments f.sections ts }
unfolding layout
layout_from xs f ts l hs rs n a b c = rw (a, b, c) refl

module _ (bytes : List ℕ) (o : Object) (at : ℕ) (is : IsAt bytes o at) where
  abbrev p : List ℕ
  p = as_program bytes

  abbrev file : List ℕ
  file = file_at at o bytes

  abbrev ts : List Tag
  ts = old_tags bytes o

  abbrev moved_tags : List Tag
  moved_tags = new_tags at bytes o

  abbrev ss : List Segment
  ss = o.segments

  abbrev moved_segments : List Segment
  moved_segments = map (fixed_segment at) o.segments

  old_hashes : hash_tables p ss o.sections ts (length o.symbols) ≡ o.hashes
  unfolding layout
  old_hashes = ap (λ (x : Layout). x.hashes) is.places

  old_relocations : relocations p ss ts o.symbols ≡ o.relocations
  unfolding layout
  old_relocations = ap (λ (x : Layout). x.relocations) is.places

  old_count : length (packed_places p ss ts) ≡ o.packed
  unfolding layout
  old_count = ap (λ (x : Layout). x.packed) is.places

  rela_there : relocs (map (fixed_symbol at) o.symbols) (loaded file moved_segments (rela_memory moved_tags)) ≡ map (fixed_reloc at) (relocs o.symbols (loaded p ss (rela_memory ts)))
  unfolding loaded
  rela_there =
      let t = is.pie.accepted.tabled is.other in
      ap (relocs (map (fixed_symbol at) o.symbols)) (alike_within _ _ file (rela_alike bytes o at is) ∙ ap (λ (w : Window). within w file) (sym t.named.rela))
      ∙ rela_read at p o is.pie.accepted is.other is.are_bytes o.symbols
      ∙ ap (λ (w : Window). map (fixed_reloc at) (relocs o.symbols (within w p))) t.named.rela

  jmprel_there : relocs (map (fixed_symbol at) o.symbols) (loaded file moved_segments (jmprel_memory moved_tags)) ≡ map (fixed_reloc at) (relocs o.symbols (loaded p ss (jmprel_memory ts)))
  unfolding loaded
  jmprel_there =
      let t = is.pie.accepted.tabled is.other in
      ap (relocs (map (fixed_symbol at) o.symbols)) (alike_within _ _ file (jmprel_alike bytes o at is) ∙ ap (λ (w : Window). within w file) (sym t.named.jmprel))
      ∙ jmprel_read at p o is.pie.accepted is.other is.are_bytes o.symbols
      ∙ ap (λ (w : Window). map (fixed_reloc at) (relocs o.symbols (within w p))) t.named.jmprel

  table_bytes : IsBytes (relr_table p ss ts)
  unfolding loaded
  table_bytes = is_bytes_part _ _ p is.are_bytes

  abbrev addresses : List ℕ
  addresses = relr.places (relr_table p ss ts)

  words_there : All (HasWord at p file ss) addresses
  words_there k d lt = word_again at p o is.pie.accepted is.other k d is.stands lt (places_low (relr_table p ss ts) table_bytes k d lt)

  packed_there : packed_places p ss ts ≡ addresses → packed_relocs file moved_segments (packed_places file moved_segments moved_tags) ≡ map (fixed_reloc at) (packed_relocs p ss (packed_places p ss ts))
  packed_there same =
      ap (packed_relocs file moved_segments) (packed_again bytes o at is)
      ∙ packed_moved at p file ss (packed_places p ss ts) is.are_bytes (subst (All (HasWord at p file ss)) (sym same) words_there)

  relocations_again : packed_places p ss ts ≡ addresses → relocations file moved_segments moved_tags (map (fixed_symbol at) o.symbols) ≡ map (fixed_reloc at) o.relocations
  unfolding relocations
  relocations_again same =
      rw (rela_there, jmprel_there, packed_there same) (three_mapped (fixed_reloc at) (relocs o.symbols (loaded p ss (rela_memory ts))) (relocs o.symbols (loaded p ss (jmprel_memory ts))) (packed_relocs p ss (packed_places p ss ts)))
      ∙ ap (map (fixed_reloc at)) old_relocations

  same_places : packed_places p ss ts ≡ addresses
  same_places = (packed_is p o.header ss o.sections ts (tables_pass p o.header ss o.sections ts tt is.tables).packed).places

  hashes_there : hash_tables file moved_segments (map (fixed_section at) o.sections) moved_tags (length (map (fixed_symbol at) o.symbols)) ≡ o.hashes
  hashes_there = hashes_again bytes o at (length (map (fixed_symbol at) o.symbols)) is ∙ ap (hash_tables p ss o.sections ts) (length-map o.symbols (fixed_symbol at)) ∙ old_hashes

  count_there : length (packed_places file moved_segments moved_tags) ≡ o.packed
  count_there = ap length (packed_again bytes o at is) ∙ length-map (packed_places p ss ts) (λ place. plus place at) ∙ old_count

pub layout_again : (bytes : List ℕ) (o : Object) (at : ℕ) → IsAt bytes o at → layout (file_at at o bytes) (headers_of (fixed at o)) (new_tags at bytes o) (linking_of (fixed at o)) ≡ layout_of (new_tags at bytes o) (fixed at o)
unfolding fixed
layout_again bytes o at is =
    layout_from (file_at at o bytes) (headers_of (fixed at o)) (new_tags at bytes o) (linking_of (fixed at o)) o.hashes (map (fixed_reloc at) o.relocations) o.packed
    (hashes_there bytes o at is) (relocations_again bytes o at is (same_places bytes o at is)) (count_there bytes o at is)
