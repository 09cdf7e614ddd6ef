-- The words that move lie in the file.
use Rattle.std.proofs.Common.{◌≡◌, ℕ, ◌+◌, ◌-◌, ◌*◌, ◌<◌, ◌≤◌, Bool, true, false, List, [], ◌∷◌, ◌++◌, length, map, drop, refl, sym, ap, subst, ◌∙◌, arith, inl, inr}
use Rattle.std.specs.Prelude.{◌||◌, not, ◌==◌, filter, slice_get}
use Rattle.std.specs.List.{All, list_any, range_with_len}
use Rattle.std.proofs.lemmas.Bool.{cases_Bool, false≢true, or_parts, eqb-true, leb-true}
use Rattle.std.proofs.lemmas.List.{length-map, length-append}
use Rattle.std.proofs.lemmas.List.FromFn.{length-range_with_len, get_or-range_with_len}
use Rattle.std.proofs.lemmas.List.Elements.{All-head, All-tail}
use Rattle.std.proofs.Math.Seq.{drop-append_seam}
use Rattle.pl_base.specs.Windows.{Window, end_of, IsIn, AllIn}
use Rattle.pl_elf.specs.Headers.{section_offset}
use Rattle.pl_elf.specs.Clauses.{segment_passes}
use Rattle.pl_elf.specs.Kinds.{is_static}
use Rattle.pl_elf.specs.declared.segment.Segment.{Segment}
use Rattle.pl_relr.specs.Places as relr
use Rattle.pl_object.specs.Accepted.{Accepted, tags_of}
use Rattle.pl_object.specs.FilePart.{file_window, in_file_part}
use Rattle.pl_object.specs.Named.{symbols_of}
use Rattle.pl_object.specs.PlaceClauses.{is_held, reloc_outside, last_packed}
use Rattle.pl_object.specs.Relocations.{place, places, packed_reloc, packed_relocs, relocs}
use Rattle.pl_object.specs.TableClauses.{relr_table}
use Rattle.pl_object.specs.Tables.{symbols_memory, tables_memory, rela_memory, jmprel_memory, is_allocated}
use Rattle.pl_object.specs.FilePart.{loaded}
use Rattle.pl_object.specs.declared.object.Object.{Object}
use Rattle.pl_object.specs.declared.reloc.Reloc.{Reloc}
use Rattle.pl_object.proofs.ExtentLaws.{file_window_in}
use Rattle.pl_move.proofs.ObjectLaws.{window_in, all_in-append}
use Rattle.pl_elf.specs.Headers.{sections}
use Rattle.pl_pie.specs.Words.{passes, is_address, section_words, undefined_words, packed_words, other_words}
use Rattle.pl_pie.specs.Fix.{word_windows}

-- ---- lists of words

pub word_windows-append : (xs ys : List ℕ) → word_windows (xs ++ ys) ≡ word_windows xs ++ word_windows ys
word_windows-append [] ys = refl
word_windows-append (x ∷ xs) ys = ap (λ (ws : List Window). record { at = x; size = 8 } ∷ ws) (word_windows-append xs ys)

both_in : (n : ℕ) (xs ys : List ℕ) → AllIn n (word_windows xs) → AllIn n (word_windows ys) → AllIn n (word_windows (xs ++ ys))
both_in n xs ys a b = subst (AllIn n) (sym (word_windows-append xs ys)) (all_in-append n (word_windows xs) (word_windows ys) a b)

mapped_in : (n : ℕ) (f : ℕ → ℕ) (q : ℕ → Bool) (is : List ℕ) → All (λ i. f i + 8 ≤ n) is → AllIn n (word_windows (map f (filter q is)))
mapped_in n f q [] all = tt
mapped_in n f q (i ∷ is) all =
    let one : f i + 8 ≤ n = All-head (λ j. f j + 8 ≤ n) i is all in
    let rest = mapped_in n f q is (All-tail (λ j. f j + 8 ≤ n) i is all) in
    elim (cases_Bool (q i)) [
      | inl hit ↦ rw hit (one, rest)
      | inr miss ↦ rw miss rest
    ]

range_in : (n m : ℕ) (f : ℕ → ℕ) → ((i : ℕ) → i < m → f i + 8 ≤ n) → All (λ i. f i + 8 ≤ n) (range_with_len 0 m)
range_in n m f each i d lt =
    let small : i < m = omega (arith, lt, length-range_with_len 0 m) in
    subst (λ (k : ℕ). f k + 8 ≤ n) (sym (get_or-range_with_len 0 m i d small)) (each (0 + i) (omega (arith, small)))

-- ---- sections

sections_in : (p : List ℕ) (o : Object) → Accepted p o → AllIn (length p) (word_windows (section_words o))
unfolding section_words sections
sections_in p o is =
    let h = o.header in
    let count : length o.sections ≡ h.shnum = ap length (sym is.head.sections) ∙ length-map (range_with_len 0 h.shnum) _ ∙ length-range_with_len 0 h.shnum in
    mapped_in (length p) (λ i. section_offset h i + 16) (λ i. passes is_allocated (slice_get o.sections i)) (range_with_len 0 (length o.sections))
    (range_in (length p) (length o.sections) (λ i. section_offset h i + 16) (λ i lt. omega (arith, lt, count, is.head.sections_in)))

-- ---- symbols

not_other : (a b : ℕ) → not (a == b) ≡ false → a ≡ b
not_other a b h = eqb-true a b (double (a == b) h)
  where
    double : (b : Bool) → not b ≡ false → b ≡ true
    double true h = refl
    double false h = absurd (false≢true (sym h))

-- the symbol table has a row for each symbol
pub symbols_size : (p : List ℕ) (o : Object) → Accepted p o → is_static o.kind ≡ false → (symbols_of o).size ≡ 24 * length o.symbols
unfolding tables_memory in_file_part
symbols_size p o is other =
    let tabled = is.tabled other in
    let m = symbols_memory (tags_of p o) o.sections in
    let none = or_parts (not (in_file_part o.segments m)) _ tabled.whole.tables_in in
    ap (λ (w : Window). w.size) tabled.named.symbols ∙ not_other (file_window o.segments m).size m.size none.0 ∙ tabled.whole.symbol_rows

-- it lies in the file
pub symbols_in : (p : List ℕ) (o : Object) → Accepted p o → is_static o.kind ≡ false → (symbols_of o).at + 24 * length o.symbols ≤ length p
symbols_in p o is other =
    let tabled = is.tabled other in
    let inside : IsIn (length p) (symbols_of o) = window_in p o (tags_of p o) (symbols_memory (tags_of p o) o.sections) (symbols_of o) tabled tabled.named.symbols in
    omega (arith, inside, symbols_size p o is other)

undefined_in : (p : List ℕ) (o : Object) → Accepted p o → is_static o.kind ≡ false → AllIn (length p) (word_windows (undefined_words o))
unfolding undefined_words
undefined_in p o is other =
    let le = symbols_in p o is other in
    mapped_in (length p) (λ i. (symbols_of o).at + 24 * i + 8) (λ i. passes is_address (slice_get o.symbols i)) (range_with_len 0 (length o.symbols))
    (range_in (length p) (length o.symbols) (λ i. (symbols_of o).at + 24 * i + 8) (λ i lt. omega (arith, lt, le)))

-- ---- packed places

-- the last so many relocations are those of the packed places
last_of : {X : Type 0} (front last : List X) (n : ℕ) → n ≡ length last → drop (length (front ++ last) - n) (front ++ last) ≡ last
last_of front last n is =
    let at : length (front ++ last) - n ≡ length front = omega (arith, is, length-append front last) in
    ap (λ (k : ℕ). drop k (front ++ last)) at ∙ drop-append_seam front last

pub packed_is : (p : List ℕ) (o : Object) → Accepted p o → is_static o.kind ≡ false → last_packed o.packed o.relocations ≡ packed_relocs p o.segments (relr.places (relr_table p o.segments (tags_of p o)))
unfolding packed_relocs
packed_is p o is other =
    let t = is.tabled other in
    let ts = tags_of p o in
    let addresses = relr.places (relr_table p o.segments ts) in
    let last : List Reloc = map (packed_reloc p o.segments) addresses in
    let front : List Reloc = relocs o.symbols (loaded p o.segments (rela_memory ts)) ++ relocs o.symbols (loaded p o.segments (jmprel_memory ts)) in
    let rows : o.relocations ≡ front ++ last = t.rows in
    let count : o.packed ≡ length last = t.packed ∙ sym (length-map addresses (packed_reloc p o.segments)) in
    ap (last_packed o.packed) rows ∙ last_of front last o.packed count

-- a window that is held in the file part stands there whole
pub whole_at : (ss : List Segment) (m : Window) → not (is_held false ss m) ≡ false → (file_window ss m).size ≡ m.size
unfolding is_held in_file_part
whole_at ss m h = eqb-true (file_window ss m).size m.size (held ((file_window ss m).size == m.size) h)
  where
    held : (b : Bool) → not (b || false) ≡ false → b ≡ true
    held true e = refl
    held false e = absurd (false≢true (sym e))

places_in : (p : List ℕ) (ss : List Segment) (addresses : List ℕ) → list_any (segment_passes p false) ss ≡ false → list_any (λ m. not (is_held false ss m)) (places (packed_relocs p ss addresses)) ≡ false
    → AllIn (length p) (word_windows (map (λ r. (file_window ss (place r)).at) (packed_relocs p ss addresses)))
unfolding packed_relocs
places_in p ss [] files none = tt
places_in p ss (a ∷ addresses) files none =
    let m : Window = record { at = a; size = 8 } in
    let q = or_parts (not (is_held false ss m)) _ none in
    let inside : IsIn (length p) (file_window ss m) = leb-true (end_of (file_window ss m)) (length p) (file_window_in p ss m files) in
    let whole : (file_window ss m).size ≡ 8 = whole_at ss m q.0 in
    (omega (arith, inside, whole), places_in p ss addresses files q.1)

pub packed_in : (p : List ℕ) (o : Object) → Accepted p o → is_static o.kind ≡ false → AllIn (length p) (word_windows (packed_words o))
unfolding packed_words reloc_outside
packed_in p o is other =
    let same = packed_is p o is other in
    let addresses = relr.places (relr_table p o.segments (tags_of p o)) in
    let none : list_any (λ m. not (is_held false o.segments m)) (places (packed_relocs p o.segments addresses)) ≡ false = subst (λ (rs : List Reloc). list_any (λ m. not (is_held false o.segments m)) (places rs) ≡ false) same is.packed_held in
    subst (λ (rs : List Reloc). AllIn (length p) (word_windows (map (λ r. (file_window o.segments (place r)).at) rs))) (sym same) (places_in p o.segments addresses (is.tabled other).files none)

-- ---- all of them

pub words_in : (p : List ℕ) (o : Object) → Accepted p o → is_static o.kind ≡ false → AllIn (length p) (word_windows (other_words o))
unfolding other_words
words_in p o is other =
    both_in (length p) (section_words o ++ undefined_words o) (packed_words o)
    (both_in (length p) (section_words o) (undefined_words o) (sections_in p o is) (undefined_in p o is other)) (packed_in p o is other)
