-- A fixed file loads the program's bytes, but in link tables and under RELATIVE relocations; so its image is that of the program.
use Rattle.std.proofs.Common.{◌≡◌, ℕ, ◌+◌, ◌-◌, ◌*◌, ◌<◌, ◌≤◌, Bool, true, false, List, [], ◌∷◌, ◌++◌, length, map, get_or, Option, Some, None, refl, sym, ap, subst, ◌∙◌, arith, inl, inr}
use Rattle.std.specs.Prelude.{◌&&◌, not, filter, slice_get, slice_index_or}
use Rattle.std.specs.List.{All, list_any, range_with_len}
use Rattle.std.proofs.lemmas.Bool.{cases_Bool, true≢false, or_parts, or_from}
use Rattle.std.proofs.lemmas.List.{length-map}
use Rattle.std.proofs.lemmas.List.Elements.{All-head, All-tail, All-nil, All-cons}
use Rattle.std.proofs.lemmas.List.Folds.{list_any-append}
use Rattle.std.proofs.lemmas.List.FromFn.{length-range_with_len, get_or-range_with_len}
use Rattle.pl_base.specs.Memory.{is_within}
use Rattle.pl_base.specs.Windows.{Window, holds, share, any_share, AllIn}
use Rattle.pl_base.proofs.MemoryLaws.{within_is}
use Rattle.pl_base.proofs.WindowLaws.{holds_true, not_share}
use Rattle.pl_elf.specs.Clauses.{load_window, load_windows, overlap_in_file}
use Rattle.pl_elf.specs.Headers.{is_load, loads, section_offset, sections}
use Rattle.pl_elf.specs.Kinds.{is_static}
use Rattle.pl_elf.specs.Ranges.{has}
use Rattle.pl_elf.specs.declared.constants.TheConstants.{ADDRESS_LIMIT}
use Rattle.pl_elf.specs.declared.segment.Segment.{Segment}
use Rattle.pl_relr.specs.Places as relr
use Rattle.pl_object.specs.Accepted.{Accepted, tags_of}
use Rattle.pl_object.specs.FilePart.{loader, loaded_by, file_window, loaded}
use Rattle.pl_object.specs.Named.{symbols_of}
use Rattle.pl_object.specs.PlaceClauses.{is_held, reloc_outside}
use Rattle.pl_object.specs.Relocations.{place, places, packed_relocs, relocs}
use Rattle.pl_object.specs.TableClauses.{relr_table}
use Rattle.pl_object.specs.Tables.{sections_window, rela_memory, jmprel_memory, is_allocated}
use Rattle.pl_object.specs.declared.object.Object.{Object}
use Rattle.pl_object.specs.declared.reloc.Reloc.{Reloc}
use Rattle.pl_object.proofs.FilePartLaws.{loads_parts, loader_loads_byte}
use Rattle.pl_tls.specs.declared.module.Module.{Module}
use Rattle.pl_value.specs.Ordinary.{ArePlaced, ordinary}
use Rattle.pl_move.specs.Moves.{all_moved}
use Rattle.pl_move.specs.Objects.{tables_of, LieIn}
use Rattle.pl_move.proofs.MoveLaws.{length-all_moved}
use Rattle.pl_move.proofs.ObjectLaws.{tables_in}
use Rattle.law_fixed.specs.Fixed.{is_relative_at, IsFixedFile, fixed}
use Rattle.law_fixed.specs.Laws.{SameImage}
use Rattle.law_fixed.proofs.Theorem.{fixed_is_ordinary}
use Rattle.pl_pie.specs.Words.{passes, is_address, section_words, undefined_words, packed_words, other_words}
use Rattle.pl_pie.specs.Pie.{as_program, loads_window, begins_low, has_loaded_symbols, loads_sections, writes_kept, is_laid_out, pie}
use Rattle.pl_pie.specs.Fix.{MayBeFixed, word_windows, fixed_bytes}
use Rattle.pl_pie.proofs.WordLaws.{length-added}
use Rattle.pl_pie.proofs.PieLaws.{IsPie, pie_is, not_static, and_both, not_true}
use Rattle.pl_pie.proofs.InsideLaws.{word_windows-append, symbols_size, packed_is, whole_at, words_in}
use Rattle.pl_pie.proofs.HiddenLaws.{inside_out, apart_out, holds_in, symbols_out, tables_out, moved_out, added_out, loader_at, same_load}
use Rattle.pl_pie.proofs.MovableLaws.{movable}

-- ---- words at rows of a table that does not hold the offset

mapped_out : (j : ℕ) (f : ℕ → ℕ) (q : ℕ → Bool) (is : List ℕ) → All (λ i. holds j (record { at = f i; size = 8 }) ≡ false) is → list_any (holds j) (word_windows (map f (filter q is))) ≡ false
mapped_out j f q [] all = refl
mapped_out j f q (i ∷ is) all =
    let one : holds j (record { at = f i; size = 8 }) ≡ false = All-head (λ n. holds j (record { at = f n; size = 8 }) ≡ false) i is all in
    let rest = mapped_out j f q is (All-tail (λ n. holds j (record { at = f n; size = 8 }) ≡ false) i is all) in
    elim (cases_Bool (q i)) [
      | inl hit ↦ rw hit (or_from _ _ one rest)
      | inr miss ↦ rw miss rest
    ]

range_out : (j m : ℕ) (f : ℕ → ℕ) → ((i : ℕ) → i < m → holds j (record { at = f i; size = 8 }) ≡ false) → All (λ i. holds j (record { at = f i; size = 8 }) ≡ false) (range_with_len 0 m)
range_out j m f each i d lt =
    let small : i < m = omega (arith, lt, length-range_with_len 0 m) in
    subst (λ (k : ℕ). holds j (record { at = f k; size = 8 }) ≡ false) (sym (get_or-range_with_len 0 m i d small)) (each (0 + i) (omega (arith, small)))

sections_out : (p : List ℕ) (o : Object) (j : ℕ) → Accepted p o → holds j (sections_window o.header) ≡ false → list_any (holds j) (word_windows (section_words o)) ≡ false
unfolding section_words sections
sections_out p o j is out =
    let h = o.header in
    let count : length o.sections ≡ h.shnum = ap length (sym is.head.sections) ∙ length-map (range_with_len 0 h.shnum) _ ∙ length-range_with_len 0 h.shnum in
    mapped_out j (λ i. section_offset h i + 16) (λ i. passes is_allocated (slice_get o.sections i)) (range_with_len 0 (length o.sections))
    (range_out j (length o.sections) (λ i. section_offset h i + 16) (λ i lt. inside_out j (section_offset h i + 16) (sections_window h) (omega arith) (omega (arith, lt, count)) out))

undefined_out : (p : List ℕ) (o : Object) (j : ℕ) → Accepted p o → is_static o.kind ≡ false → list_any (has j) o.tables ≡ false → list_any (holds j) (word_windows (undefined_words o)) ≡ false
unfolding undefined_words
undefined_out p o j is other none =
    let w : Window = symbols_of o in
    let size : w.size ≡ 24 * length o.symbols = symbols_size p o is other in
    mapped_out j (λ i. w.at + 24 * i + 8) (λ i. passes is_address (slice_get o.symbols i)) (range_with_len 0 (length o.symbols))
    (range_out j (length o.symbols) (λ i. w.at + 24 * i + 8) (λ i lt. inside_out j (w.at + 24 * i + 8) w (omega arith) (omega (arith, lt, size)) (symbols_out o j none)))

-- ---- the section header table

loads_none : (w : Window) (ss : List Segment) → list_any (loads_window w) ss ≡ false → All (λ s. share w (load_window s) ≡ false) (loads ss)
loads_none w [] none = All-nil (λ s. share w (load_window s) ≡ false)
loads_none w (s ∷ ss) none =
    let p = or_parts (loads_window w s) (list_any (loads_window w) ss) none in
    let rest = loads_none w ss p.1 in
    elim (cases_Bool (is_load s)) [
      | inl load ↦ let one : share w (load_window s) ≡ false = rw load at p.0 in rw load (All-cons (λ t. share w (load_window t) ≡ false) s (loads ss) one rest)
      | inr other ↦ rw other rest
    ]

-- ---- packed places

-- the word of a packed place, where no RELATIVE relocation is over the byte
packed_word_out : (p : List ℕ) (ss : List Segment) (a i k : ℕ) (d s : Segment) → any_share (load_windows (loads ss)) ≡ false → i < length (loads ss) → get_or (loads ss) i d ≡ s → k < s.filesz
    → (file_window ss (record { at = a; size = 8 })).size ≡ 8 → is_within a 8 (s.vaddr + k) ≡ false → holds (s.offset + k) (record { at = (file_window ss (record { at = a; size = 8 })).at; size = 8 }) ≡ false
unfolding file_window
packed_word_out p ss a i k d s none lt is few whole out = of_loader (loader ss a) refl whole
  where
    over : (t : Segment) → s ≡ t → (t.vaddr ≤ a) → (t.offset + (a - t.vaddr) ≤ s.offset + k) → (s.offset + k < t.offset + (a - t.vaddr) + 8) → is_within a 8 (s.vaddr + k) ≡ true
    over t same from low high =
        let v : s.vaddr ≡ t.vaddr = ap (λ (q : Segment). q.vaddr) same in
        let o : s.offset ≡ t.offset = ap (λ (q : Segment). q.offset) same in
        within_is a 8 (s.vaddr + k) (omega (arith, v, o, from, low, high)) (omega (arith, v, o, from, low, high))

    of_loader : (m : Option Segment) → loader ss a ≡ m → (loaded_by (record { at = a; size = 8 }) m).size ≡ 8 → holds (s.offset + k) (record { at = (loaded_by (record { at = a; size = 8 }) m).at; size = 8 }) ≡ false
    of_loader None e size = absurd (omega (arith, size))
    of_loader (Some t) e size = elim (cases_Bool (holds (s.offset + k) (record { at = t.offset + (a - t.vaddr); size = 8 }))) [
      | inr miss ↦ miss
      | inl hit ↦
          let h = holds_true (s.offset + k) (record { at = t.offset + (a - t.vaddr); size = 8 }) hit in
          let byte = loads_parts a t (loader_loads_byte a ss t e) in
          let at = loader_at ss a t e in
          let mine : holds (s.offset + k) (load_window (get_or (loads ss) i d)) ≡ true = rw is (holds_in (s.offset + k) s.offset s.filesz (omega arith) (omega (arith, few))) in
          let room : 8 ≤ t.vaddr + t.filesz - a = omega (arith, size) in
          let there : holds (s.offset + k) (load_window (get_or (loads ss) at.0 d)) ≡ true = rw (at.2 d) (holds_in (s.offset + k) t.offset t.filesz (omega (arith, h.0)) (omega (arith, h.1, room, byte.1))) in
          let index : i ≡ at.0 = same_load (loads ss) i at.0 (s.offset + k) d none lt at.1 mine there in
          let same : s ≡ t = sym is ∙ ap (λ (n : ℕ). get_or (loads ss) n d) index ∙ at.2 d in
          absurd (true≢false (sym (over t same byte.1 h.0 h.1) ∙ out))
    ]

packed_list_out : (p : List ℕ) (ss : List Segment) (addresses : List ℕ) (i k : ℕ) (d s : Segment) → any_share (load_windows (loads ss)) ≡ false → i < length (loads ss) → get_or (loads ss) i d ≡ s → k < s.filesz
    → list_any (λ m. not (is_held false ss m)) (places (packed_relocs p ss addresses)) ≡ false → list_any (is_relative_at (s.vaddr + k)) (packed_relocs p ss addresses) ≡ false
    → list_any (holds (s.offset + k)) (word_windows (map (λ r. (file_window ss (place r)).at) (packed_relocs p ss addresses))) ≡ false
unfolding packed_relocs
packed_list_out p ss [] i k d s none lt is few held out = refl
packed_list_out p ss (a ∷ addresses) i k d s none lt is few held out =
    let h = or_parts (not (is_held false ss (record { at = a; size = 8 }))) _ held in
    let q = or_parts (is_within a 8 (s.vaddr + k)) _ out in
    or_from _ _ (packed_word_out p ss a i k d s none lt is few (whole_at ss (record { at = a; size = 8 }) h.0) q.0)
    (packed_list_out p ss addresses i k d s none lt is few h.1 q.1)

packed_out : (p : List ℕ) (o : Object) (i k : ℕ) (d s : Segment) → Accepted p o → is_static o.kind ≡ false → i < length (loads o.segments) → get_or (loads o.segments) i d ≡ s → k < s.filesz
    → list_any (is_relative_at (s.vaddr + k)) o.relocations ≡ false → list_any (holds (s.offset + k)) (word_windows (packed_words o)) ≡ false
unfolding packed_words reloc_outside overlap_in_file
packed_out p o i k d s is other lt here few plain =
    let ss = o.segments in
    let ts = tags_of p o in
    let addresses = relr.places (relr_table p ss ts) in
    let last : List Reloc = packed_relocs p ss addresses in
    let a : List Reloc = relocs o.symbols (loaded p ss (rela_memory ts)) in
    let b : List Reloc = relocs o.symbols (loaded p ss (jmprel_memory ts)) in
    let same = packed_is p o is other in
    let held : list_any (λ m. not (is_held false ss m)) (places last) ≡ false = subst (λ (rs : List Reloc). list_any (λ m. not (is_held false ss m)) (places rs) ≡ false) same is.packed_held in
    let all : list_any (is_relative_at (s.vaddr + k)) (a ++ b ++ last) ≡ false = sym (ap (list_any (is_relative_at (s.vaddr + k))) (is.tabled other).rows) ∙ plain in
    let two = or_parts (list_any (is_relative_at (s.vaddr + k)) (a ++ b)) (list_any (is_relative_at (s.vaddr + k)) last) (sym (list_any-append (is_relative_at (s.vaddr + k)) (a ++ b) last) ∙ all) in
    subst (λ (rs : List Reloc). list_any (holds (s.offset + k)) (word_windows (map (λ r. (file_window ss (place r)).at) rs)) ≡ false) (sym same)
    (packed_list_out p ss addresses i k d s is.files_apart lt here few held two.1)

-- ---- all words

both_out : (j : ℕ) (xs ys : List ℕ) → list_any (holds j) (word_windows xs) ≡ false → list_any (holds j) (word_windows ys) ≡ false → list_any (holds j) (word_windows (xs ++ ys)) ≡ false
both_out j xs ys a b = ap (list_any (holds j)) (word_windows-append xs ys) ∙ list_any-append (holds j) (word_windows xs) (word_windows ys) ∙ or_from _ _ a b

sections_hidden : (bytes : List ℕ) (o : Object) → IsPie bytes o → All (λ s. share (sections_window o.header) (load_window s) ≡ false) (loads o.segments)
unfolding is_laid_out loads_sections
sections_hidden bytes o is =
    let out : Bool = list_any (loads_window (sections_window o.header)) o.segments in
    let a = and_both (begins_low o && has_loaded_symbols o && not out) (not (writes_kept bytes o)) is.laid_out in
    let b = and_both (begins_low o && has_loaded_symbols o) (not out) a.0 in
    loads_none (sections_window o.header) o.segments (not_true out b.1)

words_out : (bytes : List ℕ) (o : Object) (i k : ℕ) (d s : Segment) → IsPie bytes o → i < length (loads o.segments) → get_or (loads o.segments) i d ≡ s → k < s.filesz → list_any (has (s.offset + k)) o.tables ≡ false
    → list_any (is_relative_at (s.vaddr + k)) o.relocations ≡ false → list_any (holds (s.offset + k)) (word_windows (other_words o)) ≡ false
unfolding other_words
words_out bytes o i k d s is lt here few seen plain =
    let p = as_program bytes in
    let other = not_static o.kind is.program in
    let j : ℕ = s.offset + k in
    let apart : share (sections_window o.header) (load_window s) ≡ false = subst (λ (t : Segment). share (sections_window o.header) (load_window t) ≡ false) here (sections_hidden bytes o is i d lt) in
    let mine : holds j (load_window s) ≡ true = holds_in j s.offset s.filesz (omega arith) (omega (arith, few)) in
    let sections : list_any (holds j) (word_windows (section_words o)) ≡ false = sections_out p o j is.accepted (apart_out j (sections_window o.header) (load_window s) (not_share (sections_window o.header) (load_window s) apart) mine) in
    both_out j (section_words o ++ undefined_words o) (packed_words o) (both_out j (section_words o) (undefined_words o) sections (undefined_out p o j is.accepted other seen)) (packed_out p o i k d s is.accepted other lt here few plain)

-- ---- the fixed file

pub fixed_file : (bytes : List ℕ) (o : Object) (at : ℕ) → IsPie bytes o → IsFixedFile o (as_program bytes) (fixed_bytes at o bytes)
unfolding fixed_bytes
fixed_file bytes o at is =
    let p : List ℕ = as_program bytes in
    let other = not_static o.kind is.program in
    let lie : LieIn (length p) o = tables_in p o is.accepted other in
    let moved : List ℕ = all_moved at (tables_of o) p in
    let len : length moved ≡ length p = length-all_moved at (tables_of o) p lie in
    let inside : AllIn (length moved) (word_windows (other_words o)) = rw len (words_in p o is.accepted other) in
    record {
      size = length-added at (other_words o) moved inside ∙ len;
      same = λ i d lt k few seen plain.
          let s : Segment = slice_index_or (loads o.segments) i d in
          added_out at (other_words o) moved (s.offset + k) inside (words_out bytes o i k d s is lt refl few seen plain)
          ∙ moved_out at (tables_of o) p (s.offset + k) lie (tables_out p o (s.offset + k) (is.accepted.tabled other) seen);
    }

small_at : (o : Object) (at : ℕ) → MayBeFixed o at → at ≤ ADDRESS_LIMIT
small_at o at may = omega (arith, may.ends)

-- with the fixed object itself
pub fixed_object_is_ordinary : (at : ℕ) (o : Object) (os : List Object) (bytes : List ℕ) (parts : List (List ℕ)) (places : List ℕ) (modules : List Module)
    → pie bytes ≡ Some o → MayBeFixed o at → ArePlaced (at ∷ places) (as_program bytes ∷ parts) (o ∷ os)
    → SameImage (ordinary (o ∷ os) (as_program bytes ∷ parts) (at ∷ places) modules)
    (ordinary (fixed at o ∷ os) (fixed_bytes at o bytes ∷ parts) (0 ∷ places) modules)
fixed_object_is_ordinary at o os bytes parts places modules pie may placed =
    let is : IsPie bytes o = pie_is bytes o pie in
    fixed_is_ordinary at o os (as_program bytes) (fixed_bytes at o bytes) parts places modules (movable bytes o at is (small_at o at may)) (fixed_file bytes o at is) placed
