-- The plans of a library and of a program fit their originals.
use Rattle.std.proofs.Common.{◌≡◌, ℕ, zero, suc, ◌+◌, ◌-◌, ◌*◌, ◌^◌, ◌<◌, ◌≤◌, true, false, List, [], ◌∷◌, ◌++◌, length, get_or, replicate, refl, sym, ap, subst, ◌∙◌, append_assoc, arith, inl, inr}
use Rattle.std.specs.Prelude.{◌&&◌, ◌≢◌, ◌==◌, nat_le, nat_lt, map}
use Rattle.std.proofs.lemmas.Bool.{cases_Bool, cases_lt, and_parts, leb-true}
use Rattle.std.proofs.lemmas.Bool.Decides.{nat_tests}
use Rattle.std.proofs.lemmas.List.{length-append, length-replicate, length-map, get_or-map}
use Rattle.std.proofs.lemmas.List.FromFn.{length-map-range_with_len}
use Rattle.pl_base.specs.Bytes.{IsBytes, word64, bytes64}
use Rattle.pl_base.specs.Sums.{round_up}
use Rattle.pl_base.specs.Windows.{within, are_in, AllIn}
use Rattle.pl_base.proofs.WordLaws.{length_bytes64}
use Rattle.pl_base.proofs.WindowLaws.{length-put, length-within, all_in}
use Rattle.pl_elf.specs.Headers.{header, segment, segments, sections}
use Rattle.pl_elf.specs.declared.header.Header.{Header}
use Rattle.pl_elf.specs.declared.segment.Segment.{Segment}
use Rattle.pl_elf.specs.declared.section.Section.{Section}
use Rattle.pl_move.specs.Moves.{table_windows, rows, row_moved}
use Rattle.pl_elf.specs.Headers.{is_moved_kind}
use Rattle.pl_move.specs.declared.kind.RowKind.TheVariants.{TagValue}
use Rattle.pl_form.specs.Back.{head_windows, spot_windows, wanted}
use Rattle.pl_form.specs.Parts.{Original, table_at, entry_bytes, with_entries, moved_segment, moved_section, library_dynamic, library_sections, library_plan, zeros_part, extension_at, lists_part, extension, whole_extension, shifted_segment, extended_segment, program_segments, program_sections, program_section, program_dynamic, program_plan, with_tag, rows_at, conflicts_at}
use Rattle.pl_form.specs.declared.parts.Listed.{Listed}
use Rattle.pl_form.specs.declared.parts.Extension.{Extension}
use Rattle.pl_move.proofs.MoveLaws.{length-rows, length-row_moved}
use Rattle.pl_form.specs.Fits.{Fits}
use Rattle.pl_form.specs.Loads.{hidden_windows}
use Rattle.pl_form.proofs.LoadLaws.{IsKept}
use Rattle.pl_form.proofs.LoadTheorem.{IsGrown, zeros_agree}

-- ---- what acceptance gives of an original of either kind

pub record IsTaken (o : Original) : Type 0 where
  pub bytes : IsBytes o.bytes
  pub heads_in : are_in (length o.bytes) (head_windows (header o.bytes) ++ o.dynamic ∷ []) ≡ true
  pub tables_in : are_in (length o.bytes) (table_windows o.tables) ≡ true
  pub spots_in : are_in (length o.bytes) (spot_windows o.spots) ≡ true
  pub apart : 64 ≤ (header o.bytes).phoff
  pub few : (header o.bytes).shnum ≤ 65000

dynamic_in : (o : Original) → IsTaken o → length (within o.dynamic o.bytes) ≡ o.dynamic.size
dynamic_in o taken = length-within o.dynamic o.bytes (all_in (length o.bytes) (head_windows (header o.bytes) ++ o.dynamic ∷ []) taken.heads_in).1.1.1.0

length-entry : (tag value : ℕ) → length (entry_bytes tag value) ≡ 16
length-entry tag value = length-append (bytes64 tag) (bytes64 value) ∙ omega (arith, length_bytes64 tag, length_bytes64 value)

length-entries : (o : Original) (f : List ℕ → List ℕ) (entries : List ℕ) → IsTaken o → ((r : List ℕ) → length r ≡ 16 → length (f r) ≡ 16) → 16 * o.tags + length entries ≤ o.dynamic.size
    → length (with_entries o entries (rows 16 f o.tags (within o.dynamic o.bytes))) ≡ o.dynamic.size
unfolding with_entries
length-entries o f entries taken keeps fits =
    let d = dynamic_in o taken in
    let n : length (rows 16 f o.tags (within o.dynamic o.bytes)) ≡ o.dynamic.size = length-rows 16 f o.tags (within o.dynamic o.bytes) keeps (omega (arith, d, fits)) ∙ d in
    length-put (16 * o.tags) entries (rows 16 f o.tags (within o.dynamic o.bytes)) (omega (arith, n, fits)) ∙ n

pub segment_count : (bytes : List ℕ) (h : Header) → length (segments bytes h) ≡ h.phnum
unfolding segments
segment_count bytes h = length-map-range_with_len (segment bytes h) 0 h.phnum

pub section_count : (bytes : List ℕ) (h : Header) → length (sections bytes h) ≡ h.shnum
unfolding sections
section_count bytes h = length-map-range_with_len _ 0 h.shnum

few_of : (old new : List Section) → length old ≤ 65000 → length new < 500 → length (old ++ new) + 2 < 2 ^ 16
few_of old new a b = omega (arith, length-append old new, a, b)

-- ---- a library

pub library_fits : (o : Original) (slot stamp checksum : ℕ) (l : Listed) (flat : List ℕ) (undo : ℕ) → IsTaken o → 16 * o.tags + 32 ≤ o.dynamic.size → length flat ≡ wanted o.spots
    → table_at (library_plan o slot stamp checksum l) o.bytes undo < 2 ^ 32 → Fits (library_plan o slot stamp checksum l) o flat undo
unfolding library_plan library_dynamic library_sections
library_fits o slot stamp checksum l flat undo taken spare n small =
    let h = header o.bytes in
    let ins = all_in (length o.bytes) (head_windows h ++ o.dynamic ∷ []) taken.heads_in in
    let entries : List ℕ = entry_bytes 0x6ffffdf5 stamp ++ entry_bytes 0x6ffffdf8 checksum in
    let two : length entries ≡ 32 = length-append (entry_bytes 0x6ffffdf5 stamp) (entry_bytes 0x6ffffdf8 checksum) ∙ omega (arith, length-entry 0x6ffffdf5 stamp, length-entry 0x6ffffdf8 checksum) in
    record {
      bytes = taken.bytes;
      fills = n;
      dynamic = length-entries o (row_moved slot TagValue) entries taken (length-row_moved slot TagValue) (omega (arith, two, spare));
      segments = length-map (segments o.bytes h) (moved_segment slot) ∙ segment_count o.bytes h;
      heads_in = taken.heads_in;
      tables_in = taken.tables_in;
      spots_in = taken.spots_in;
      apart = taken.apart;
      before = ins.1.0;
      cut = omega arith;
      few = few_of (map (moved_section slot) (sections o.bytes h)) _ (omega (arith, length-map (sections o.bytes h) (moved_section slot), section_count o.bytes h, taken.few)) (omega arith);
      small = small;
    }

moved_kept : (slot size : ℕ) (s : Segment) → s.offset + s.filesz ≤ size → IsKept size 0 s (moved_segment slot s)
moved_kept slot size s inside = elim (cases_Bool (is_moved_kind s.kind)) [
  | inl hit ↦ rw hit (refl, inl (refl, inside))
  | inr miss ↦ rw miss (refl, inl (refl, inside))
]

-- its segments keep their file bytes
pub library_kept : (o : Original) (slot i : ℕ) (d : Segment) → i < length (segments o.bytes (header o.bytes)) → (get_or (segments o.bytes (header o.bytes)) i d).offset + (get_or (segments o.bytes (header o.bytes)) i d).filesz ≤ length o.bytes
    → IsKept (length o.bytes) 0 (get_or (segments o.bytes (header o.bytes)) i d) (get_or (map (moved_segment slot) (segments o.bytes (header o.bytes))) i d)
library_kept o slot i d lt inside =
    subst (λ (b : Segment). IsKept (length o.bytes) 0 (get_or (segments o.bytes (header o.bytes)) i d) b) (sym (get_or-map (moved_segment slot) (segments o.bytes (header o.bytes)) i d d lt)) (moved_kept slot (length o.bytes) (get_or (segments o.bytes (header o.bytes)) i d) inside)

-- ---- a program

pub record IsProgram (o : Original) (index : ℕ) (last : Segment) : Type 0 where
  pub last_in : index < (header o.bytes).phnum
  pub is_last : (d : Segment) → get_or (segments o.bytes (header o.bytes)) index d ≡ last
  pub cut : last.offset + last.filesz ≤ length o.bytes
  pub size : last.filesz ≤ last.memsz
  -- StrayHeader: the program headers end at or before cut, and no other segment has bytes before it and behind it
  pub before : (header o.bytes).phoff + 56 * (header o.bytes).phnum ≤ last.offset + last.filesz
  pub stray : (i : ℕ) (d : Segment) → i < (header o.bytes).phnum → i ≢ index
      → (nat_lt (get_or (segments o.bytes (header o.bytes)) i d).offset (last.offset + last.filesz) && nat_lt (last.offset + last.filesz) ((get_or (segments o.bytes (header o.bytes)) i d).offset + (get_or (segments o.bytes (header o.bytes)) i d).filesz)) ≡ false

length-program_segments : (cut shift more index : ℕ) (ss : List Segment) → length (program_segments cut shift more index ss) ≡ length ss
length-program_segments cut shift more index [] = refl
length-program_segments cut shift more zero (s ∷ ss) = ap suc (length-map ss (shifted_segment cut shift))
length-program_segments cut shift more (suc index) (s ∷ ss) = ap suc (length-program_segments cut shift more index ss)

pub other_segment : (cut shift more index : ℕ) (ss : List Segment) (i : ℕ) (d : Segment) → i < length ss → i ≢ index → get_or (program_segments cut shift more index ss) i d ≡ shifted_segment cut shift (get_or ss i d)
other_segment cut shift more index [] i d lt other = absurd (omega (arith, lt))
other_segment cut shift more zero (s ∷ ss) zero d lt other = absurd (other refl)
other_segment cut shift more zero (s ∷ ss) (suc i) d lt other = get_or-map (shifted_segment cut shift) ss i d d (omega (arith, lt))
other_segment cut shift more (suc index) (s ∷ ss) zero d lt other = refl
other_segment cut shift more (suc index) (s ∷ ss) (suc i) d lt other = other_segment cut shift more index ss i d (omega (arith, lt)) (λ same. other (ap suc same))

pub grown_segment : (cut shift more index : ℕ) (ss : List Segment) (d : Segment) → index < length ss → get_or (program_segments cut shift more index ss) index d ≡ extended_segment more (get_or ss index d)
grown_segment cut shift more index [] d lt = absurd (omega (arith, lt))
grown_segment cut shift more zero (s ∷ ss) d lt = refl
grown_segment cut shift more (suc index) (s ∷ ss) d lt = grown_segment cut shift more index ss d (omega (arith, lt))

-- a segment that is not stray keeps its file bytes
pub shifted_kept : (cut shift : ℕ) (s : Segment) → (nat_lt s.offset cut && nat_lt cut (s.offset + s.filesz)) ≡ false → IsKept cut shift s (shifted_segment cut shift s)
shifted_kept cut shift s stray = elim (cases_Bool (nat_lt 0 s.filesz && nat_le cut s.offset)) [
  | inl hit ↦ let le = leb-true cut s.offset (and_parts (nat_lt 0 s.filesz) (nat_le cut s.offset) hit).1 in rw hit (refl, inr (inl (refl, le)))
  | inr miss ↦ rw miss (
    refl,
    elim (cases_lt 0 s.filesz) [
      | inl some ↦ inl (refl, grind (arith, nat_tests))
      | inr none ↦ inr (inr (omega (arith, none)))
    ],
  )
]

length-tagged : (number new : ℕ) (row : List ℕ) → length row ≡ 16 → length (with_tag number new row) ≡ 16
length-tagged number new row n = elim (cases_Bool (word64 0 row == number)) [
  | inl hit ↦ rw hit (length-entry number new)
  | inr miss ↦ rw miss n
]

pub program_fits : (o : Original) (index : ℕ) (last : Segment) (e : Extension) (flat : List ℕ) (undo : ℕ) → IsTaken o → IsProgram o index last → 16 * o.tags + 64 ≤ o.dynamic.size → length flat ≡ wanted o.spots
    → table_at (program_plan o index last flat e) o.bytes undo < 2 ^ 32 → Fits (program_plan o index last flat e) o flat undo
unfolding program_plan program_dynamic program_sections
program_fits o index last e flat undo taken is spare n small =
    let h = header o.bytes in
    let ss = segments o.bytes h in
    let block = extension last o.spots flat e in
    let more = whole_extension block in
    let cut = last.offset + last.filesz in
    let a : List ℕ = entry_bytes 0x6ffffef9 (rows_at last e) in
    let b : List ℕ = entry_bytes 0x6ffffdf7 (length e.rows) in
    let c : List ℕ = entry_bytes 0x6ffffef8 (conflicts_at last e) in
    let d : List ℕ = entry_bytes 0x6ffffdf6 (length e.conflicts) in
    let four : length (a ++ b ++ c ++ d) ≡ 64 =
    length-append (a ++ b ++ c) d ∙ omega (arith, length-append (a ++ b) c, length-append a b, length-entry 0x6ffffef9 (rows_at last e), length-entry 0x6ffffdf7 (length e.rows), length-entry 0x6ffffef8 (conflicts_at last e), length-entry 0x6ffffdf6 (length e.conflicts)) in
    record {
      bytes = taken.bytes;
      fills = n;
      dynamic = length-entries o (λ row. with_tag 10 (length e.strings) (with_tag 5 (extension_at last) row)) (a ++ b ++ c ++ d) taken
          (λ r k. length-tagged 10 (length e.strings) (with_tag 5 (extension_at last) r) (length-tagged 5 (extension_at last) r k)) (omega (arith, four, spare));
      segments = length-program_segments cut (length more) (length block) index ss ∙ segment_count o.bytes h;
      heads_in = taken.heads_in;
      tables_in = taken.tables_in;
      spots_in = taken.spots_in;
      apart = taken.apart;
      before = is.before;
      cut = is.cut;
      few = few_of (map (program_section cut (length more) last) (sections o.bytes h)) _ (omega (arith, length-map (sections o.bytes h) (program_section cut (length more) last), section_count o.bytes h, taken.few)) (omega arith);
      small = small;
    }

-- the segments of a program but the last PT_LOAD keep their file bytes
pub program_kept : (o : Original) (index : ℕ) (last : Segment) (e : Extension) (flat : List ℕ) (i : ℕ) (d : Segment) → IsProgram o index last → i < (header o.bytes).phnum → i ≢ index
    → IsKept (program_plan o index last flat e).cut (length (program_plan o index last flat e).more) (get_or (segments o.bytes (header o.bytes)) i d) (get_or (program_plan o index last flat e).segments i d)
unfolding program_plan
program_kept o index last e flat i d is lt other =
    let ss = segments o.bytes (header o.bytes) in
    let cut = last.offset + last.filesz in
    let block = extension last o.spots flat e in
    let shift = length (whole_extension block) in
    let same = other_segment cut shift (length block) index ss i d (omega (arith, lt, segment_count o.bytes (header o.bytes))) other in
    subst (λ (b : Segment). IsKept cut shift (get_or ss i d) b) (sym same) (shifted_kept cut shift (get_or ss i d) (is.stray i d lt other))

-- and the last PT_LOAD grows
pub program_grown : (o : Original) (index : ℕ) (last : Segment) (e : Extension) (flat : List ℕ) (d : Segment) → IsProgram o index last → length flat ≡ wanted o.spots → AllIn (last.memsz - last.filesz) (hidden_windows o.spots)
    → IsGrown (program_plan o index last flat e) o flat last (get_or (program_plan o index last flat e).segments index d)
unfolding program_plan extension whole_extension
program_grown o index last e flat d is n inside =
    let ss = segments o.bytes (header o.bytes) in
    let cut = last.offset + last.filesz in
    let zs = zeros_part last o.spots flat in
    let gap16 : List ℕ = replicate (extension_at last - (last.vaddr + last.memsz)) 0 in
    let block : List ℕ = zs ++ (gap16 ++ lists_part e) in
    let pad : List ℕ = replicate (round_up (length block) 16 - length block) 0 in
    let borne : get_or (program_segments cut (length (block ++ pad)) (length block) index ss) index d ≡ extended_segment (length block) last =
    grown_segment cut (length (block ++ pad)) (length block) index ss d (omega (arith, is.last_in, segment_count o.bytes (header o.bytes))) ∙ ap (extended_segment (length block)) (is.is_last d) in
    let size : length zs ≡ last.memsz - last.filesz = (zeros_agree last o.spots flat n inside).size ∙ length-replicate (last.memsz - last.filesz) 0 in
    rw borne (record {
      rest = (gap16 ++ lists_part e) ++ pad;
      offset = refl;
      cut = refl;
      room = omega (arith, size, length-append zs (gap16 ++ lists_part e), is.size);
      more = omega (arith, length-append block pad);
      filesz = is.size;
      zeros = append_assoc zs (gap16 ++ lists_part e) pad;
      hidden_in = inside;
    })
