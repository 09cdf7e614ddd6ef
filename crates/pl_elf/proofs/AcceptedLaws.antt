-- What is known of a file that no clause from 1 to 8 refuses.
use Rattle.std.proofs.Common.{◌≡◌, ℕ, ◌+◌, ◌≤◌, inl, inr, Bool, true, false, List, [], ◌∷◌, Ok, refl}
use Rattle.std.specs.Prelude.{◌||◌, ◌&&◌, ◌==◌, not, nat_lt, filter, All}
use Rattle.std.specs.List.{list_any}
use Rattle.std.specs.Result.{is_ok}
use Rattle.std.proofs.lemmas.Bool.{cases_Bool, not-false, or_parts, ltb-false}
use Rattle.std.proofs.lemmas.List.Elements.{All-nil, All-cons}
use Rattle.pl_base.proofs.AnswerLaws.{refuse_none}
use Rattle.pl_elf.specs.declared.constants.TheConstants.{SEGMENT_SIZE, MAX_LOAD_ALIGN, ADDRESS_LIMIT}
use Rattle.pl_elf.specs.declared.segment.Segment.{Segment}
use Rattle.pl_elf.specs.Headers.{header, segments, sections, is_load, loads}
use Rattle.pl_elf.specs.Clauses.{read, not_elf, other_class, other_machine, other_kind, truncated, bad_segment, bad_section, no_sections, has_second_of_a_kind, bad_load, bad_align, not_congruent, bad_tls, ascend_from, overlap_in_file, AreLoads}
use Rattle.pl_elf.specs.declared.fault.HeaderFault.TheVariants.{NotElf, Class, Machine, Kind, Truncated, BadSegment, BadSection, NoSections}

-- none of the eight tests holds
tests_fail : (bytes : List ℕ) → is_ok (read bytes) ≡ true
    → (not_elf bytes || (other_class bytes || (other_machine (header bytes) || (other_kind bytes (header bytes) || (truncated bytes (header bytes)
    || (bad_segment (header bytes) (segments bytes (header bytes)) || (bad_section bytes (header bytes) (sections bytes (header bytes)) || (no_sections (header bytes) || false)))))))) ≡ false
unfolding read
tests_fail bytes ok = refuse_none (
    (not_elf bytes, NotElf) ∷ (other_class bytes, Class) ∷ (other_machine (header bytes), Machine) ∷ (other_kind bytes (header bytes), Kind)
    ∷ (truncated bytes (header bytes), Truncated) ∷ (bad_segment (header bytes) (segments bytes (header bytes)), BadSegment)
    ∷ (bad_section bytes (header bytes) (sections bytes (header bytes)), BadSection) ∷ (no_sections (header bytes), NoSections) ∷ [])
    (Ok (header bytes)) ok

sixth_fails : (a b c d e f rest : Bool) → (a || (b || (c || (d || (e || (f || rest)))))) ≡ false → f ≡ false
sixth_fails a b c d e f rest h =
    let p1 = or_parts a (b || (c || (d || (e || (f || rest))))) h in
    let p2 = or_parts b (c || (d || (e || (f || rest)))) p1.1 in
    let p3 = or_parts c (d || (e || (f || rest))) p2.1 in
    let p4 = or_parts d (e || (f || rest)) p3.1 in
    let p5 = or_parts e (f || rest) p4.1 in
    (or_parts f rest p5.1).0

segments_pass : (bytes : List ℕ) → is_ok (read bytes) ≡ true → bad_segment (header bytes) (segments bytes (header bytes)) ≡ false
segments_pass bytes ok =
    sixth_fails (not_elf bytes) (other_class bytes) (other_machine (header bytes)) (other_kind bytes (header bytes)) (truncated bytes (header bytes)) (bad_segment (header bytes) (segments bytes (header bytes)))
    (bad_section bytes (header bytes) (sections bytes (header bytes)) || (no_sections (header bytes) || false)) (tests_fail bytes ok)

-- a test of the rows that pass another
any_filtered : {X : Type 0} (p q : X → Bool) (xs : List X) → list_any (λ x. p x && q x) xs ≡ false → list_any q (filter p xs) ≡ false
any_filtered p q [] none = refl
any_filtered p q (x ∷ xs) none =
    let parts = or_parts (p x && q x) (list_any (λ y. p y && q y) xs) none in
    elim (cases_Bool (p x)) [
      | inl hit ↦ rw hit (rw (rw hit at parts.0) (any_filtered p q xs parts.1))
      | inr miss ↦ rw miss (any_filtered p q xs parts.1)
    ]

-- of seven tests the fourth and the fifth
fourth_fails : (a b c d e f g : Bool) → (((((a || b) || c) || d) || e) || f || g) ≡ false → d ≡ false
fourth_fails a b c d e f g h =
    let p1 = or_parts ((((((a || b) || c) || d) || e) || f)) g h in
    let p2 = or_parts ((((a || b) || c) || d) || e) f p1.0 in
    let p3 = or_parts (((a || b) || c) || d) e p2.0 in
    (or_parts ((a || b) || c) d p3.0).1

fifth_fails : (a b c d e f g : Bool) → (((((a || b) || c) || d) || e) || f || g) ≡ false → e ≡ false
fifth_fails a b c d e f g h =
    let p1 = or_parts ((((((a || b) || c) || d) || e) || f)) g h in
    let p2 = or_parts ((((a || b) || c) || d) || e) f p1.0 in
    (or_parts (((a || b) || c) || d) e p2.0).1

pub loads_accepted : (bytes : List ℕ) → is_ok (read bytes) ≡ true → AreLoads (loads (segments bytes (header bytes)))
unfolding bad_segment
loads_accepted bytes ok =
    let h = header bytes in
    let ss = segments bytes h in
    let all = segments_pass bytes ok in
    let fit : list_any (λ s. is_load s && bad_load s) ss ≡ false =
    fourth_fails (not (h.phentsize == SEGMENT_SIZE)) (not (list_any is_load ss)) (has_second_of_a_kind ss) (list_any (λ s. is_load s && bad_load s) ss) (not (ascend_from 0 (loads ss))) (overlap_in_file ss) (list_any bad_tls ss) all in
    let ascend : not (ascend_from 0 (loads ss)) ≡ false =
    fifth_fails (not (h.phentsize == SEGMENT_SIZE)) (not (list_any is_load ss)) (has_second_of_a_kind ss) (list_any (λ s. is_load s && bad_load s) ss) (not (ascend_from 0 (loads ss))) (overlap_in_file ss) (list_any bad_tls ss) all in
    record { ascend = not-false (ascend_from 0 (loads ss)) ascend; fit = any_filtered is_load bad_load ss fit }

-- of seven tests the sixth
last_but_one_fails : (a b c d e f g : Bool) → (((((a || b) || c) || d) || e) || f || g) ≡ false → f ≡ false
last_but_one_fails a b c d e f g h =
    let p1 = or_parts ((((((a || b) || c) || d) || e) || f)) g h in
    (or_parts (((((a || b) || c) || d) || e)) f p1.0).1

-- no two PT_LOADs share a byte of the file
pub files_apart : (bytes : List ℕ) → is_ok (read bytes) ≡ true → overlap_in_file (segments bytes (header bytes)) ≡ false
unfolding bad_segment
files_apart bytes ok =
    let h = header bytes in
    let ss = segments bytes h in
    last_but_one_fails (not (h.phentsize == SEGMENT_SIZE)) (not (list_any is_load ss)) (has_second_of_a_kind ss) (list_any (λ s. is_load s && bad_load s) ss) (not (ascend_from 0 (loads ss))) (overlap_in_file ss) (list_any bad_tls ss) (segments_pass bytes ok)

-- ---- one PT_LOAD

-- what is known of a PT_LOAD that is not refused by itself: no more bytes in the file than in memory, an alignment, and no address above the limit
pub record LoadFits (s : Segment) : Type 0 where
  pub bytes : s.filesz ≤ s.memsz
  pub align : bad_align s.align ≡ false
  pub ends : s.vaddr + s.memsz ≤ ADDRESS_LIMIT

pub load_fits : (s : Segment) → bad_load s ≡ false → LoadFits s
unfolding bad_load
load_fits s h =
    let a = or_parts (nat_lt s.memsz s.filesz || bad_align s.align || nat_lt MAX_LOAD_ALIGN s.align || not_congruent s) (nat_lt ADDRESS_LIMIT (s.vaddr + s.memsz)) h in
    let b = or_parts (nat_lt s.memsz s.filesz || bad_align s.align || nat_lt MAX_LOAD_ALIGN s.align) (not_congruent s) a.0 in
    let c = or_parts (nat_lt s.memsz s.filesz || bad_align s.align) (nat_lt MAX_LOAD_ALIGN s.align) b.0 in
    let d = or_parts (nat_lt s.memsz s.filesz) (bad_align s.align) c.0 in
    record { bytes = ltb-false s.memsz s.filesz d.0; align = d.1; ends = ltb-false ADDRESS_LIMIT (s.vaddr + s.memsz) a.1 }

-- all of several
pub loads_fit : (ss : List Segment) → list_any bad_load ss ≡ false → All LoadFits ss
loads_fit [] none = All-nil LoadFits
loads_fit (s ∷ ss) none =
    let parts = or_parts (bad_load s) (list_any bad_load ss) none in
    All-cons LoadFits s ss (load_fits s parts.0) (loads_fit ss parts.1)
