-- The form of a program that lies low keeps off a region that lies high.
use Rattle.std.proofs.Common.{◌≡◌, ℕ, zero, suc, ◌+◌, ◌^◌, ◌<◌, ◌≤◌, true, List, [], ◌∷◌, length, map, get_or, Some, refl, sym, ap, subst, ◌∙◌, arith, inl, inr}
use Rattle.std.specs.Prelude.{◌&&◌, ◌||◌, nat_le, nat_lt}
use Rattle.std.specs.List.{All, AllByRecursion, list_all}
use Rattle.std.proofs.lemmas.Bool.{and_from, cases_Bool, true≢false}
use Rattle.std.proofs.lemmas.Bool.Decides.{nat_tests}
use Rattle.std.proofs.lemmas.List.Elements.{All-head, All-tail}
use Rattle.pl_elf.specs.Headers.{header, is_load, loads}
use Rattle.pl_elf.specs.declared.range.Range.{Range}
use Rattle.pl_elf.specs.declared.segment.Segment.{Segment}
use Rattle.pl_form.specs.Marks.{IsFormOf, IsProgramMark}
use Rattle.pl_form.specs.Program.{last_index}
use Rattle.pl_form.specs.Words.{digest_in, extension_of}
use Rattle.pl_form.specs.declared.file.Marked.{Marked}
use Rattle.pl_form.proofs.CompleteLaws.{program_file, program_forms, with_last}
use Rattle.pl_loader.specs.Places.{load_range, misses}
use Rattle.pl_object.specs.PlaceClauses.{last_load}
use Rattle.pl_object.proofs.AcceptedLaws.{accepted}
use Rattle.pl_object.proofs.SpanLaws.{Ends}
use Rattle.pl_form.specs.Forms.{original_of, undo_part}
use Rattle.pl_form.specs.Found.{ss_of}
use Rattle.pl_form.specs.PartLaws.{HasTable}
use Rattle.pl_form.specs.Parts.{extended_segment, extension, program_plan, program_segments, shifted_segment}
use Rattle.pl_form.proofs.AcceptedIs.{segments_are}
use Rattle.pl_form.proofs.FinalTheorem.{program_conditions}
use Rattle.pl_form.proofs.FormTheorem.{all_small}
use Rattle.pl_form.proofs.KindLaws.{grown_segment, segment_count}
use Rattle.pl_form.proofs.LoadFacts.{last_is}
use Rattle.pl_form.proofs.StandLaws.{program_grows}
use Rattle.pl_form.proofs.TableLaws.{programs_are_extended}
use Rattle.pl_form.proofs.WholeTheorem.{program_is}
use Rattle.law_demo.specs.Fast.{LowProgramsKeepOff}

-- a PT_LOAD ends at or below an address
abbrev IsLow : ℕ → Segment → Type 0
IsLow most s = is_load s ≡ true → s.vaddr + s.memsz ≤ most

first_ends : (low : ℕ) (s : Segment) (ss : List Segment) → All (Ends low) (loads (s ∷ ss)) → IsLow low s
first_ends low s ss all load = All-head (Ends low) s (loads ss) (rw load at all)

later_ends : (low : ℕ) (s : Segment) (ss : List Segment) → All (Ends low) (loads (s ∷ ss)) → All (Ends low) (loads ss)
later_ends low s ss all = elim (cases_Bool (is_load s)) [
  | inl hit ↦ All-tail (Ends low) s (loads ss) (rw hit at all)
  | inr miss ↦ rw miss at all
]

ends_at : (low : ℕ) (ss : List Segment) (i : ℕ) (d : Segment) → All (Ends low) (loads ss) → i < length ss → IsLow low (get_or ss i d)
ends_at low [] i d all lt = absurd (omega (arith, lt))
ends_at low (s ∷ ss) zero d all lt = first_ends low s ss all
ends_at low (s ∷ ss) (suc i) d all lt = ends_at low ss i d (later_ends low s ss all) (omega (arith, lt))

-- ---- the segments of a form

shifted_low : (cut shift low most : ℕ) (s : Segment) → IsLow low s → low ≤ most → IsLow most (shifted_segment cut shift s)
shifted_low cut shift low most s ends le = elim (cases_Bool (nat_lt 0 s.filesz && nat_le cut s.offset)) [
  | inl hit ↦ rw hit (λ load. (let end = ends load in omega (arith, end, le)))
  | inr miss ↦ rw miss (λ load. (let end = ends load in omega (arith, end, le)))
]

all_shifted_low : (cut shift low most : ℕ) (ss : List Segment) → All (Ends low) (loads ss) → low ≤ most → AllByRecursion (IsLow most) (map (shifted_segment cut shift) ss)
all_shifted_low cut shift low most [] ends le = tt
all_shifted_low cut shift low most (s ∷ ss) ends le = (shifted_low cut shift low most s (first_ends low s ss ends) le, all_shifted_low cut shift low most ss (later_ends low s ss ends) le)

extended_low : (cut shift more index low most : ℕ) (ss : List Segment) (d : Segment) → index < length ss → All (Ends low) (loads ss) → low ≤ most → (get_or ss index d).vaddr + ((get_or ss index d).filesz + more) ≤ most
    → AllByRecursion (IsLow most) (program_segments cut shift more index ss)
extended_low cut shift more index low most [] d lt ends le last = tt
extended_low cut shift more zero low most (s ∷ ss) d lt ends le last = (λ load. last, all_shifted_low cut shift low most ss (later_ends low s ss ends) le)
extended_low cut shift more (suc index) low most (s ∷ ss) d lt ends le last =
    (shifted_low cut shift low most s (first_ends low s ss ends) le, extended_low cut shift more index low most ss d (omega (arith, lt)) (later_ends low s ss ends) le last)

program_low : (file : List ℕ) (m : Marked) (f : IsFormOf file m) (low most : ℕ) → All (Ends low) (loads m.object.segments) → low + 2 ^ 33 ≤ most → (last : Segment) → IsProgramMark m → last_load (ss_of m.original) ≡ Some last → AllByRecursion (IsLow most) (ss_of file)
unfolding program_plan
program_low file m f low most ends le last is at =
    let o = m.original in
    let org = original_of o in
    let ss = ss_of o in
    let index = last_index ss in
    let e = extension_of o m.list m.conflicts in
    let digest = digest_in m.version o in
    let p = program_plan org index last f.flat e in
    let block = extension last org.spots f.flat e in
    let made = program_forms file m f last is at in
    let same = program_file file m f last is at in
    let c = program_conditions o m.object index last e f.flat digest made in
    let fits = (program_is o index last e f.flat digest c).fits in
    let own = segments_are o m.object (accepted o m.object f.firm.accepted) in
    let all : All (Ends low) (loads ss) = subst (λ (xs : List Segment). All (Ends low) (loads xs)) own ends in
    let lt : index < length ss = omega (arith, c.program.last_in, segment_count o (header o)) in
    let grown = program_grows o m.object index last e f.flat digest last made in
    let borne : get_or p.segments index last ≡ extended_segment (length block) (get_or ss index last) = grown_segment p.cut (length p.more) (length block) index ss last lt in
    let here : get_or ss index last ≡ last = c.program.is_last last in
    let size : (get_or p.segments index last).filesz ≡ last.filesz + length block = ap (λ (s : Segment). s.filesz) borne ∙ ap (λ (s : Segment). s.filesz + length block) here in
    let small = all_small p org f.flat (length (undo_part p org digest)) fits in
    let limit : last.vaddr + last.memsz ≤ low = subst (λ (s : Segment). s.vaddr + s.memsz ≤ low) here (ends_at low ss index last all lt (rw here (last_is ss last at).load)) in
    let end : last.vaddr + (last.filesz + length block) ≤ most = omega (arith, size, grown.more, grown.cut, small, fits.cut, limit, le) in
    let table : HasTable file p.segments = subst (λ (xs : List ℕ). HasTable xs p.segments) (sym same) (programs_are_extended o m.object index last e f.flat digest made) in
    subst (AllByRecursion (IsLow most)) (sym table.are)
    (extended_low p.cut (length p.more) (length block) index low most ss last lt all (omega (arith, le)) (subst (λ (s : Segment). s.vaddr + (s.filesz + length block) ≤ most) (sym here) end))

-- ---- the region

below_misses : (start end v m : ℕ) → v + m ≤ start → (nat_le end v || nat_le (v + m) start || nat_le (v + m) v) ≡ true
below_misses start end v m le = grind (arith, nat_tests)

low_misses : (region : Range) (ss : List Segment) → AllByRecursion (IsLow region.start) ss → list_all (misses region) (map load_range (loads ss)) ≡ true
low_misses region [] low = refl
low_misses region (s ∷ ss) low = elim (cases_Bool (is_load s)) [
  | inl hit ↦ rw hit (and_from (misses region (load_range s)) (list_all (misses region) (map load_range (loads ss))) (below_misses region.start region.end s.vaddr s.memsz (low.0 hit)) (low_misses region ss low.1))
  | inr miss ↦ rw miss (low_misses region ss low.1)
]

pub low_off : LowProgramsKeepOff
low_off file m region low f other ends le = elim f.mark [
  | inl is ↦ absurd (true≢false (sym is.library ∙ other))
  | inr is ↦ low_misses region (ss_of file) (with_last file m f (AllByRecursion (IsLow region.start) (ss_of file)) (λ last at. program_low file m f low region.start ends le last is at))
]
