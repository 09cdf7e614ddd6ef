-- A member of a candidate's walk has a form.
use Rattle.std.proofs.Common.{◌≡◌, ℕ, ◌+◌, ◌^◌, ◌<◌, ◌≤◌, Bool, true, false, List, [], ◌∷◌, length, Option, Some, None, Result, Ok, Err, refl, sym, ap, arith, inl, inr}
use Rattle.std.specs.Prelude.{◌&&◌, is_some, nat_lt, if◌then◌else◌}
use Rattle.std.specs.List.{list_any}
use Rattle.std.specs.Result.{is_ok}
use Rattle.std.proofs.lemmas.Bool.{cases_Bool, or_parts, or_from, ltb-false, true≢false}
use Rattle.pl_base.specs.Answers.{because, unless}
use Rattle.pl_base.specs.Bytes.{IsBytes}
use Rattle.pl_base.specs.Windows.{Window, end_of, share}
use Rattle.pl_base.proofs.AnswerLaws.{because_ok, unless_ok, refuse_none, refuse_next}
use Rattle.pl_conflict.specs.Format.{read_original}
use Rattle.pl_conflict.specs.Prelinked.{firm_of}
use Rattle.pl_elf.specs.Headers.{is_load}
use Rattle.pl_elf.specs.Kinds.{is_library, is_static}
use Rattle.pl_elf.specs.declared.range.Range.{Range}
use Rattle.pl_elf.specs.declared.segment.Segment.{Segment}
use Rattle.pl_form.specs.Faults.{form_fault, program_fault, in_region, is_loaded_in, region_window, no_region, wanted_spare, bss_too_large, stray_header, cut_of, is_later}
use Rattle.pl_form.specs.Files.{marked_in, original_in, original_or_file}
use Rattle.pl_form.specs.Marks.{has_mark}
use Rattle.pl_form.specs.Reading.{is_firm, firm_object}
use Rattle.pl_form.specs.declared.constants.TheConstants.{STORED, REGION_GAP}
use Rattle.pl_form.specs.declared.fault.FormFault.{FormFault}
use Rattle.pl_form.specs.declared.fault.FormFault.TheVariants.{NoSpareTags, BssTooLarge, StrayHeader, InRegion, LastLoadNotLast}
use Rattle.pl_form.specs.declared.file.Marked.{Marked}
use Rattle.pl_form.proofs.FilesLaws.{bytes_are, nothing_else_is_read}
use Rattle.pl_form.proofs.ReadLaws.{firm_is}
use Rattle.pl_cone.specs.Faults.{fault_in, fault_number}
use Rattle.pl_cone.specs.Skipped.{skip_causes}
use Rattle.pl_object.specs.PlaceClauses.{last_load}
use Rattle.pl_object.specs.Reads.{reads}
use Rattle.pl_object.specs.declared.object.Object.{Object}
use Rattle.law_sound.specs.Rule.{Member}

-- ---- what is read of an original

pub record IsOriginal (o : List ℕ) (x : Object) : Type 0 where
  pub small : length o ≤ STORED
  pub plain : has_mark o ≡ false
  pub reads : reads o ≡ Ok x

pub original_is : (n o : List ℕ) (x : Object) → read_original skip_causes n o ≡ Ok x → IsOriginal o x
unfolding read_original
original_is n o x is =
    let p = unless_ok (nat_lt STORED (length o)) (skip_causes.large n) (unless (has_mark o) (skip_causes.bad_mark n) (because (skip_causes.refused n) (reads o))) x is in
    let q = unless_ok (has_mark o) (skip_causes.bad_mark n) (because (skip_causes.refused n) (reads o)) x p.1 in
    record { small = ltb-false STORED (length o) p.0; plain = q.0; reads = because_ok (skip_causes.refused n) (reads o) x q.1 }

-- the original of bytes is bytes
pub original_bytes : (file : List ℕ) → IsBytes file → IsBytes (original_in file)
unfolding original_in
original_bytes file bytes = by_mark (marked_in file) refl
  where
    by_mark : (o : Option Marked) → marked_in file ≡ o → IsBytes (original_or_file file o)
    by_mark None is = bytes
    by_mark (Some m) is = (nothing_else_is_read file m is).firm.bytes

-- ---- form faults

off : (a b c : Bool) → (a && b && c && false) ≡ false
off true true true = refl
off true true false = refl
off true false c = refl
off false b c = refl

off_one : (a : Bool) → (a && false) ≡ false
off_one true = refl
off_one false = refl

-- nothing is in a region without addresses
nowhere : (w : Window) → share w (region_window no_region) ≡ false
nowhere w = off (nat_lt w.at 0) (nat_lt 0 (end_of w)) (nat_lt 0 w.size)

none_loaded : (ss : List Segment) → list_any (is_loaded_in (region_window no_region)) ss ≡ false
none_loaded [] = refl
none_loaded (s ∷ ss) = rw (nowhere (record { at = s.vaddr; size = s.memsz }), off_one (is_load s), none_loaded ss) refl

none_in : (ss : List Segment) (last : Segment) → in_region ss last no_region ≡ false
unfolding in_region
none_in ss last = or_from (list_any (is_loaded_in (region_window no_region)) ss) (share (record { at = last.vaddr + last.memsz; size = REGION_GAP }) (region_window no_region)) (none_loaded ss) (nowhere (record { at = last.vaddr + last.memsz; size = REGION_GAP }))

abbrev tests : Object → Segment → Range → List (Bool × FormFault)
tests x last region =
    (bss_too_large last, BssTooLarge) ∷ (stray_header x (cut_of last), StrayHeader)
    ∷ (in_region x.segments last region, InRegion) ∷ (list_any (is_later last) x.segments, LastLoadNotLast) ∷ []

program_nowhere : (x : Object) (last : Option Segment) (region : Range) → program_fault x last region ≡ Ok tt → program_fault x last no_region ≡ Ok tt
unfolding program_fault
program_nowhere x None region e = refl
program_nowhere x (Some last) region e =
    let none = refuse_none (tests x last region) (Ok tt) (ap (λ (r : Result (Unit {0}) FormFault). is_ok r) e) in
    let p = or_parts (bss_too_large last) _ none in
    let q = or_parts (stray_header x (cut_of last)) _ p.1 in
    let r = or_parts (in_region x.segments last region) _ q.1 in
    let s = or_parts (list_any (is_later last) x.segments) false r.1 in
    refuse_next (tests x last no_region) (Ok tt) (rw (p.0, q.0, none_in x.segments last, s.0) refl)

-- so what has a form under some region has one
pub firm_nowhere : (x : Object) (region : Range) → form_fault x region ≡ Ok tt → form_fault x no_region ≡ Ok tt
unfolding form_fault
firm_nowhere x region e =
    let p = unless_ok (nat_lt x.spare (wanted_spare x)) NoSpareTags (if is_library x.kind then Ok tt else program_fault x (last_load x.segments) region) tt e in
    elim (cases_Bool (is_library x.kind)) [
      | inl library ↦ rw (p.0, library) refl
      | inr other ↦
          let fault : program_fault x (last_load x.segments) region ≡ Ok tt = rw other at p.1 in
          rw (p.0, other) (program_nowhere x (last_load x.segments) region fault)
    ]

pub no_fault : (region : Range) (o : List ℕ) (x : Object) → IsOriginal o x → is_some (fault_in region o) ≡ false → form_fault x region ≡ Ok tt
unfolding fault_in
no_fault region o x own none =
    let here : is_some (fault_number (form_fault x region)) ≡ false = rw (own.plain, own.reads) at none in
    by_fault (form_fault x region) here
  where
    by_fault : (r : Result (Unit {0}) FormFault) → is_some (fault_number r) ≡ false → r ≡ Ok tt
    by_fault (Ok u) e = refl
    by_fault (Err fault) e = absurd (true≢false e)

-- ---- members

stored_is : STORED ≡ 268435456
stored_is = refl

pub firm_member : (m : Member) (x : Object) → IsBytes m.original → IsOriginal m.original x → is_static x.kind ≡ false → form_fault x no_region ≡ Ok tt → firm_of m ≡ Some (record { member = m; object = x })
firm_member m x bytes own dynamic firm =
    let few : length m.original < 2 ^ 32 = omega (arith, own.small, stored_is) in
    let firmly : true ≡ is_firm m.original x = rw (dynamic, firm, own.plain) refl in
    let found : firm_object m.original ≡ Some x = sym (firm_is m.original x few own.reads firmly) in
    rw (bytes_are m.original bytes, found) refl
