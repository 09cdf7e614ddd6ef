-- The windows of a program and of libraries in a region share no byte, where the program's form is not in the region.
use Rattle.std.proofs.Common.{◌≡◌, ℕ, ◌+◌, ◌≤◌, Bool, true, false, List, [], ◌∷◌, ◌++◌, map, Option, Some, Result, Ok, refl, ap, subst, ◌∙◌, arith, inl, inr}
use Rattle.std.specs.Prelude.{◌||◌, nat_le, nat_lt}
use Rattle.std.specs.List.{AllByRecursion, list_any}
use Rattle.std.specs.Result.{is_ok}
use Rattle.std.proofs.lemmas.Bool.{and_parts, cases_Bool, leb-true, or_from, or_parts}
use Rattle.std.proofs.lemmas.Bool.Decides.{nat_tests}
use Rattle.pl_base.specs.Pairs.{any_pair}
use Rattle.pl_base.specs.Windows.{Window, any_share, share}
use Rattle.pl_base.proofs.AnswerLaws.{refuse_none, unless_ok}
use Rattle.pl_elf.specs.Clauses.{AreLoads, ascend_from}
use Rattle.pl_elf.specs.Headers.{is_load, loads}
use Rattle.pl_elf.specs.Kinds.{is_library}
use Rattle.pl_elf.specs.declared.range.Range.{Range}
use Rattle.pl_elf.specs.declared.segment.Segment.{Segment}
use Rattle.pl_object.specs.PlaceClauses.{last_load}
use Rattle.pl_object.specs.declared.object.Object.{Object}
use Rattle.pl_conflict.specs.Prelinked.{load_window}
use Rattle.pl_form.specs.Faults.{bss_too_large, cut_of, form_fault, in_region, is_later, is_loaded_in, program_fault, region_window, stray_header, wanted_spare}
use Rattle.pl_form.specs.declared.fault.FormFault.{FormFault}
use Rattle.pl_form.specs.declared.fault.FormFault.TheVariants.{BssTooLarge, InRegion, LastLoadNotLast, NoSpareTags, StrayHeader}

-- ---- windows one behind the other

behind : (a n b m : ℕ) → a + n ≤ b → share (record { at = a; size = n }) (record { at = b; size = m }) ≡ false
behind a n b m le = grind (arith, nat_tests)

later_apart : (s : Segment) (low : ℕ) (ss : List Segment) → s.vaddr + s.memsz ≤ low → ascend_from low ss ≡ true → list_any (share (load_window s)) (map load_window ss) ≡ false
later_apart s low [] le rise = refl
later_apart s low (t ∷ ss) le rise =
    let p = and_parts (nat_le low t.vaddr) (ascend_from (t.vaddr + t.memsz) ss) rise in
    let above = leb-true low t.vaddr p.0 in
    or_from (share (load_window s) (load_window t)) (list_any (share (load_window s)) (map load_window ss)) (behind s.vaddr s.memsz t.vaddr t.memsz (omega (arith, le, above))) (later_apart s (t.vaddr + t.memsz) ss (omega (arith, le, above)) p.1)

pub loads_apart : (low : ℕ) (ss : List Segment) → ascend_from low ss ≡ true → any_share (map load_window ss) ≡ false
loads_apart low [] rise = refl
loads_apart low (s ∷ ss) rise =
    let p = and_parts (nat_le low s.vaddr) (ascend_from (s.vaddr + s.memsz) ss) rise in
    or_from (list_any (share (load_window s)) (map load_window ss)) (any_pair share (map load_window ss)) (later_apart s (s.vaddr + s.memsz) ss (omega arith) p.1) (loads_apart (s.vaddr + s.memsz) ss p.1)

-- ---- windows of two lists

any_either : (v : Window) (xs ys : List Window) → list_any (share v) xs ≡ false → list_any (share v) ys ≡ false → list_any (share v) (xs ++ ys) ≡ false
any_either v [] ys first second = second
any_either v (x ∷ xs) ys first second =
    let p = or_parts (share v x) (list_any (share v) xs) first in
    or_from (share v x) (list_any (share v) (xs ++ ys)) p.0 (any_either v xs ys p.1 second)

pub joined_apart : (xs ys : List Window) → any_share xs ≡ false → any_share ys ≡ false → AllByRecursion (λ v. list_any (share v) ys ≡ false) xs → any_share (xs ++ ys) ≡ false
joined_apart [] ys first second cross = second
joined_apart (x ∷ xs) ys first second cross =
    let p = or_parts (list_any (share x) xs) (any_pair share xs) first in
    or_from (list_any (share x) (xs ++ ys)) (any_pair share (xs ++ ys)) (any_either x xs ys p.0 cross.0) (joined_apart xs ys p.1 second cross.1)

-- ---- a region

-- what misses a region misses what lies in it
part_apart : (region : Range) (a n b m : ℕ) → share (record { at = a; size = n }) (region_window region) ≡ false → region.start ≤ b → b + m ≤ region.end → share (record { at = a; size = n }) (record { at = b; size = m }) ≡ false
part_apart region a n b m miss above below = grind (arith, nat_tests)

-- a window lies in a region
pub record LiesIn (region : Range) (w : Window) : Type 0 where
  pub above : region.start ≤ w.at
  pub below : w.at + w.size ≤ region.end

none_in : (region : Range) (s : Segment) (ws : List Window) → share (load_window s) (region_window region) ≡ false → AllByRecursion (LiesIn region) ws → list_any (share (load_window s)) ws ≡ false
none_in region s [] miss lie = refl
none_in region s (w ∷ ws) miss lie =
    or_from (share (load_window s) w) (list_any (share (load_window s)) ws) (part_apart region s.vaddr s.memsz w.at w.size miss lie.0.above lie.0.below) (none_in region s ws miss lie.1)

-- each PT_LOAD misses it
missed : (region : Range) (b : Bool) (s : Segment) → is_load s ≡ b → b ≡ true → is_loaded_in (region_window region) s ≡ false → share (load_window s) (region_window region) ≡ false
missed region b s is load none = rw (is ∙ load) at none

loads_miss : (region : Range) (ss : List Segment) (ws : List Window) → list_any (is_loaded_in (region_window region)) ss ≡ false → AllByRecursion (LiesIn region) ws → AllByRecursion (λ v. list_any (share v) ws ≡ false) (map load_window (loads ss))
loads_miss region [] ws none lie = tt
loads_miss region (s ∷ ss) ws none lie =
    let p = or_parts (is_loaded_in (region_window region) s) (list_any (is_loaded_in (region_window region)) ss) none in
    elim (cases_Bool (is_load s)) [
      | inl load ↦ rw load (none_in region s ws (missed region true s load refl p.0) lie, loads_miss region ss ws p.1 lie)
      | inr other ↦ rw other (loads_miss region ss ws p.1 lie)
    ]

-- ---- a program without form fault

not_in : (o : Object) (last : Segment) (region : Range) → program_fault o (Some last) region ≡ Ok tt → in_region o.segments last region ≡ false
unfolding program_fault
not_in o last region e =
    let all = refuse_none ((bss_too_large last, BssTooLarge) ∷ (stray_header o (cut_of last), StrayHeader) ∷ (in_region o.segments last region, InRegion) ∷ (list_any (is_later last) o.segments, LastLoadNotLast) ∷ []) (Ok tt) (ap (λ (r : Result (Unit {0}) FormFault). is_ok r) e) in
    let a = or_parts (bss_too_large last) (stray_header o (cut_of last) || (in_region o.segments last region || (list_any (is_later last) o.segments || false))) all in
    let b = or_parts (stray_header o (cut_of last)) (in_region o.segments last region || (list_any (is_later last) o.segments || false)) a.1 in
    (or_parts (in_region o.segments last region) (list_any (is_later last) o.segments || false) b.1).0

not_loaded_in : (ss : List Segment) (last : Segment) (region : Range) → in_region ss last region ≡ false → list_any (is_loaded_in (region_window region)) ss ≡ false
unfolding in_region
not_loaded_in ss last region e = (or_parts (list_any (is_loaded_in (region_window region)) ss) _ e).0

no_program_fault : (o : Object) (region : Range) → is_library o.kind ≡ false → form_fault o region ≡ Ok tt → program_fault o (last_load o.segments) region ≡ Ok tt
unfolding form_fault
no_program_fault o region program e =
    let p = unless_ok (nat_lt o.spare (wanted_spare o)) NoSpareTags _ tt e in
    rw program at p.1

-- its PT_LOADs and windows in the region are apart
pub program_apart : (o : Object) (region : Range) (last : Segment) (ws : List Window) → is_library o.kind ≡ false → form_fault o region ≡ Ok tt → last_load o.segments ≡ Some last → AreLoads (loads o.segments) → any_share ws ≡ false → AllByRecursion (LiesIn region) ws
    → any_share (map load_window (loads o.segments) ++ ws) ≡ false
program_apart o region last ws program fault at rise apart lie =
    let none : program_fault o (Some last) region ≡ Ok tt = subst (λ (found : Option Segment). program_fault o found region ≡ Ok tt) at (no_program_fault o region program fault) in
    joined_apart (map load_window (loads o.segments)) ws (loads_apart 0 (loads o.segments) rise.ascend) apart (loads_miss region o.segments ws (not_loaded_in o.segments last region (not_in o last region none)) lie)
