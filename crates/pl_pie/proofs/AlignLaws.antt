-- The alignment of an accepted object is a power of two and at least a page, so a slot that is a multiple of it is even; and a position-independent program has memory.
use Rattle.std.proofs.Common.{◌≡◌, ℕ, ◌*◌, ◌/◌, ◌%◌, ◌<◌, ◌≤◌, inl, inr, true, false, List, [], ◌∷◌, length, drop, Option, Some, None, refl, sym, ap, ◌∙◌, arith}
use Rattle.std.specs.Prelude.{◌==◌, max, fold, ◌⊎◌}
use Rattle.std.specs.Int.{is_power_of_two}
use Rattle.std.specs.Int.Count.{ones_step}
use Rattle.std.specs.List.{list_any}
use Rattle.std.proofs.Math.Nat.{min-le_left}
use Rattle.std.proofs.lemmas.Bool.{cases_Bool, cases_lt, or_parts, eqb-true, false≢true}
use Rattle.std.proofs.lemmas.List.{length-take}
use Rattle.std.proofs.lemmas.Nat.{zero_from_ones, div-add-mod'}
use Rattle.pl_base.specs.Windows.{Window, within}
use Rattle.pl_elf.specs.Clauses.{bad_align, bad_load}
use Rattle.pl_elf.specs.Headers.{loads}
use Rattle.pl_elf.specs.Kinds.{is_static}
use Rattle.pl_elf.specs.declared.constants.TheConstants.{PAGE}
use Rattle.pl_elf.specs.declared.segment.Segment.{Segment}
use Rattle.pl_elf.proofs.AcceptedLaws.{load_fits}
use Rattle.pl_object.specs.Accepted.{Accepted}
use Rattle.pl_object.specs.FilePart.{loader, loaded_by, file_window, loaded}
use Rattle.pl_object.specs.Reads.{align, span}
use Rattle.pl_object.specs.Tables.{dynamic_memory}
use Rattle.pl_object.specs.declared.object.Object.{Object}
use Rattle.pl_object.proofs.SpanLaws.{some_span}

-- ---- the alignment

bad_align_is : (n : ℕ) → bad_align n ≡ false → (n ≡ 0) ⊎ (is_power_of_two n ≡ true)
unfolding bad_align
bad_align_is n h =
    elim (cases_Bool (is_power_of_two n)) [
      | inl power ↦ inr power
      | inr other ↦ elim (cases_Bool (n == 0)) [
        | inl none ↦ inl (eqb-true n 0 none)
        | inr some ↦ absurd (false≢true (sym (rw (other, some) at h)))
      ]
    ]

power_max : (most n : ℕ) → is_power_of_two most ≡ true → (n ≡ 0) ⊎ (is_power_of_two n ≡ true) → is_power_of_two (max most n) ≡ true
power_max most n p (inl none) = let same : max most n ≡ most = omega (arith, none) in rw same p
power_max most n p (inr power) =
    elim (cases_lt most n) [
      | inl lt ↦ let same : max most n ≡ n = omega (arith, lt) in rw same power
      | inr le ↦ let same : max most n ≡ most = omega (arith, le) in rw same p
    ]

power_from : (most : ℕ) (ss : List Segment) → is_power_of_two most ≡ true → list_any bad_load ss ≡ false → is_power_of_two (fold (λ (m : ℕ) (s : Segment). max m s.align) most ss) ≡ true
power_from most [] p none = p
power_from most (s ∷ ss) p none =
    let parts = or_parts (bad_load s) (list_any bad_load ss) none in
    power_from (max most s.align) ss (power_max most s.align p (bad_align_is s.align (load_fits s parts.0).align)) parts.1

pub page_power : is_power_of_two PAGE ≡ true
unfolding lib.Count.ones
page_power = refl

least_fold : (ss : List Segment) (most : ℕ) → most ≤ fold (λ (m : ℕ) (s : Segment). max m s.align) most ss
least_fold [] most = omega arith
least_fold (s ∷ ss) most = omega (arith, least_fold ss (max most s.align))

pub align_page : (p : List ℕ) (o : Object) → Accepted p o → 4096 ≤ o.align
unfolding align
align_page p o is = omega (arith, is.align, least_fold (loads o.segments) 4096)

pub align_power : (p : List ℕ) (o : Object) → Accepted p o → is_power_of_two o.align ≡ true
unfolding align
align_power p o is = rw is.align (power_from PAGE (loads o.segments) page_power is.loads.fit)

even_power : (n : ℕ) → is_power_of_two n ≡ true → 2 ≤ n → n % 2 ≡ 0
even_power n is le =
    let one = eqb-true _ 1 is in
    let step = ones_step n in
    elim (cases_lt (n % 2) 1) [
      | inl none ↦ omega (arith, none)
      | inr some ↦ let half : n / 2 ≡ 0 = zero_from_ones (n / 2) (omega (arith, one, step, some)) in absurd (omega (arith, half, le))
    ]

pub align_even : (p : List ℕ) (o : Object) → Accepted p o → o.align % 2 ≡ 0
align_even p o is = even_power o.align (align_power p o is) (omega (arith, align_page p o is))

pub slot_even : (slot align : ℕ) → align % 2 ≡ 0 → slot % align ≡ 0 → slot % 2 ≡ 0
slot_even slot align even aligned =
    let q = slot / align in
    let h = align / 2 in
    let e : slot ≡ q * align = omega (arith, div-add-mod' slot align, aligned) in
    let k : align ≡ 2 * h = omega (arith, even) in
    let f : slot ≡ q * (2 * h) = e ∙ ap (λ (n : ℕ). q * n) k in
    omega (arith, f)

-- ---- the memory

-- the dynamic table has bytes in the file, which a PT_LOAD loads
pub span_some : (p : List ℕ) (o : Object) → Accepted p o → is_static o.kind ≡ false → 0 < o.span
unfolding loaded file_window
span_some p o is other =
    let m : Window = dynamic_memory o.segments in
    let w : Window = loaded_by m (loader o.segments m.at) in
    let most : length (within w p) ≤ w.size = omega (arith, length-take w.size (drop w.at p), min-le_left w.size (length (drop w.at p))) in
    let some : 0 < w.size = omega (arith, most, (is.tabled other).ended) in
    omega (arith, is.span, of_loader m (loader o.segments m.at) refl some)
  where
    of_loader : (m : Window) (l : Option Segment) → loader o.segments m.at ≡ l → 0 < (loaded_by m l).size → 0 < span o.segments
    of_loader m None e some = absurd (omega (arith, some))
    of_loader m (Some s) e some = some_span o.segments m.at s is.loads e
