-- Alignments of accepted libraries are multiples of a page, and so are their spans.
use Rattle.std.proofs.Common.{◌≡◌, ℕ, zero, suc, ◌+◌, ◌-◌, ◌*◌, ◌/◌, ◌%◌, ◌<◌, ◌≤◌, true, false, List, [], ◌∷◌, refl, ◌∙◌, ap, inl, inr, arith}
use Rattle.std.proofs.lemmas.Bool.{cases_Bool, cases_lt, eqb-true, or_parts, true≢false}
use Rattle.std.proofs.lemmas.Nat.{div-add-mod', zero_from_ones}
use Rattle.std.specs.Int.{is_power_of_two}
use Rattle.std.specs.Int.Count.{ones_step}
use Rattle.std.specs.List.{list_any}
use Rattle.std.specs.Prelude.{◌⊎◌, ◌==◌, Ok, count_ones, fold, max}
use Rattle.pl_base.specs.Sums.{is_aligned, round_up}
use Rattle.pl_elf.specs.Clauses.{bad_align, bad_load}
use Rattle.pl_elf.specs.Headers.{loads}
use Rattle.pl_elf.specs.Kinds.{is_library}
use Rattle.pl_elf.specs.declared.constants.TheConstants.{PAGE}
use Rattle.pl_elf.specs.declared.segment.Segment.{Segment}
use Rattle.pl_elf.proofs.AcceptedLaws.{load_fits}
use Rattle.pl_object.specs.PlaceClauses.{last_load}
use Rattle.pl_object.specs.Reads.{align, end_in_memory, reads, span}
use Rattle.pl_object.specs.declared.object.Object.{Object}
use Rattle.pl_object.proofs.AcceptedLaws.{accepted}

-- ---- powers of two

abbrev power : ℕ → ℕ
power zero = 1
power (suc k) = 2 * power k

power_some : (k : ℕ) → 1 ≤ power k
power_some zero = omega arith
power_some (suc k) = omega (arith, power_some k)

half_power : (n : ℕ) → is_power_of_two n ≡ true → 2 ≤ n → (n ≡ 2 * (n / 2)) × (is_power_of_two (n / 2) ≡ true)
half_power n is le =
    let one = eqb-true _ 1 is in
    let step = ones_step n in
    elim (cases_lt (n % 2) 1) [
      | inl none ↦ let ones : count_ones (n / 2) ≡ 1 = omega (arith, one, step, none) in (omega (arith, none), ap (λ (c : ℕ). c == 1) ones)
      | inr some ↦ let half : n / 2 ≡ 0 = zero_from_ones (n / 2) (omega (arith, one, step, some)) in absurd (omega (arith, half, le))
    ]

swapped : (q p : ℕ) → 2 * (q * p) ≡ q * (2 * p)
swapped q p = omega arith

-- a power of two that is no less than another is a multiple of it
multiple : (k n : ℕ) → is_power_of_two n ≡ true → power k ≤ n → (q : ℕ) × (n ≡ q * power k)
multiple zero n is le = (n, omega arith)
multiple (suc k) n is le =
    let half = half_power n is (omega (arith, le, power_some k)) in
    let rest = multiple k (n / 2) half.1 (omega (arith, half.0, le)) in
    (rest.0, half.0 ∙ (ap (λ (m : ℕ). 2 * m) rest.1 ∙ swapped rest.0 (power k)))

-- what is aligned by a power of two that is no less than a page is aligned by pages
pub aligned_page : (start align : ℕ) → is_power_of_two align ≡ true → 4096 ≤ align → is_aligned start align ≡ true → is_aligned start PAGE ≡ true
aligned_page start align is le aligned =
    let pages = multiple 12 align is le in
    let e : start ≡ start / align * align = omega (arith, div-add-mod' start align, eqb-true (start % align) 0 aligned) in
    let f : start ≡ start / align * (pages.0 * 4096) = e ∙ ap (λ (n : ℕ). start / align * n) pages.1 in
    let none : start % 4096 ≡ 0 = omega (arith, f) in
    ap (λ (n : ℕ). n == 0) none

-- ---- alignments

align_is : (n : ℕ) → bad_align n ≡ false → (n ≡ 0) ⊎ (is_power_of_two n ≡ true)
unfolding bad_align
align_is n h = elim (cases_Bool (is_power_of_two n)) [
  | inl power ↦ inr power
  | inr other ↦ elim (cases_Bool (n == 0)) [
    | inl none ↦ inl (eqb-true n 0 none)
    | inr some ↦ absurd (true≢false (rw (other, some) at h))
  ]
]

greater : (most n : ℕ) → is_power_of_two most ≡ true → (n ≡ 0) ⊎ (is_power_of_two n ≡ true) → is_power_of_two (max most n) ≡ true
greater most n p (inl none) = let same : max most n ≡ most = omega (arith, none) in rw same p
greater most n p (inr power) = elim (cases_lt most n) [
  | inl lt ↦ let same : max most n ≡ n = omega (arith, lt) in rw same power
  | inr le ↦ let same : max most n ≡ most = omega (arith, le) in rw same p
]

greatest_power : (most : ℕ) (ss : List Segment) → is_power_of_two most ≡ true → list_any bad_load ss ≡ false → is_power_of_two (fold (λ (m : ℕ) (s : Segment). max m s.align) most ss) ≡ true
greatest_power most [] p none = p
greatest_power most (s ∷ ss) p none =
    let parts = or_parts (bad_load s) (list_any bad_load ss) none in
    greatest_power (max most s.align) ss (greater most s.align p (align_is s.align (load_fits s parts.0).align)) parts.1

no_less : (most : ℕ) (ss : List Segment) → most ≤ fold (λ (m : ℕ) (s : Segment). max m s.align) most ss
no_less most [] = omega arith
no_less most (s ∷ ss) = omega (arith, no_less (max most s.align) ss)

page_power : is_power_of_two 4096 ≡ true
unfolding lib.Count.ones
page_power = refl

-- ---- an accepted object

pub record IsPaged (o : Object) : Type 0 where
  pub power : is_power_of_two o.align ≡ true
  pub align : 4096 ≤ o.align
  pub span : is_aligned o.span PAGE ≡ true
  pub some : is_library o.kind ≡ true → 0 < o.span

rounded : (n : ℕ) → is_aligned (round_up n PAGE) PAGE ≡ true
unfolding round_up
rounded n =
    let none : (n + (4096 - 1)) / 4096 * 4096 % 4096 ≡ 0 = omega arith in
    ap (λ (m : ℕ). m == 0) none

span_paged : (ss : List Segment) → is_aligned (span ss) PAGE ≡ true
unfolding span
span_paged ss = rounded (end_in_memory (last_load ss))

align_power : (ss : List Segment) → list_any bad_load (loads ss) ≡ false → is_power_of_two (align ss) ≡ true
unfolding align
align_power ss fit = greatest_power 4096 (loads ss) page_power fit

align_page : (ss : List Segment) → 4096 ≤ align ss
unfolding align
align_page ss = no_less 4096 (loads ss)

pub paged : (bytes : List ℕ) (o : Object) → reads bytes ≡ Ok o → IsPaged o
paged bytes o e =
    let facts = accepted bytes o e in
    record {
      power = ap (λ (n : ℕ). is_power_of_two n) facts.align ∙ align_power o.segments facts.loads.fit;
      align = omega (arith, facts.align, align_page o.segments);
      span = ap (λ (n : ℕ). is_aligned n PAGE) facts.span ∙ span_paged o.segments;
      some = facts.some;
    }
