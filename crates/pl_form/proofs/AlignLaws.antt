-- An alignment of a library is even, and so is a slot that is a multiple of it; an accepted file has a PT_LOAD.
use Rattle.std.proofs.Common.{◌≡◌, ℕ, ◌*◌, ◌/◌, ◌%◌, ◌<◌, ◌≤◌, inl, inr, true, false, List, [], ◌∷◌, Ok, ap, ◌∙◌, arith}
use Rattle.std.specs.Prelude.{◌==◌, max, fold}
use Rattle.std.specs.Int.{is_power_of_two}
use Rattle.std.specs.Int.Count.{ones_step}
use Rattle.std.specs.List.{list_any}
use Rattle.std.proofs.lemmas.Bool.{cases_Bool, cases_lt, or_parts, eqb-true, true≢false}
use Rattle.std.proofs.lemmas.Nat.{zero_from_ones, div-add-mod'}
use Rattle.pl_elf.specs.Clauses.{bad_align, bad_load}
use Rattle.pl_elf.specs.Headers.{loads}
use Rattle.pl_elf.specs.declared.segment.Segment.{Segment}
use Rattle.pl_elf.proofs.AcceptedLaws.{load_fits}
use Rattle.pl_object.specs.Accepted.{Accepted}
use Rattle.pl_object.specs.Reads.{align, reads}
use Rattle.pl_object.specs.declared.object.Object.{Object}
use Rattle.pl_object.proofs.AcceptedLaws.{accepted}

even_power : (n : ℕ) → is_power_of_two n ≡ true → 2 ≤ n → n % 2 ≡ 0
even_power n is le =
    let one = eqb-true _ 1 is in
    let step = ones_step n in
    elim (cases_lt (n % 2) 1) [
      | inl none ↦ omega (arith, none)
      | inr some ↦ let half : n / 2 ≡ 0 = zero_from_ones (n / 2) (omega (arith, one, step, some)) in absurd (omega (arith, half, le))
    ]

power_by : (a : ℕ) → bad_align a ≡ false → 2 ≤ a → is_power_of_two a ≡ true
unfolding bad_align
power_by a e le = elim (cases_Bool (a == 0)) [
  | inl none ↦ let is = eqb-true a 0 none in absurd (omega (arith, is, le))
  | inr some ↦ elim (cases_Bool (is_power_of_two a)) [ inl is ↦ is | inr other ↦ absurd (true≢false (rw (some, other) at e)) ]
]

max_even : (m a : ℕ) → 2 ≤ m → m % 2 ≡ 0 → bad_align a ≡ false → max m a % 2 ≡ 0
max_even m a le even fits = elim (cases_lt m a) [
  | inl lt ↦ let is : max m a ≡ a = omega (arith, lt) in ap (λ (n : ℕ). n % 2) is ∙ even_power a (power_by a fits (omega (arith, lt, le))) (omega (arith, lt, le))
  | inr ge ↦ let is : max m a ≡ m = omega (arith, ge) in ap (λ (n : ℕ). n % 2) is ∙ even
]

even_fold : (ss : List Segment) (most : ℕ) → 2 ≤ most → most % 2 ≡ 0 → list_any bad_load ss ≡ false → fold (λ (m : ℕ) (s : Segment). max m s.align) most ss % 2 ≡ 0
even_fold [] most le even fit = even
even_fold (s ∷ ss) most le even fit =
    let p = or_parts (bad_load s) (list_any bad_load ss) fit in
    even_fold ss (max most s.align) (omega (arith, le)) (max_even most s.align le even (load_fits s p.0).align) p.1

least_fold : (ss : List Segment) (most : ℕ) → most ≤ fold (λ (m : ℕ) (s : Segment). max m s.align) most ss
least_fold [] most = omega arith
least_fold (s ∷ ss) most = omega (arith, least_fold ss (max most s.align))

pub align_even : (o : List ℕ) (x : Object) → reads o ≡ Ok x → x.align % 2 ≡ 0
unfolding align
align_even o x e =
    let acc = accepted o x e in
    ap (λ (n : ℕ). n % 2) acc.align ∙ even_fold (loads x.segments) 4096 (omega arith) (omega arith) acc.loads.fit

pub align_some : (o : List ℕ) (x : Object) → Accepted o x → 0 < x.align
unfolding align
align_some o x acc = omega (arith, acc.align, least_fold (loads x.segments) 4096)

pub slot_even : (slot align : ℕ) → align % 2 ≡ 0 → slot % align ≡ 0 → slot % 2 ≡ 0
slot_even slot align even aligned =
    let q = slot / align in
    let h = align / 2 in
    let e : slot ≡ q * align = omega (arith, div-add-mod' slot align, aligned) in
    let k : align ≡ 2 * h = omega (arith, even) in
    let f : slot ≡ q * (2 * h) = e ∙ ap (λ (n : ℕ). q * n) k in
    omega (arith, f)
