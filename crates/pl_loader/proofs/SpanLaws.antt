-- What acceptance says of the addresses that an object takes.
use Rattle.std.proofs.Common.{◌≡◌, ℕ, ◌<◌, true, false, List, [], ◌∷◌, Ok, refl, sym, arith, inl, inr}
use Rattle.std.specs.Prelude.{fold, max, ◌==◌, ◌⊎◌}
use Rattle.std.specs.List.{All, list_any}
use Rattle.std.specs.Int.{is_power_of_two}
use Rattle.std.proofs.lemmas.Bool.{cases_Bool, cases_lt, or_parts, eqb-true, false≢true}
use Rattle.std.proofs.lemmas.List.Elements.{All-weaker}
use Rattle.pl_elf.specs.Headers.{loads}
use Rattle.pl_elf.specs.Clauses.{AreLoads, bad_load, bad_align}
use Rattle.pl_elf.specs.declared.constants.TheConstants.{ADDRESS_LIMIT, PAGE}
use Rattle.pl_elf.specs.declared.segment.Segment.{Segment}
use Rattle.pl_elf.proofs.AcceptedLaws.{LoadFits, load_fits, loads_fit}
use Rattle.pl_object.specs.Reads.{reads, align}
use Rattle.pl_object.specs.declared.object.Object.{Object}
use Rattle.pl_object.proofs.AcceptedLaws.{accepted}
use Rattle.pl_object.proofs.SpanLaws.{Ends, span_ends}
use Rattle.pl_elf.specs.Kinds.{is_library}

-- ---- the alignment

bad_align_is : (n : ℕ) → bad_align n ≡ false → (n ≡ 0) ⊎ (is_power_of_two n ≡ true)
unfolding bad_align
bad_align_is n h =
    elim (cases_Bool (is_power_of_two n)) [
      | inl power ↦ inr power
      | inr other ↦ elim (cases_Bool (n == 0)) [
        | inl none ↦ inl (eqb-true n 0 none)
        | inr some ↦ absurd (false≢true (sym (rw (other, some) at h)))
      ]
    ]

power_max : (most n : ℕ) → is_power_of_two most ≡ true → (n ≡ 0) ⊎ (is_power_of_two n ≡ true) → is_power_of_two (max most n) ≡ true
power_max most n p (inl none) = let same : max most n ≡ most = omega (arith, none) in rw same p
power_max most n p (inr power) =
    elim (cases_lt most n) [
      | inl lt ↦ let same : max most n ≡ n = omega (arith, lt) in rw same power
      | inr le ↦ let same : max most n ≡ most = omega (arith, le) in rw same p
    ]

power_from : (most : ℕ) (ss : List Segment) → is_power_of_two most ≡ true → list_any bad_load ss ≡ false → is_power_of_two (fold (λ m s. max m s.align) most ss) ≡ true
power_from most [] p none = p
power_from most (s ∷ ss) p none =
    let parts = or_parts (bad_load s) (list_any bad_load ss) none in
    power_from (max most s.align) ss (power_max most s.align p (bad_align_is s.align (load_fits s parts.0).align)) parts.1

page_power : is_power_of_two PAGE ≡ true
unfolding lib.Count.ones
page_power = refl

-- ---- as the loader needs it

-- what is known of an accepted object's addresses
pub record IsSpanned (o : Object) : Type 0 where
  pub are : AreLoads (loads o.segments)
  pub below : All (Ends ADDRESS_LIMIT) (loads o.segments)
  pub span : All (Ends o.span) (loads o.segments)
  pub power : is_power_of_two o.align ≡ true
  pub some : is_library o.kind ≡ true → 0 < o.span

power_of : (o : Object) → o.align ≡ align o.segments → AreLoads (loads o.segments) → is_power_of_two o.align ≡ true
unfolding align
power_of o is are = rw is (power_from PAGE (loads o.segments) page_power are.fit)

pub spanned : (bytes : List ℕ) (o : Object) → reads bytes ≡ Ok o → IsSpanned o
spanned bytes o e =
    let facts = accepted bytes o e in
    let are = facts.loads in
    record {
      are = are;
      below = All-weaker LoadFits (Ends ADDRESS_LIMIT) (λ s fits. fits.ends) (loads o.segments) (loads_fit (loads o.segments) are.fit);
      span = rw facts.span (span_ends o.segments are);
      power = power_of o facts.align are;
      some = facts.some;
    }
