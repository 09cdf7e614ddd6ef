-- The memory of an object: where its PT_LOADs end, and that a library has some.
use Rattle.std.proofs.Common.{◌≡◌, ℕ, ◌+◌, ◌<◌, ◌≤◌, Bool, true, List, [], ◌∷◌, Option, Some, None, arith, inl, inr, lit<, subst}
use Rattle.std.specs.Prelude.{fold, find, if◌then◌else◌}
use Rattle.std.specs.List.{All}
use Rattle.std.proofs.lemmas.Bool.{cases_Bool, and_parts, leb-true}
use Rattle.std.proofs.lemmas.List.Elements.{All-nil, All-cons, All-weaker, All-head, All-tail}
use Rattle.pl_base.specs.Sums.{round_up}
use Rattle.pl_base.proofs.SumLaws.{round_up-at_least}
use Rattle.pl_base.proofs.FindLaws.{find_passes}
use Rattle.pl_elf.specs.Headers.{is_load, loads}
use Rattle.pl_elf.specs.Clauses.{AreLoads, ascend_from}
use Rattle.pl_elf.specs.declared.constants.TheConstants.{PAGE}
use Rattle.pl_elf.specs.declared.segment.Segment.{Segment}
use Rattle.pl_elf.proofs.AcceptedLaws.{LoadFits, loads_fit}
use Rattle.pl_object.specs.FilePart.{loads_byte, loader}
use Rattle.pl_object.specs.PlaceClauses.{last_load}
use Rattle.pl_object.specs.Reads.{span, end_in_memory}
use Rattle.pl_object.proofs.FilePartLaws.{loads_parts}

-- the last PT_LOAD of a segment before and of those behind it
abbrev last_from : Option Segment → List Segment → Option Segment
last_from found ss = fold (λ f s. if is_load s then Some s else f) found ss

-- a segment ends at or below an address
abbrev pub Ends : ℕ → Segment → Type 0
Ends most s = s.vaddr + s.memsz ≤ most

-- the segment before ends at or below the end of the last one, and so do all PT_LOADs
abbrev LastEnds : Option Segment → List Segment → Type 0
LastEnds found ss = (end_in_memory found ≤ end_in_memory (last_from found ss)) × All (Ends (end_in_memory (last_from found ss))) (loads ss)

last_ends : (found : Option Segment) (low : ℕ) (ss : List Segment) → end_in_memory found ≤ low → ascend_from low (loads ss) ≡ true → LastEnds found ss
last_ends found low [] le ascend = (omega arith, All-nil (Ends (end_in_memory found)))
last_ends found low (s ∷ ss) le ascend =
    elim (cases_Bool (is_load s)) [
      | inl hit ↦
          let parts = and_parts _ _ (rw hit at ascend) in
          let from = leb-true low s.vaddr parts.0 in
          let rest = last_ends (Some s) (s.vaddr + s.memsz) ss (omega arith) parts.1 in
          let most : ℕ = end_in_memory (last_from (Some s) ss) in
          rw hit (omega (arith, rest.0), All-cons (Ends most) s (loads ss) rest.0 rest.1)
      | inr miss ↦
          let rest = last_ends found low ss le (rw miss at ascend) in
          rw miss rest
    ]

-- each PT_LOAD ends at or below the span
pub span_ends : (ss : List Segment) → AreLoads (loads ss) → All (Ends (span ss)) (loads ss)
unfolding span last_load
span_ends ss are =
    let last = last_ends None 0 ss (omega arith) are.ascend in
    let most : ℕ = end_in_memory (last_from None ss) in
    All-weaker (Ends most) (Ends (round_up most PAGE)) (λ s le. omega (arith, le, round_up-at_least most PAGE (lit< tt))) (loads ss) last.1

same_Some : (x y : Segment) → Some x ≡ Some y → x ≡ y
same_Some x y e = cc

-- what holds of all PT_LOADs holds of one that is found
found_holds : (P : Segment → Type 0) (p : Segment → Bool) (ss : List Segment) (s : Segment) → All P (loads ss) → ((x : Segment) → p x ≡ true → is_load x ≡ true) → find p ss ≡ Some s → P s
found_holds P p [] s all passes found = absurd cc
found_holds P p (x ∷ ss) s all passes found =
    elim (cases_Bool (p x)) [
      | inl hit ↦
          let same : x ≡ s = same_Some x s (rw hit at found) in
          subst P same (All-head P x (loads ss) (rw (passes x hit) at all))
      | inr miss ↦
          found_holds P p ss s (elim (cases_Bool (is_load x)) [
            | inl load ↦ All-tail P x (loads ss) (rw load at all)
            | inr other ↦ rw other at all
          ]) passes (rw miss at found)
    ]

-- there is some, where a byte is loaded from the file
pub some_span : (ss : List Segment) (at : ℕ) (s : Segment) → AreLoads (loads ss) → loader ss at ≡ Some s → 0 < span ss
some_span ss at s are found =
    let byte = loads_parts at s (find_passes (loads_byte at) ss s found) in
    let fits = found_holds LoadFits (loads_byte at) ss s (loads_fit (loads ss) are.fit) (λ x hit. (loads_parts at x hit).0) found in
    let end = found_holds (Ends (span ss)) (loads_byte at) ss s (span_ends ss are) (λ x hit. (loads_parts at x hit).0) found in
    omega (arith, byte.1, byte.2, fits.bytes, end)
