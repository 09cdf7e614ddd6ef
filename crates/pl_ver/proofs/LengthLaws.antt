-- The length of a chain from the length of the one that follows its first record.
use Rattle.std.proofs.Common.{◌≡◌, ◌≢◌, ℕ, ◌+◌, ◌-◌, ◌%◌, ◌<◌, ◌≤◌, Bool, true, false, not, ◌&&◌, ◌||◌, eqb, List, length, set, replicate, refl, sym, ◌∙◌, arith, get_or-set_same, get_or-set_other, length-set, inl, inr, eq-eqb}
use Rattle.std.specs.Prelude.{slice_index}
use Rattle.std.proofs.lemmas.Bool.{lt-leb, le-leb, ne_eqb}
use Rattle.std.proofs.lemmas.Bool.Decides.{eqb_tells}
use Rattle.std.proofs.Math.Bool.{and-false, not-and_self}
use Rattle.std.proofs.lemmas.List.{length-replicate, get_or_past}
use Rattle.pl_ver.specs.declared.constants.TheConstants.{NEXT_SIZE}
use Rattle.pl_ver.specs.Fields.{next}
use Rattle.pl_ver.specs.Chains.{is_linked, is_chain}
use Rattle.pl_ver.specs.Lengths.{IsLength, AreLengths}
use Rattle.pl_ver.proofs.ChainLaws.{is_chain_step, is_chain_none}

not_zero : (count : ℕ) → 0 < count → eqb count 0 ≡ false
not_zero count some = ne_eqb count 0 (λ e. omega arith)

linked_outside : (size : ℕ) (section : List ℕ) (more at : ℕ) → length section < at + size → is_linked size section more at ≡ false
unfolding is_linked
linked_outside size section more at past = rw (lt-leb (at + size) (length section) past) refl

linked_last : (size : ℕ) (section : List ℕ) (more at : ℕ) → at + size ≤ length section → next size section at ≡ 0 → is_linked size section more at ≡ eqb more 0
unfolding is_linked
linked_last size section more at within none =
    elim (eqb_tells more 0) [
      | inl e ↦ rw (le-leb (at + size) (length section) within, none, e.0) refl
      | inr e ↦ rw (le-leb (at + size) (length section) within, none, e.0) refl
    ]

linked_more : (size : ℕ) (section : List ℕ) (more at : ℕ) → at + size ≤ length section → next size section at ≢ 0 → is_linked size section more at ≡ not (eqb more 0)
unfolding is_linked
linked_more size section more at within some =
    elim (eqb_tells more 0) [
      | inl e ↦ rw (le-leb (at + size) (length section) within, ne_eqb (next size section at) 0 some, e.0) refl
      | inr e ↦ rw (le-leb (at + size) (length section) within, ne_eqb (next size section at) 0 some, e.0) refl
    ]

-- no record lies there
pub outside : (passes : ℕ → Bool) (size : ℕ) (section : List ℕ) (at : ℕ) → length section < at + size → IsLength passes size section at 0
outside passes size section at past = λ count some few.
    rw (is_chain_step passes size section count at some, linked_outside size section (count - 1) at past) (sym (not_zero count some))

no_and : (a b : Bool) → ((a && false) && b) ≡ false
no_and true b = refl
no_and false b = refl

-- the record has no name
pub unnamed : (passes : ℕ → Bool) (size : ℕ) (section : List ℕ) (at : ℕ) → passes at ≡ false → IsLength passes size section at 0
unnamed passes size section at fails = λ count some few.
    rw (is_chain_step passes size section count at some, fails) (no_and (is_linked size section (count - 1) at) _ ∙ sym (not_zero count some))

-- no record follows
pub last : (passes : ℕ → Bool) (size : ℕ) (section : List ℕ) (at : ℕ) → at + size ≤ length section → passes at ≡ true → next size section at ≡ 0 → IsLength passes size section at 1
last passes size section at within named none = λ count some few.
    rw (is_chain_step passes size section count at some, linked_last size section (count - 1) at within none, named)
    (elim (eqb_tells (count - 1) 0) [
      | inl e ↦ rw (e.0, is_chain_none passes size section (count - 1) (at + next size section at) (omega (arith, e.1))) (sym (eq-eqb count 1 (omega (arith, e.1, some))))
      | inr e ↦ rw e.0 (sym (ne_eqb count 1 (λ one. e.1 (omega (arith, one)))))
    ])

-- a record follows, of whose chain the length is known
behind : (passes : ℕ → Bool) (size : ℕ) (section : List ℕ) (at rest : ℕ) → at + size ≤ length section → passes at ≡ true → next size section at ≢ 0
    → IsLength passes size section (at + next size section at) rest
    → (count : ℕ) → 0 < count → count < 0x10000 → is_chain passes size section count at ≡ (not (eqb (count - 1) 0) && eqb (count - 1) rest)
behind passes size section at rest within named more known count some few =
    rw (is_chain_step passes size section count at some, linked_more size section (count - 1) at within more, named)
    (elim (eqb_tells (count - 1) 0) [
      | inl e ↦ rw e.0 refl
      | inr e ↦ rw e.0 (known (count - 1) (more_than_one count some e.1) (omega (arith, few)))
    ])
  where
    more_than_one : (count : ℕ) → 0 < count → count - 1 ≢ 0 → 0 < count - 1
    more_than_one count some other = grind arith

pub cut_off : (passes : ℕ → Bool) (size : ℕ) (section : List ℕ) (at rest : ℕ) → at + size ≤ length section → passes at ≡ true → next size section at ≢ 0
    → IsLength passes size section (at + next size section at) rest → rest ≡ 0 → IsLength passes size section at 0
cut_off passes size section at rest within named more known none = λ count some few.
    behind passes size section at rest within named more known count some few ∙ rw none (not-and_self (eqb (count - 1) 0)) ∙ sym (not_zero count some)

pub linked : (passes : ℕ → Bool) (size : ℕ) (section : List ℕ) (at rest : ℕ) → at + size ≤ length section → passes at ≡ true → next size section at ≢ 0
    → IsLength passes size section (at + next size section at) rest → rest ≢ 0 → rest < 0x10000 → IsLength passes size section at ((rest + 1) % 0x10000)
linked passes size section at rest within named more known some_rest small = λ count some few.
    behind passes size section at rest within named more known count some few
    ∙ elim (eqb_tells (count - 1) rest) [
      | inl e ↦
          let other : eqb (count - 1) 0 ≡ false = ne_eqb (count - 1) 0 (λ zero. some_rest (sym e.1 ∙ zero)) in
          rw (other, e.0) (sym (eq-eqb count ((rest + 1) % 0x10000) (omega (arith, e.1, some, few))))
      | inr e ↦ rw e.0 (and-false (not (eqb (count - 1) 0)) ∙ sym (ne_eqb count ((rest + 1) % 0x10000) (λ same. e.1 (omega (arith, same, some, few, small)))))
    ]

-- ---- the lengths from an offset on

pub no_lengths : (passes : ℕ → Bool) (size : ℕ) (section lengths : List ℕ) → NEXT_SIZE ≤ size → lengths ≡ replicate (length section) 0 → AreLengths passes size section lengths (length section)
no_lengths passes size section lengths some all = record {
  same = rw all (length-replicate {A = ℕ} (length section) 0);
  each = λ at past. rw (all, nothing (length section) at past) (outside passes size section at (omega (arith, some, past)));
}
  where
    nothing : (n at : ℕ) → n ≤ at → slice_index (replicate n 0) at ≡ 0
    nothing n at past = get_or_past (replicate n 0) at 0 (omega (arith, length-replicate {A = ℕ} n 0, past))

pub one_more : (passes : ℕ → Bool) (size : ℕ) (section lengths : List ℕ) (from value : ℕ) → 0 < from → from ≤ length section → AreLengths passes size section lengths from → IsLength passes size section (from - 1) value
    → AreLengths passes size section (set lengths (from - 1) value) (from - 1)
one_more passes size section lengths from value some within known new = record {
  same = length-set lengths (from - 1) value ∙ known.same;
  each = λ at past.
      elim (eqb_tells at (from - 1)) [
        | inl e ↦ rw (e.1, get_or-set_same lengths (from - 1) value 0 (omega (arith, known.same, within, some))) new
        | inr e ↦ rw (get_or-set_other lengths (from - 1) at value 0 e.1) (known.each at (other at past e.1))
      ];
}
  where
    other : (at : ℕ) → from - 1 ≤ at → at ≢ from - 1 → from ≤ at
    other at past differs = grind arith

pub from_next : (passes : ℕ → Bool) (size : ℕ) (section lengths : List ℕ) (from : ℕ) → 0 < from → AreLengths passes size section lengths from → AreLengths passes size section lengths (from - 1 + 1)
from_next passes size section lengths from some known =
    let next : from - 1 + 1 ≡ from = omega arith in
    rw next known

-- ---- what they say

pub told : (passes : ℕ → Bool) (size : ℕ) (section lengths : List ℕ) (count first : ℕ) → count < 0x10000 → AreLengths passes size section lengths 0
    → (eqb count 0 || eqb count (slice_index lengths first)) ≡ is_chain passes size section count first
told passes size section lengths count first few known =
    elim (eqb_tells count 0) [
      | inl e ↦ rw (e.0, is_chain_none passes size section count first (omega (arith, e.1))) refl
      | inr e ↦ rw e.0 (sym (known.each first (omega arith) count (some count e.1) few))
    ]
  where
    some : (count : ℕ) → count ≢ 0 → 0 < count
    some count other = grind arith
