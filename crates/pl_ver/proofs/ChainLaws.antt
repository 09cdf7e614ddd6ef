-- A chain, one record at a time.
use Rattle.std.proofs.Common.{◌≡◌, ℕ, zero, suc, ◌+◌, ◌-◌, ◌<◌, ◌≤◌, Bool, true, not, ◌&&◌, List, [], ◌∷◌, length, refl, sym, ◌∙◌, arith, eqb}
use Rattle.std.proofs.lemmas.Bool.{and_parts, leb-true}
use Rattle.pl_ver.specs.declared.constants.TheConstants.{VERDAUX_SIZE, VERNAUX_SIZE, VDA_NAME, VN_FILE, VNA_NAME}
use Rattle.pl_ver.specs.Fields.{next, verdef_count, verdef_names, verneed_count, verneed_versions}
use Rattle.pl_ver.specs.Chains.{chain, is_linked, is_chain, is_named, is_verdef, is_verneed}

pub is_chain_step : (passes : ℕ → Bool) (size : ℕ) (section : List ℕ) (count at : ℕ) → 0 < count
    → is_chain passes size section count at ≡ (is_linked size section (count - 1) at && passes at && is_chain passes size section (count - 1) (at + next size section at))
unfolding is_chain
is_chain_step passes size section zero at some = absurd (omega arith)
is_chain_step passes size section (suc more) at some =
    let k : suc more - 1 ≡ more = omega arith in
    rw k refl

pub is_chain_none : (passes : ℕ → Bool) (size : ℕ) (section : List ℕ) (count at : ℕ) → count ≤ 0 → is_chain passes size section count at ≡ true
unfolding is_chain
is_chain_none passes size section zero at none = refl
is_chain_none passes size section (suc more) at none = absurd (omega arith)

pub chain_step : (size : ℕ) (section : List ℕ) (count at : ℕ) → 0 < count → chain size section count at ≡ at ∷ chain size section (count - 1) (at + next size section at)
unfolding chain
chain_step size section zero at some = absurd (omega arith)
chain_step size section (suc more) at some =
    let k : suc more - 1 ≡ more = omega arith in
    rw k refl

pub chain_none : (size : ℕ) (section : List ℕ) (count at : ℕ) → count ≤ 0 → chain size section count at ≡ []
unfolding chain
chain_none size section zero at none = refl
chain_none size section (suc more) at none = absurd (omega arith)

-- ---- what a chain says of its first record

lies : (size : ℕ) (section : List ℕ) (more at : ℕ) → is_linked size section more at ≡ true → at + size ≤ length section
unfolding is_linked
lies size section more at linked = leb-true (at + size) (length section) (and_parts _ _ linked).0

pub record Opened (passes : ℕ → Bool) (size : ℕ) (section : List ℕ) (count at : ℕ) : Type 0 where
  pub within : at + size ≤ length section
  pub passed : passes at ≡ true
  pub rest : is_chain passes size section (count - 1) (at + next size section at) ≡ true

pub opened : (passes : ℕ → Bool) (size : ℕ) (section : List ℕ) (count at : ℕ) → 0 < count → is_chain passes size section count at ≡ true → Opened passes size section count at
opened passes size section count at some good =
    let all = sym (is_chain_step passes size section count at some) ∙ good in
    let halves = and_parts (is_linked size section (count - 1) at && passes at) _ all in
    let front = and_parts (is_linked size section (count - 1) at) (passes at) halves.0 in
    record {
      within = lies size section (count - 1) at front.0;
      passed = front.1;
      rest = halves.1;
    }

-- the chain goes on behind it
pub goes_on : (passes : ℕ → Bool) (size : ℕ) (section : List ℕ) (count at to : ℕ) → 0 < count → to ≡ at + next size section at → is_chain passes size section count at ≡ true
    → is_chain passes size section (count - 1) to ≡ true
goes_on passes size section count at to some after good = rw after (opened passes size section count at some good).rest

-- ---- what is known of a Verdef and of a Verneed

not_zero : (n : ℕ) → not (eqb n 0) ≡ true → 0 < n
not_zero zero h = absurd cc
not_zero (suc n) h = omega arith

-- its first name lies in the section
pub first_name_lies : (strings verdef : List ℕ) (at : ℕ) → is_verdef strings verdef at ≡ true → verdef_names verdef at + VERDAUX_SIZE ≤ length verdef
unfolding is_verdef
first_name_lies strings verdef at good =
    let parts = and_parts (not (eqb (verdef_count verdef at) 0)) _ good in
    let o = opened (is_named strings verdef VDA_NAME) VERDAUX_SIZE verdef (verdef_count verdef at) (verdef_names verdef at) (not_zero (verdef_count verdef at) parts.0) parts.1 in
    o.within

-- its versions are a chain
pub versions_chain : (strings verneed : List ℕ) (at : ℕ) → is_verneed strings verneed at ≡ true
    → is_chain (is_named strings verneed VNA_NAME) VERNAUX_SIZE verneed (verneed_count verneed at) (verneed_versions verneed at) ≡ true
unfolding is_verneed
versions_chain strings verneed at good = (and_parts (is_named strings verneed VN_FILE at) _ good).1
