-- One of many loaders opens a file.
use Rattle.std.proofs.Common.{◌≡◌, ◌≢◌, ◌∙◌, ◌<◌, ℕ, zero, suc, List, [], ◌∷◌, length, get_or, map, Some, Result, refl, ap, sym, subst, arith, inl, inr, slice_set}
use Rattle.std.specs.Prelude.{slice_get}
use Rattle.std.specs.Borrow.{Bor}
use Rattle.std.proofs.lemmas.List.{get_or-set_other, get_or-set_same, length-map, length-set}
use Rattle.std.proofs.lemmas.Option.{slice_get-get_or, slice_get_cases, slice_get_past}
use Rattle.pl_elf.specs.declared.range.Range.{Range}
use Rattle.pl_folder.specs.Seen as folder
use Rattle.pl_place.specs.Policy.{Answering}
use Rattle.pl_loader.specs.Given.{MayPlace}
use Rattle.pl_weave.specs.Opening.{Opened, Opens, OpensAt, asks, asks_at, asks_by, opened, wanted_in}
use Rattle.pl_weave.specs.Running.{AreChosen, HavePolicy, policies}
use Rattle.pl_weave.specs.declared.fault.WeaveFault.{WeaveFault}

was_there : {F : Type 0} (w : List (Opened F)) (k : ℕ) (before : Opened F) → k < length w → before ≡ get_or w k before → slice_get w k ≡ Some before
was_there w k before lt is = slice_get-get_or w k before lt ∙ ap (λ (o : Opened _). Some o) (sym is)

others_stay : {F : Type 0} (w : List (Opened F)) (k : ℕ) (after : Opened F) (other : ℕ) → other ≢ k → slice_get (slice_set w k after) other ≡ slice_get w other
others_stay w k after other differs = elim (slice_get_cases w other).1 [
  | inl there ↦
      slice_get-get_or (slice_set w k after) other after (omega (arith, there.1, length-set w k after)) ∙ (ap (λ (o : Opened _). Some o) (get_or-set_other w k other after after differs)
      ∙ sym (slice_get-get_or w other after there.1))
  | inr past ↦ slice_get_past (slice_set w k after) other (omega (arith, past.0, length-set w k after)) ∙ sym past.1
]

pub opens_at : {F : Type 0} (post : F → Answering) (w : List (Opened F)) (k : ℕ) (before after : Opened F) (result : Result (Unit {0}) WeaveFault) (held : folder.Seen) → k < length w → before ≡ get_or w k before
    → Opens post result before after held → OpensAt post result k w (slice_set w k after) held
opens_at post w k before after result held lt is opens = record {
  before = before;
  after = after;
  was = was_there w k before lt is;
  now = slice_get-get_or (slice_set w k after) k before (omega (arith, lt, length-set w k after)) ∙ ap (λ (o : Opened _). Some o) (get_or-set_same w k after before lt);
  opens = opens;
  others = others_stay w k after;
  count = length-set w k after;
}

pub asks_one : {F : Type 0} (w : List (Opened F)) (k : ℕ) (before : Opened F) → k < length w → before ≡ get_or w k before → asks before ≡ asks_at w k
asks_one w k before lt is = ap (λ o. asks_by (wanted_in o)) (sym (was_there w k before lt is))

-- ---- the policies

pub policy_of : {F : Type 0} (p : F) (w : List (Opened F)) (k : ℕ) (o : Opened F) → HavePolicy p w → slice_get w k ≡ Some o → o.load.policy ≡ p
policy_of p [] k o have is = let no : ⊥ = cc in absurd no
policy_of p (q ∷ w) zero o have is = let same : q ≡ o = cc in ap (λ (x : Opened _). x.load.policy) (sym same) ∙ have.0
policy_of p (q ∷ w) (suc k) o have is = policy_of p w k o have.1 is

-- the loader of a number goes by its policy
pub may_open : {F : Type 0} (pre : F → Bor (List Range) → ℕ → ℕ → Type 0) (post : F → Answering) (w : List (Opened F)) (k : ℕ) (o : Opened F) → AreChosen pre post w → k < length w → o ≡ get_or w k o → MayPlace pre post o.load.policy
may_open pre post w k o chosen lt is =
    let same : o.load.policy ≡ chosen.policy = policy_of chosen.policy w k o chosen.are (was_there w k o lt is) in
    subst (MayPlace pre post) (sym same) (record { may = chosen.may; chooses = chosen.chooses })

pub have_policy : {F : Type 0} (p : F) (w : List (Opened F)) (names : List (List ℕ)) → policies w ≡ map (λ name. p) names → HavePolicy p w
have_policy p [] names are = tt
have_policy p (o ∷ w) [] are = let no : ⊥ = cc in absurd no
have_policy p (o ∷ w) (name ∷ names) are =
    let first : o.load.policy ≡ p = cc in
    let rest : policies w ≡ map (λ name. p) names = cc in
    (first, have_policy p w names rest)

pub count_policies : {F : Type 0} (p : F) (w : List (Opened F)) (names : List (List ℕ)) → policies w ≡ map (λ name. p) names → length w ≡ length names
count_policies p w names are = sym (length-map w (λ o. o.load.policy)) ∙ ap (λ ps. length ps) are ∙ length-map names (λ name. p)

-- new loaders go by theirs
pub policies_new : {F : Type 0} (p : F) (names : List (List ℕ)) → policies (map (opened p) names) ≡ map (λ name. p) names
policies_new p [] = refl
policies_new p (name ∷ names) = ap (λ ps. p ∷ ps) (policies_new p names)
