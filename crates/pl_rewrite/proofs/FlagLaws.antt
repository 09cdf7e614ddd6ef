-- Flags of rows, one row after the other.
use Rattle.std.proofs.Common.{◌≡◌, ℕ, ◌+◌, ◌<◌, ◌≤◌, Bool, true, false, List, [], ◌∷◌, ◌++◌, length, take, get_or, replicate, set, Some, refl, sym, ap, subst, ◌∙◌, arith, inl, inr}
use Rattle.std.specs.Prelude.{◌||◌, ◌==◌, slice_get}
use Rattle.std.specs.List.{list_any}
use Rattle.std.proofs.lemmas.Bool.{cases_Bool, eqb-false, eqb-true}
use Rattle.std.proofs.lemmas.List.{get_or-replicate, get_or-set_other, get_or-set_same, length-replicate, length-set, take_all, take_more}
use Rattle.std.proofs.lemmas.Option.{get_or_from_slice_get, slice_get-get_or, slice_get_within}
use Rattle.pl_rewrite.specs.Flags.{FlagsAll, flagged}

pub or_none : (b : Bool) → (b || false) ≡ b
or_none true = refl
or_none false = refl

pub or_true : (b : Bool) → (b || true) ≡ true
or_true true = refl
or_true false = refl

pub or_assoc : (a b c : Bool) → ((a || b) || c) ≡ (a || (b || c))
or_assoc true b c = refl
or_assoc false b c = refl

pub any_append : {X : Type 0} (q : X → Bool) (xs : List X) (x : X) → list_any q (xs ++ x ∷ []) ≡ (list_any q xs || q x)
any_append q [] x = or_none (q x)
any_append q (y ∷ xs) x = ap (λ (b : Bool). q y || b) (any_append q xs x) ∙ sym (or_assoc (q y) (list_any q xs) (q x))

flagged_more : (rows : List ℕ) (i d row : ℕ) → i < length rows → flagged (take (i + 1) rows) row ≡ (flagged (take i rows) row || (get_or rows i d == row))
unfolding flagged
flagged_more rows i d row lt = ap (list_any (λ r. r == row)) (take_more rows i d lt) ∙ any_append (λ r. r == row) (take i rows) (get_or rows i d)

flagged_none : (row : ℕ) → flagged [] row ≡ false
unfolding flagged
flagged_none row = refl

-- the flag of a row after that of one was set
set_here : (xs : List Bool) (i row : ℕ) (b : Bool) → i ≡ row → slice_get xs row ≡ Some b → slice_get (set xs i true) row ≡ Some true
set_here xs i row b same at =
    let within : row < length xs = slice_get_within xs row b at in
    let lt : row < length (set xs i true) = omega (arith, within, length-set xs i true) in
    let own : i < length xs = omega (arith, within, same) in
    slice_get-get_or (set xs i true) row b lt ∙ ap (λ (k : ℕ). Some (get_or (set xs i true) k b)) (sym same) ∙ ap (λ (x : Bool). Some x) (get_or-set_same xs i true b own)

set_there : (xs : List Bool) (i row : ℕ) (b : Bool) → (row ≡ i → ⊥) → slice_get xs row ≡ Some b → slice_get (set xs i true) row ≡ Some b
set_there xs i row b apart at =
    let within : row < length xs = slice_get_within xs row b at in
    let lt : row < length (set xs i true) = omega (arith, within, length-set xs i true) in
    slice_get-get_or (set xs i true) row b lt ∙ ap (λ (x : Bool). Some x) (get_or-set_other xs i row true b apart) ∙ ap (λ (x : Bool). Some x) (get_or_from_slice_get xs row b b at)

set_flag : (xs : List Bool) (i row : ℕ) (b : Bool) → slice_get xs row ≡ Some b → slice_get (set xs i true) row ≡ Some (b || (i == row))
set_flag xs i row b at = elim (cases_Bool (i == row)) [
  | inl hit ↦ set_here xs i row b (eqb-true i row hit) at ∙ sym (ap (λ (x : Bool). Some (b || x)) hit ∙ ap (λ (x : Bool). Some x) (or_true b))
  | inr miss ↦ set_there xs i row b (λ e. eqb-false i row miss (sym e)) at ∙ sym (ap (λ (x : Bool). Some (b || x)) miss ∙ ap (λ (x : Bool). Some x) (or_none b))
]

-- ---- one row after the other

pub flags_begin : (flags : List Bool) → FlagsAll [] flags flags
flags_begin flags = record { count = refl; each = λ row b at. at ∙ sym (ap (λ (x : Bool). Some (b || x)) (flagged_none row) ∙ ap (λ (x : Bool). Some x) (or_none b)) }

pub flags_more : (rows : List ℕ) (i d : ℕ) (before flags : List Bool) → i < length rows → FlagsAll (take i rows) before flags → FlagsAll (take (i + 1) rows) before (set flags (get_or rows i d) true)
flags_more rows i d before flags lt are = record {
  count = length-set flags (get_or rows i d) true ∙ are.count;
  each = λ row b at.
      set_flag flags (get_or rows i d) row (b || flagged (take i rows) row) (are.each row b at)
      ∙ ap (λ (x : Bool). Some x) (or_assoc b (flagged (take i rows) row) (get_or rows i d == row) ∙ ap (λ (x : Bool). b || x) (sym (flagged_more rows i d row lt)));
}

pub flags_done : (rows : List ℕ) (i : ℕ) (before flags : List Bool) → length rows ≤ i → FlagsAll (take i rows) before flags → FlagsAll rows before flags
flags_done rows i before flags le are = subst (λ (rs : List ℕ). FlagsAll rs before flags) (take_all i rows le) are

-- ---- flags of which none was set

pub none_set : (size row : ℕ) (b : Bool) → slice_get (replicate size false) row ≡ Some b → b ≡ false
none_set size row b at =
    let within : row < length (replicate size false) = slice_get_within (replicate size false) row b at in
    sym (get_or_from_slice_get (replicate size false) row b b at) ∙ get_or-replicate size row false b (omega (arith, within, length-replicate size false))

pub flags_count : (size : ℕ) (flags : List Bool) → flags ≡ replicate size false → length flags ≡ size
flags_count size flags none = ap length none ∙ length-replicate size false

-- the flag of one row
pub flag_is : (row k : ℕ) → (row == k) ≡ flagged (row ∷ []) k
unfolding flagged
flag_is row k = sym (or_none (row == k))

abbrev pub IsFlagOf : ℕ → ℕ → Bool → Type 0
IsFlagOf row k b = b ≡ flagged (row ∷ []) k

-- those of the first rows
abbrev pub FlagsTo : ℕ → List Bool → Type 0
FlagsTo row flags = (k : ℕ) (b : Bool) → slice_get flags k ≡ Some b → IsFlagOf row k b
