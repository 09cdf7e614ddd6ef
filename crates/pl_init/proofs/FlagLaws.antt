-- Tables of flags.
use Rattle.std.proofs.Common.{◌≡◌, ◌≢◌, ℕ, ◌<◌, Bool, true, false, ◌||◌, List, [], ◌∷◌, ◌++◌, length, get_or, set, replicate, refl, sym, ap, ◌∙◌, arith, inl, inr}
use Rattle.std.specs.Prelude.{◌==◌}
use Rattle.std.proofs.lemmas.Bool.{cases_Bool, or_left, eqb-true, eqb-false}
use Rattle.std.proofs.lemmas.List.{length-set, length-replicate, get_or-replicate, get_or-set_same, get_or-set_other}
use Rattle.pl_scope.specs.declared.constants.TheConstants.{MAX_MEMBERS}
use Rattle.std.proofs.lemmas.List.Folds.{list_any-append}
use Rattle.pl_init.specs.declared.relation.ReachRow.{ReachRow}
use Rattle.pl_init.specs.Found.{among, is_seen}
use Rattle.pl_init.specs.Flags.{AreFlags}
use Rattle.pl_init.proofs.ListLaws.{number_laws}

pub none_flagged : AreFlags (replicate MAX_MEMBERS false) (λ _. false)
none_flagged = record { long = length-replicate MAX_MEMBERS false; each = λ k lt. get_or-replicate MAX_MEMBERS k false false lt }

pub one_flagged : (flags : List Bool) (test : ℕ → Bool) (m : ℕ) → AreFlags flags test → m < MAX_MEMBERS → AreFlags (set flags m true) (λ k. k == m || test k)
one_flagged flags test m a small = record {
  long = length-set flags m true ∙ a.long;
  each = λ k lt. elim (cases_Bool (k == m)) [
    | inl t ↦ here k (eqb-true k m t) ∙ sym (or_left (k == m) (test k) t)
    | inr f ↦ let ne : k ≢ m = eqb-false k m f in get_or-set_other flags m k true false ne ∙ (a.each k lt ∙ sym (or_off (k == m) (test k) f))
  ];
}
  where
    here : (k : ℕ) → k ≡ m → get_or (set flags m true) k false ≡ true
    here k e = ap (λ (z : ℕ). get_or (set flags m true) z false) e ∙ get_or-set_same flags m true false (within a.long)
      where
        within : length flags ≡ MAX_MEMBERS → m < length flags
        within l = omega (arith, l, small)

    or_off : (b c : Bool) → b ≡ false → (b || c) ≡ c
    or_off b c f = rw f refl

pub same_flags : (flags : List Bool) (f g : ℕ → Bool) → ((k : ℕ) → f k ≡ g k) → AreFlags flags f → AreFlags flags g
same_flags flags f g same a = record { long = a.long; each = λ k lt. a.each k lt ∙ same k }

-- one row more, and the flag of the member to which it leads
pub seen_flagged : (flags : List Bool) (m : ℕ) (rows after : List ReachRow) (r : ReachRow) → after ≡ rows ++ r ∷ [] → AreFlags flags (λ k. k == r.to || is_seen m rows k) → AreFlags flags (is_seen m after)
seen_flagged flags m rows after r is a = same_flags flags (λ k. k == r.to || is_seen m rows k) (is_seen m after) (λ k. pushed k ∙ ap (λ (z : List ReachRow). is_seen m z k) (sym is)) a
  where
    turn : (a b c d : Bool) → a ≡ d → (a || (b || c)) ≡ (b || (c || (d || false)))
    turn true true c d e = refl
    turn true false true d e = refl
    turn true false false d e = rw (← e) refl
    turn false true c d e = refl
    turn false false true d e = refl
    turn false false false d e = rw (← e) refl

    pushed : (k : ℕ) → (k == r.to || is_seen m rows k) ≡ is_seen m (rows ++ r ∷ []) k
    pushed k = turn (k == r.to) (k == m) (among rows k) (r.to == k) (number_laws.symm k r.to) ∙ ap (λ (b : Bool). k == m || b) (sym (list_any-append (λ (x : ReachRow). x.to == k) rows (r ∷ [])))
