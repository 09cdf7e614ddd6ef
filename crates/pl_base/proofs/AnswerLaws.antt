-- What a table of refusals says where nothing is refused, and what led to an answer.
use Rattle.std.proofs.Common.{◌≡◌, inl, inr, Bool, true, false, List, [], ◌∷◌, Result, Ok, Err, not, refl, sym, ap, ◌∙◌}
use Rattle.std.specs.Prelude.{◌||◌, ◌⊎◌}
use Rattle.std.specs.List.{list_any}
use Rattle.std.specs.Result.{is_ok}
use Rattle.std.proofs.lemmas.Bool.{cases_Bool, false≢true}
use Rattle.pl_base.specs.Answers.{◌>>=◌, refuse, unless, because}

-- no test of the table holds
pub refuse_none : {X E : Type 0} (rows : List (Bool × E)) (next : Result X E) → is_ok (refuse rows next) ≡ true → list_any (λ row. row.0) rows ≡ false
refuse_none [] next ok = refl
refuse_none {X} {E} (row ∷ rows) next ok =
    elim (cases_Bool row.0) [
      | inl hit ↦ absurd (false≢true (ap (λ (b : Bool). is_ok (unless b row.1 (refuse rows next))) (sym hit) ∙ ok))
      | inr miss ↦ ap (λ (b : Bool). b || list_any (λ (r : Bool × E). r.0) rows) miss ∙ refuse_none rows next (ap (λ (b : Bool). is_ok (unless b row.1 (refuse rows next))) (sym miss) ∙ ok)
    ]

-- and the answer is what follows it
pub refuse_next : {X E : Type 0} (rows : List (Bool × E)) (next : Result X E) → list_any (λ row. row.0) rows ≡ false → refuse rows next ≡ next
refuse_next [] next none = refl
refuse_next {X} {E} (row ∷ rows) next none =
    elim (cases_Bool row.0) [
      | inl hit ↦ absurd (false≢true (sym none ∙ ap (λ (b : Bool). b || list_any (λ (r : Bool × E). r.0) rows) hit))
      | inr miss ↦ ap (λ (b : Bool). unless b row.1 (refuse rows next)) miss ∙ refuse_next rows next (ap (λ (b : Bool). b || list_any (λ (r : Bool × E). r.0) rows) (sym miss) ∙ none)
    ]

-- ---- what led to an answer

-- a step that gave a value, and the one after it
pub bind_ok : {A B E : Type 0} (r : Result A E) (f : A → Result B E) (y : B) → (r >>= f) ≡ Ok y → (x : A) × (r ≡ Ok x) × (f x ≡ Ok y)
bind_ok (Ok x) f y e = (x, refl, e)
bind_ok (Err fault) f y e = absurd cc

-- a step whose end is a refusal: its own, or that of what goes on with its value
pub bind_err : {A B E : Type 0} (r : Result A E) (f : A → Result B E) (e : E) → (r >>= f) ≡ Err e → (r ≡ Err e) ⊎ ((x : A) × (r ≡ Ok x) × (f x ≡ Err e))
bind_err (Ok x) f e h = inr (x, refl, h)
bind_err (Err d) f e h = inl (let same : d ≡ e = cc in rw same refl)

-- a test that did not refuse
pub unless_ok : {X E : Type 0} (test : Bool) (fault : E) (next : Result X E) (x : X) → unless test fault next ≡ Ok x → (test ≡ false) × (next ≡ Ok x)
unless_ok true fault next x e = absurd cc
unless_ok false fault next x e = (refl, e)

-- and one of what has to hold
pub refuse_ok : {X E : Type 0} (holds : Bool) (fault : E) (next : Result X E) (x : X) → unless (not holds) fault next ≡ Ok x → (holds ≡ true) × (next ≡ Ok x)
refuse_ok true fault next x e = (refl, e)
refuse_ok false fault next x e = absurd cc

-- one value alone
pub ok_same : {X E : Type 0} (x y : X) → ◌≡◌ {A = Result X E} (Ok x) (Ok y) → x ≡ y
ok_same x y e = cc

-- a part that gave a value
pub because_ok : {X E F : Type 0} (fault : E → F) (r : Result X E) (x : X) → because fault r ≡ Ok x → r ≡ Ok x
because_ok {X} {E} fault (Ok y) x e = let same : y ≡ x = cc in ap (λ (z : X). Ok z) same
because_ok fault (Err f) x e = absurd cc

-- or a fault
pub because_err : {X E F : Type 0} (fault : E → F) (r : Result X E) (f : F) → because fault r ≡ Err f → (e : E) × (r ≡ Err e) × (fault e ≡ f)
because_err fault (Ok x) f h = absurd cc
because_err fault (Err e) f h = (e, refl, cc)
