-- Scopes that are made of the objects of a folder.
use Rattle.std.proofs.Common.{◌≡◌, ℕ, suc, true, List, [], ◌∷◌, Option, Some, None, refl, sym, ap, ◌∙◌, inl, inr}
use Rattle.std.specs.Prelude.{slice_get}
use Rattle.std.specs.Option.{option_map, option_and_then}
use Rattle.std.proofs.lemmas.Bool.{false≢true}
use Rattle.std.proofs.lemmas.Option.{slice_get-map, none-some, same_Some}
use Rattle.pl_object.specs.declared.object.Object.{Object}
use Rattle.pl_scope.specs.Members.{names, has}
use Rattle.pl_scope.specs.Scope.{objects}
use Rattle.pl_scope.specs.Walk.{Walked}
use Rattle.pl_scope.proofs.NameLaws.{has_at, has_cons}
use Rattle.pl_cone.specs.Folder.{IsMadeOf, IsMember}

-- ---- members by their indexes

pub object_at : (w : Walked) (i : ℕ) (n : List ℕ) (o : Object) → slice_get w i ≡ Some (n, o) → slice_get (objects w) i ≡ Some o
object_at w i n o e = slice_get-map (λ (m : List ℕ × Object). m.1) w i ∙ ap (option_map (λ (m : List ℕ × Object). m.1)) e

named : (w : Walked) (i : ℕ) (o : Object) (x : Option (List ℕ × Object)) → slice_get w i ≡ x → option_map (λ (m : List ℕ × Object). m.1) x ≡ Some o → (n : List ℕ) × (slice_get w i ≡ Some (n, o))
named w i o None at e = absurd (none-some o e)
named w i o (Some m) at e = (m.0, at ∙ ap (λ (p : Object). Some (m.0, p)) (same_Some m.1 o e))

pub member_of : (w : Walked) (i : ℕ) (o : Object) → slice_get (objects w) i ≡ Some o → (n : List ℕ) × (slice_get w i ≡ Some (n, o))
member_of w i o e = named w i o (slice_get w i) refl (sym (slice_get-map (λ (m : List ℕ × Object). m.1) w i) ∙ e)

-- ---- members by their names

pub member_has : (w : Walked) (i : ℕ) (n : List ℕ) → IsMember w i n → has (names w) n ≡ true
member_has w i n is =
    has_at (names w) i n (slice_get-map (λ (m : List ℕ × Object). m.0) w i ∙ ap (option_map (λ (m : List ℕ × Object). m.0)) is.at)

-- a name of a scope is a member's
pub has_member : (w : Walked) (n : List ℕ) → has (names w) n ≡ true → (i : ℕ) × IsMember w i n
has_member [] n h = absurd (false≢true h)
has_member (m ∷ w) n h = elim (has_cons m.0 n (names w) h) [
  | inl same ↦ (0, record { object = m.1; at = ap (λ (k : List ℕ). Some (k, m.1)) same })
  | inr later ↦ let p = has_member w n later in (suc p.0, record { object = p.1.object; at = p.1.at })
]

-- ---- one object a name

pub same_object : (folder : List ℕ → Option Object) (n : List ℕ) (o p : Object) → folder n ≡ Some o → folder n ≡ Some p → o ≡ p
same_object folder n o p e f = same_Some o p (sym e ∙ f)

-- members of two scopes of a folder that have one name have one object
pub same_member : (folder : List ℕ → Option Object) (v w : Walked) (i j : ℕ) (n : List ℕ) (o p : Object) → IsMadeOf folder v → IsMadeOf folder w → slice_get v i ≡ Some (n, o) → slice_get w j ≡ Some (n, p) → o ≡ p
same_member folder v w i j n o p of_v of_w e f = same_object folder n o p (of_v i n o e) (of_w j n p f)

-- ---- options

pub and_then_some : {A B : Type 0} (g : A → Option B) (x : Option A) (y : B) → option_and_then g x ≡ Some y → (a : A) × (x ≡ Some a) × (g a ≡ Some y)
and_then_some g None y e = absurd (none-some y e)
and_then_some g (Some a) y e = (a, refl, e)
