-- The members of a scope.
use Rattle.std.proofs.Common.{◌≡◌, ℕ, ◌<◌, ◌≤◌, List, [], ◌∷◌, ◌++◌, Option, Some, length, get_or, refl, sym, ap, ◌∙◌, subst, arith}
use Rattle.std.specs.Prelude.{slice_get}
use Rattle.std.specs.List.{All, IsAmong}
use Rattle.std.specs.Option.{option_map}
use Rattle.std.proofs.lemmas.List.{map_push, length-map}
use Rattle.std.proofs.lemmas.List.Elements.{All-nil, All-cons, All-head, All-tail, All-push}
use Rattle.std.proofs.lemmas.Option.{slice_get-map, slice_get_read, slice_get_within, get_or_from_slice_get}
use Rattle.pl_object.specs.declared.object.Object.{Object}
use Rattle.pl_scope.specs.Walk.{Walked}
use Rattle.pl_scope.specs.Scope.{walked, objects, IsAccepted, IsFit, IsScope}
use Rattle.pl_scope.specs.declared.constants.TheConstants.{MAX_MEMBERS}
use Rattle.pl_scope.specs.declared.member.Member.{Member}
use Rattle.pl_scope.proofs.AcceptedLaws.{accepted_fit}

-- ---- one member more

-- its name and object stand behind those of the others
pub walked_push : (xs ys : List Member) (m : Member) (n : List ℕ) → ys ≡ xs ++ m ∷ [] → m.name ≡ n → walked ys ≡ walked xs ++ (n, m.object.now) ∷ []
walked_push xs ys m n is named =
    ap walked is ∙ map_push (λ (x : Member). (x.name, x.object.now)) xs m ∙ ap (λ (name : List ℕ). walked xs ++ (name, m.object.now) ∷ []) named

-- its object is one of those that are accepted
pub accepted_push : (objects : List Object) (xs ys : List Member) (m : Member) → ys ≡ xs ++ m ∷ [] → IsAmong objects m.object.now
    → All IsAccepted objects → All (λ x. IsAccepted x.object.now) xs → All (λ x. IsAccepted x.object.now) ys
accepted_push objects xs ys m is among all so_far =
    let last : IsAccepted m.object.now = subst IsAccepted (sym among.1.1) (all among.0 m.object.now among.1.0) in
    subst (λ (zs : List Member). All (λ (x : Member). IsAccepted x.object.now) zs) (sym is) (All-push (λ (x : Member). IsAccepted x.object.now) xs m so_far last)

-- ---- all members

pub length_walked : (ms : List Member) → length (walked ms) ≡ length ms
length_walked ms = length-map ms (λ (m : Member). (m.name, m.object.now))

pub length_objects : (ms : Walked) → length (objects ms) ≡ length ms
length_objects ms = length-map ms (λ (m : List ℕ × Object). m.1)

pub object_at : (ms : List Member) (i : ℕ) (m : Member) → i < length ms → m ≡ get_or ms i m → slice_get (objects (walked ms)) i ≡ Some m.object.now
object_at ms i m lt is =
    let read : slice_get ms i ≡ Some m = slice_get_read ms (length ms) i m refl lt is in
    slice_get-map (λ (w : List ℕ × Object). w.1) (walked ms) i
    ∙ ap (option_map (λ (w : List ℕ × Object). w.1)) (slice_get-map (λ (x : Member). (x.name, x.object.now)) ms i)
    ∙ ap (λ (o : Option Member). option_map (λ (w : List ℕ × Object). w.1) (option_map (λ (x : Member). (x.name, x.object.now)) o)) read

all_fit : (ms : List Member) → All (λ m. IsAccepted m.object.now) ms → All IsFit (objects (walked ms))
all_fit [] all = All-nil IsFit
all_fit (m ∷ ms) all =
    All-cons IsFit m.object.now (objects (walked ms)) (accepted_fit m.object.now (All-head (λ (n : Member). IsAccepted n.object.now) m ms all)) (all_fit ms (All-tail (λ (n : Member). IsAccepted n.object.now) m ms all))

pub scope_of : (ms : List Member) → length ms ≤ MAX_MEMBERS → All (λ m. IsAccepted m.object.now) ms → IsScope (objects (walked ms))
scope_of ms few all = record { few = omega (arith, few, length_objects (walked ms), length_walked ms); fit = all_fit ms all }

-- what holds of all of a list holds of the one of an index
pub all_at : {X : Type 0} (P : X → Type 0) (xs : List X) (i : ℕ) (x : X) → All P xs → slice_get xs i ≡ Some x → P x
all_at P xs i x all e = subst P (get_or_from_slice_get xs i x x e) (all i x (slice_get_within xs i x e))

pub fit_at : (os : List Object) (i : ℕ) (o : Object) → IsScope os → slice_get os i ≡ Some o → IsFit o
fit_at os i o is e = all_at IsFit os i o is.fit e
