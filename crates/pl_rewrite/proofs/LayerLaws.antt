-- The memory of one member among all.
use Rattle.std.proofs.Common.{◌≡◌, ℕ, zero, suc, ◌+◌, ◌<◌, Bool, true, false, List, [], ◌∷◌, ◌++◌, Some, refl, sym, ap, subst, ◌∙◌, arith, inl, inr}
use Rattle.std.specs.Prelude.{◌||◌, slice_get}
use Rattle.std.specs.List.{list_any}
use Rattle.std.proofs.lemmas.Bool.{cases_Bool, false≢true, or_parts, or_right}
use Rattle.std.proofs.lemmas.List.Folds.{list_any-append}
use Rattle.std.proofs.lemmas.Option.{none-some, same_Some}
use Rattle.pl_base.specs.Memory.{AtMostOne, Piece, layered, lies}
use Rattle.pl_image.specs.Image.{all_pieces}
use Rattle.pl_image.specs.Loads.{pieces_at}
use Rattle.pl_object.specs.declared.object.Object.{Object}
use Rattle.pl_value.specs.Ordinary.{loaded_objects, loaded_from, part_of}
use Rattle.pl_value.specs.Targets.{base_of}
use Rattle.pl_value.proofs.LoneLaws.{Lone, lone_cross, lone_rest, most_lone}

layered_front : (ps qs : List Piece) (a : ℕ) → list_any (lies a) ps ≡ true → layered (ps ++ qs) a ≡ layered ps a
unfolding layered
layered_front [] qs a some = absurd (false≢true some)
layered_front (p ∷ ps) qs a some = elim (cases_Bool (lies a p)) [
  | inl hit ↦ rw hit refl
  | inr miss ↦ rw miss (layered_front ps qs a (rw miss at some))
]

layered_back : (ps qs : List Piece) (a : ℕ) → list_any (lies a) ps ≡ false → layered (ps ++ qs) a ≡ layered qs a
unfolding layered
layered_back [] qs a none = refl
layered_back (p ∷ ps) qs a none =
    let parts = or_parts (lies a p) (list_any (lies a) ps) none in
    rw parts.0 (layered_back ps qs a parts.1)

-- the pieces of a member among those from one on
abbrev own_pieces : List ℕ → List (List ℕ) → ℕ → Object → List Piece
own_pieces places parts member o = pieces_at (base_of places member) (part_of parts member) o

either_true : (a b c : Bool) → c ≡ (a || b) → a ≡ true → c ≡ true
either_true true b c is e = is
either_true false b c is e = absurd (false≢true e)

some_among : (places : List ℕ) (parts : List (List ℕ)) (member : ℕ) (os : List Object) (k : ℕ) (o : Object) (a : ℕ) → slice_get os k ≡ Some o → list_any (lies a) (own_pieces places parts (member + k) o) ≡ true → list_any (lies a) (all_pieces (loaded_from places parts member os)) ≡ true
unfolding loaded_from
some_among places parts member [] k o a at some = absurd (none-some o at)
some_among places parts member (x ∷ os) zero o a at some =
    let same : x ≡ o = same_Some x o at in
    let here : list_any (lies a) (own_pieces places parts member x) ≡ true = subst (λ (y : Object). list_any (lies a) (own_pieces places parts member y) ≡ true) (sym same) (subst (λ (n : ℕ). list_any (lies a) (own_pieces places parts n o) ≡ true) (omega arith) some) in
    let rest : List Piece = all_pieces (loaded_from places parts (member + 1) os) in
    either_true (list_any (lies a) (own_pieces places parts member x)) (list_any (lies a) rest) (list_any (lies a) (own_pieces places parts member x ++ rest)) (list_any-append (lies a) (own_pieces places parts member x) rest) here
some_among places parts member (x ∷ os) (suc k) o a at some =
    let rest : List Piece = all_pieces (loaded_from places parts (member + 1) os) in
    let later = some_among places parts (member + 1) os k o a at (subst (λ (n : ℕ). list_any (lies a) (own_pieces places parts n o) ≡ true) (omega arith) some) in
    list_any-append (lies a) (own_pieces places parts member x) rest ∙ or_right (list_any (lies a) (own_pieces places parts member x)) (list_any (lies a) rest) later

layered_among : (places : List ℕ) (parts : List (List ℕ)) (member : ℕ) (os : List Object) (k : ℕ) (o : Object) (a : ℕ) → Lone lies (all_pieces (loaded_from places parts member os)) → slice_get os k ≡ Some o → list_any (lies a) (own_pieces places parts (member + k) o) ≡ true
    → layered (all_pieces (loaded_from places parts member os)) a ≡ layered (own_pieces places parts (member + k) o) a
unfolding loaded_from
layered_among places parts member [] k o a lone at some = absurd (none-some o at)
layered_among places parts member (x ∷ os) zero o a lone at some =
    let same : x ≡ o = same_Some x o at in
    let rest : List Piece = all_pieces (loaded_from places parts (member + 1) os) in
    let here : list_any (lies a) (own_pieces places parts member x) ≡ true = subst (λ (y : Object). list_any (lies a) (own_pieces places parts member y) ≡ true) (sym same) (subst (λ (n : ℕ). list_any (lies a) (own_pieces places parts n o) ≡ true) (omega arith) some) in
    layered_front (own_pieces places parts member x) rest a here
    ∙ ap (λ (y : Object). layered (own_pieces places parts member y) a) same ∙ ap (λ (n : ℕ). layered (own_pieces places parts n o) a) (omega arith)
layered_among places parts member (x ∷ os) (suc k) o a lone at some =
    let first = own_pieces places parts member x in
    let rest : List Piece = all_pieces (loaded_from places parts (member + 1) os) in
    let moved : list_any (lies a) (own_pieces places parts (member + 1 + k) o) ≡ true = subst (λ (n : ℕ). list_any (lies a) (own_pieces places parts n o) ≡ true) (omega arith) some in
    let later = some_among places parts (member + 1) os k o a at moved in
    let none : list_any (lies a) first ≡ false = elim (cases_Bool (list_any (lies a) first)) [
      | inl hit ↦ absurd (false≢true (sym (lone_cross lies first rest lone a hit) ∙ later))
      | inr miss ↦ miss
    ] in
    layered_back first rest a none ∙ layered_among places parts (member + 1) os k o a (lone_rest lies first rest lone) at moved ∙ ap (λ (n : ℕ). layered (own_pieces places parts n o) a) (omega arith)

-- where a member has a byte, the memory of all has that one
pub layered_own : (places : List ℕ) (parts : List (List ℕ)) (os : List Object) (m : ℕ) (o : Object) (a : ℕ) → AtMostOne lies (all_pieces (loaded_objects places parts os)) → slice_get os m ≡ Some o → list_any (lies a) (pieces_at (base_of places m) (part_of parts m) o) ≡ true
    → layered (all_pieces (loaded_objects places parts os)) a ≡ layered (pieces_at (base_of places m) (part_of parts m) o) a
layered_own places parts os m o a apart at some =
    let moved : list_any (lies a) (own_pieces places parts (0 + m) o) ≡ true = subst (λ (n : ℕ). list_any (lies a) (own_pieces places parts n o) ≡ true) (omega arith) some in
    layered_among places parts 0 os m o a (most_lone lies (all_pieces (loaded_objects places parts os)) apart) at moved ∙ ap (λ (n : ℕ). layered (own_pieces places parts n o) a) (omega arith)
