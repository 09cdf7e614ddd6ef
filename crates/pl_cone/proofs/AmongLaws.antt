-- The index of a folder tells the definers of the members of a walk.
use Rattle.std.proofs.Common.{◌≡◌, ◌≢◌, ℕ, zero, suc, ◌+◌, ◌<◌, ◌≤◌, Bool, true, false, List, [], ◌∷◌, length, replicate, set, Option, Some, None, refl, sym, ap, ◌∙◌, arith, inl, inr}
use Rattle.std.specs.Prelude.{◌==◌, ◌&&◌, slice_get}
use Rattle.std.specs.List.{list_any}
use Rattle.std.proofs.lemmas.Bool.{cases_Bool, false≢true, and_parts, or_left, or_right, eqb-true, eq-eqb}
use Rattle.std.proofs.lemmas.Option.{none-some, same_Some, slice_get_within}
use Rattle.pl_hash.specs.Hash.{gnu}
use Rattle.pl_scope.specs.Folder.{IsFolderIndex, is_at, is_placed, position_in, position_of}
use Rattle.pl_scope.specs.Index.{entries_of, is_entry}
use Rattle.pl_scope.specs.Scope.{objects}
use Rattle.pl_scope.specs.Walk.{Walked}
use Rattle.pl_scope.specs.declared.index.Entry.{Entry}
use Rattle.pl_scope.proofs.MemberLaws.{length_objects}
use Rattle.pl_cone.specs.Table.{AreRows, IsIndexOfScope, IsWalkScope, folder_objects, positions_from, positions_of}
use Rattle.pl_cone.specs.declared.scopes.WalkScope.{WalkScope}
use Rattle.pl_cone.specs.declared.taken.Taken.{Taken}
use Rattle.pl_cone.proofs.SingleLaws.{entry_there, object_at_row}
use Rattle.pl_cone.proofs.FolderLaws.{member_of}
use Rattle.pl_cone.proofs.MembersLaws.{IsRowMember, AreOnce, row_member}

-- ---- places of a list

pub get_set_same : {X : Type 0} (xs : List X) (i : ℕ) (y : X) → i < length xs → slice_get (set xs i y) i ≡ Some y
get_set_same [] i y lt = absurd (omega (arith, lt))
get_set_same (x ∷ xs) zero y lt = refl
get_set_same (x ∷ xs) (suc i) y lt = get_set_same xs i y (omega (arith, lt))

pub get_set_other : {X : Type 0} (xs : List X) (i j : ℕ) (y : X) → j ≢ i → slice_get (set xs i y) j ≡ slice_get xs j
get_set_other [] i j y apart = refl
get_set_other (x ∷ xs) zero zero y apart = absurd (apart refl)
get_set_other (x ∷ xs) zero (suc j) y apart = refl
get_set_other (x ∷ xs) (suc i) zero y apart = refl
get_set_other (x ∷ xs) (suc i) (suc j) y apart = get_set_other xs i j y (λ e. apart (ap suc e))

pub length_set : {X : Type 0} (xs : List X) (i : ℕ) (y : X) → length (set xs i y) ≡ length xs
length_set [] i y = refl
length_set (x ∷ xs) zero y = refl
length_set (x ∷ xs) (suc i) y = ap suc (length_set xs i y)

none_at : (count i : ℕ) → position_in (slice_get (replicate count None) i) ≡ None
none_at zero i = refl
none_at (suc count) zero = refl
none_at (suc count) (suc i) = none_at count i

pub length_none : (count : ℕ) (d : Option ℕ) → length (replicate count d) ≡ count
length_none zero d = refl
length_none (suc count) d = ap suc (length_none count d)

-- ---- where rows stand

-- a row that does not come keeps its position
kept_from : (rows : List ℕ) (member : ℕ) (all : List (Option ℕ)) (r : ℕ) → ((j : ℕ) → slice_get rows j ≡ Some r → ⊥) → slice_get (positions_from member all rows) r ≡ slice_get all r
unfolding positions_from
kept_from [] member all r none = refl
kept_from (x ∷ rows) member all r none =
    kept_from rows (member + 1) (set all x (Some member)) r (λ j at. none (suc j) at)
    ∙ get_set_other all x r (Some member) (λ e. none 0 (ap (λ (k : ℕ). Some k) (sym e)))

position_from : (rows : List ℕ) (member m at : ℕ) (all : List (Option ℕ)) (r : ℕ) → AreOnce rows → at ≡ member + m → slice_get rows m ≡ Some r → r < length all → slice_get (positions_from member all rows) r ≡ Some (Some at)
unfolding positions_from
position_from [] member m at all r once is here lt = absurd (none-some r here)
position_from (x ∷ rows) member zero at all r once is here lt =
    let same : x ≡ r = same_Some x r here in
    let first : at ≡ member = omega (arith, is) in
    kept_from rows (member + 1) (set all x (Some member)) r (λ j later. absurd (omega (arith, once 0 (suc j) r here later)))
    ∙ (ap (λ (k : ℕ). slice_get (set all k (Some member)) r) same
    ∙ (get_set_same all r (Some member) lt ∙ ap (λ (k : ℕ). Some (Some k)) (sym first)))
position_from (x ∷ rows) member (suc m) at all r once is here lt =
    position_from rows (member + 1) m at (set all x (Some member)) r (λ i j k a b. omega (arith, once (suc i) (suc j) k a b)) (omega (arith, is)) here (rw (length_set all x (Some member)) lt)

pub position_there : (count : ℕ) (rows : List ℕ) (m r : ℕ) → AreOnce rows → slice_get rows m ≡ Some r → r < count → position_in (slice_get (positions_of count rows) r) ≡ Some m
unfolding positions_of
position_there count rows m r once here lt = ap position_in (position_from rows 0 m m (replicate count None) r once (omega arith) here (rw (length_none count None) lt))

-- positions are below the number of rows
set_is : (all : List (Option ℕ)) (x v n : ℕ) → position_in (slice_get (set all x (Some v)) x) ≡ Some n → n ≡ v
set_is [] x v n e = absurd (none-some n e)
set_is (y ∷ all) zero v n e = sym (same_Some v n e)
set_is (y ∷ all) (suc x) v n e = set_is all x v n e

-- no position is past a number
abbrev IsBelow : ℕ → List (Option ℕ) → Type 0
IsBelow member all = (r m : ℕ) → position_in (slice_get all r) ≡ Some m → m < member

below_set : (all : List (Option ℕ)) (x member : ℕ) → IsBelow member all → IsBelow (member + 1) (set all x (Some member))
below_set all x member below = λ k n e. elim (cases_Bool (k == x)) [
  | inl here ↦
      let same : k ≡ x = eqb-true k x here in
      omega (arith, set_is all x member n (ap (λ (j : ℕ). position_in (slice_get (set all x (Some member)) j)) (sym same) ∙ e))
  | inr other ↦ omega (arith, below k n (sym (ap position_in (get_set_other all x k (Some member) (λ s. false≢true (sym other ∙ eq-eqb k x s)))) ∙ e))
]

below_from : (rows : List ℕ) (member : ℕ) (all : List (Option ℕ)) → IsBelow member all → (r m : ℕ) → position_in (slice_get (positions_from member all rows) r) ≡ Some m → m < member + length rows
unfolding positions_from
below_from [] member all below r m at = omega (arith, below r m at)
below_from (x ∷ rows) member all below r m at = omega (arith, below_from rows (member + 1) (set all x (Some member)) (below_set all x member below) r m at)

pub positions_below : (count : ℕ) (rows : List ℕ) (r m : ℕ) → position_in (slice_get (positions_of count rows) r) ≡ Some m → m < length rows
unfolding positions_of
positions_below count rows r m at = omega (arith, below_from rows 0 (replicate count None) (λ k n e. absurd (none-some n (sym (none_at count k) ∙ e))) r m at)

-- ---- the entries of a member

at_place : (positions : List (Option ℕ)) (e : Entry) (r m : ℕ) → e.member ≡ r → position_in (slice_get positions r) ≡ Some m → is_at (position_of positions e) m ≡ true
at_place positions e r m same at = ap (λ (x : Option ℕ). is_at x m) (ap (λ (k : ℕ). position_in (slice_get positions k)) same ∙ at) ∙ eq-eqb m m refl

told_here : (positions : List (Option ℕ)) (e : Entry) (r m i : ℕ) → e.member ≡ r → (e.symbol == i) ≡ true → position_in (slice_get positions r) ≡ Some m → is_placed positions m i e ≡ true
told_here positions e r m i same symbol at = rw (at_place positions e r m same at, symbol) refl

abbrev told : List (Option ℕ) → ℕ → ℕ → List Entry → Bool
told positions m i es = list_any (is_placed positions m i) es

member_told : (positions : List (Option ℕ)) (h r m i : ℕ) (es : List Entry) → position_in (slice_get positions r) ≡ Some m → list_any (is_entry h r i) es ≡ true → told positions m i (entries_of es h) ≡ true
member_told positions h r m i [] at any = absurd (false≢true any)
member_told positions h r m i (e ∷ es) at any = elim (cases_Bool (is_entry h r i e)) [
  | inl here ↦
      let p = and_parts (e.hash == h) (e.member == r && e.symbol == i) here in
      let q = and_parts (e.member == r) (e.symbol == i) p.1 in
      rw p.0 (or_left (is_placed positions m i e) (told positions m i (entries_of es h)) (told_here positions e r m i (eqb-true e.member r q.0) q.1 at))
  | inr other ↦
      let rest : told positions m i (entries_of es h) ≡ true = member_told positions h r m i es at (rw other at any) in
      elim (cases_Bool (e.hash == h)) [
        | inl hit ↦ rw hit (or_right (is_placed positions m i e) (told positions m i (entries_of es h)) rest)
        | inr miss ↦ rw miss rest
      ]
]

-- ---- the whole

-- the index of a folder is one of the scope of a walk
pub index_among : (ts : List Taken) (rows : List ℕ) (index : List Entry) (w : WalkScope) → AreRows ts rows → AreOnce rows → IsFolderIndex (folder_objects ts) index → IsWalkScope ts rows w → IsIndexOfScope w index
index_among ts rows index w are once folder is = λ among same places. record {
  within = λ row member at.
      let here : position_in (slice_get (positions_of (length ts) rows) row) ≡ Some member = ap (λ (ps : List (Option ℕ)). position_in (slice_get ps row)) (sym (places ∙ is.positions)) ∙ at in
      let size : length (objects w.scope) ≡ length rows = length_objects w.scope ∙ (ap length is.scope ∙ are.each) in
      omega (arith, positions_below (length ts) rows row member here, size);
  whole = λ m i o s at own defines.
      let named : (n : List ℕ) × (slice_get w.scope m ≡ Some (n, o)) = member_of w.scope m o at in
      let f : IsRowMember ts rows m named.0 o = row_member ts rows m named.0 o are.each (ap (λ (v : Walked). slice_get v m) (sym is.scope) ∙ named.1) in
      let entry : list_any (is_entry (gnu s.name) f.row i) index ≡ true = entry_there (folder_objects ts) index f.row i o s folder (object_at_row ts f.row f.taken o f.file f.object) own defines in
      let position : position_in (slice_get (positions_of (length ts) rows) f.row) ≡ Some m = position_there (length ts) rows m f.row once f.at (slice_get_within ts f.row f.taken f.file) in
      ap (λ (es : List Entry). told among.positions.now m i (entries_of es (gnu s.name))) same
      ∙ (ap (λ (ps : List (Option ℕ)). told ps m i (entries_of index (gnu s.name))) (places ∙ is.positions)
      ∙ member_told (positions_of (length ts) rows) (gnu s.name) f.row m i index position entry);
}
