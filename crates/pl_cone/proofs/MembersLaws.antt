-- The members of a walk by the rows of their files.
use Rattle.std.proofs.Common.{◌≡◌, ℕ, zero, suc, ◌+◌, ◌<◌, ◌≤◌, true, false, List, [], ◌∷◌, length, Option, Some, None, refl, sym, ap, ◌∙◌, subst, arith, inl, inr}
use Rattle.std.specs.Prelude.{slice_get}
use Rattle.std.specs.List.{AllByRecursion, IsDistinct, cons_option}
use Rattle.std.specs.Option.{option_map}
use Rattle.std.specs.Str.{bytes_eq}
use Rattle.std.proofs.lemmas.Bool.{false≢true}
use Rattle.std.proofs.lemmas.Option.{none-some, same_Some, slice_get_cases, slice_get_within, slice_get-map}
use Rattle.pl_object.specs.declared.object.Object.{Object}
use Rattle.pl_scope.specs.Members.{names}
use Rattle.pl_scope.specs.Walk.{Walked}
use Rattle.pl_scope.proofs.NameLaws.{eq_refl}
use Rattle.pl_cone.specs.Table.{member_of, walked_by}
use Rattle.pl_cone.specs.Taken.{object_by}
use Rattle.pl_cone.specs.declared.taken.Taken.{Taken}

-- ---- a member

-- the row of a member, and the file of that row
pub record IsRowMember (ts : List Taken) (rows : List ℕ) (m : ℕ) (n : List ℕ) (o : Object) : Type 0 where
  pub row : ℕ
  pub taken : Taken
  pub at : slice_get rows m ≡ Some row
  pub file : slice_get ts row ≡ Some taken
  pub named : taken.name ≡ n
  pub object : object_by taken.entry ≡ Some o

few_cons : (x : Option (List ℕ × Object)) (ws : Walked) (count : ℕ) → length ws ≤ count → length (cons_option x ws) ≤ suc count
few_cons None ws count le = omega (arith, le)
few_cons (Some p) ws count le = omega (arith, le)

few_members : (ts : List Taken) (rows : List ℕ) → length (walked_by ts rows) ≤ length rows
few_members ts [] = omega arith
few_members ts (r ∷ rows) = few_cons (member_of (slice_get ts r)) (walked_by ts rows) (length rows) (few_members ts rows)

by_object : (ts : List Taken) (rows : List ℕ) (r : ℕ) (n : List ℕ) (o : Object) (t : Taken) (x : Option Object) → slice_get ts r ≡ Some t → object_by t.entry ≡ x → option_map {U = List ℕ × Object} (λ (p : Object). (t.name, p)) x ≡ Some (n, o) → IsRowMember ts (r ∷ rows) 0 n o
by_object ts rows r n o t None at there is = absurd (none-some (n, o) is)
by_object ts rows r n o t (Some p) at there is =
    let same : (t.name, p) ≡ (n, o) = same_Some (t.name, p) (n, o) is in
    record {
      row = r;
      taken = t;
      at = refl;
      file = at;
      named = ap (λ (q : List ℕ × Object). q.0) same;
      object = there ∙ ap (λ (q : List ℕ × Object). Some q.1) same;
    }

by_file : (ts : List Taken) (rows : List ℕ) (r : ℕ) (n : List ℕ) (o : Object) (x : Option Taken) → slice_get ts r ≡ x → member_of x ≡ Some (n, o) → IsRowMember ts (r ∷ rows) 0 n o
by_file ts rows r n o None at is = absurd (none-some (n, o) is)
by_file ts rows r n o (Some t) at is = by_object ts rows r n o t (object_by t.entry) at refl is

by_member : (ts : List Taken) (rows : List ℕ) (r m : ℕ) (n : List ℕ) (o : Object) (x : Option (List ℕ × Object)) → member_of (slice_get ts r) ≡ x → length (cons_option x (walked_by ts rows)) ≡ suc (length rows)
    → ((k : ℕ) → length (walked_by ts rows) ≡ length rows → slice_get (walked_by ts rows) k ≡ Some (n, o) → IsRowMember ts rows k n o)
    → slice_get (cons_option x (walked_by ts rows)) m ≡ Some (n, o) → IsRowMember ts (r ∷ rows) m n o
by_member ts rows r m n o None is each rest at = absurd (omega (arith, each, few_members ts rows))
by_member ts rows r zero n o (Some p) is each rest at = by_file ts rows r n o (slice_get ts r) refl (is ∙ at)
by_member ts rows r (suc m) n o (Some p) is each rest at =
    let f : IsRowMember ts rows m n o = rest m (omega (arith, each)) at in
    record { row = f.row; taken = f.taken; at = f.at; file = f.file; named = f.named; object = f.object }

pub row_member : (ts : List Taken) (rows : List ℕ) (m : ℕ) (n : List ℕ) (o : Object) → length (walked_by ts rows) ≡ length rows → slice_get (walked_by ts rows) m ≡ Some (n, o) → IsRowMember ts rows m n o
row_member ts [] m n o each at = absurd (none-some (n, o) at)
row_member ts (r ∷ rows) m n o each at = by_member ts rows r m n o (member_of (slice_get ts r)) refl each (λ k size there. row_member ts rows k n o size there) at

-- ---- the member of a row

-- each row has a member
pub record HasMember (ts : List Taken) (rows : List ℕ) (m r : ℕ) : Type 0 where
  pub taken : Taken
  pub object : Object
  pub file : slice_get ts r ≡ Some taken
  pub is : object_by taken.entry ≡ Some object
  pub at : slice_get (walked_by ts rows) m ≡ Some (taken.name, object)

made_member : (ts : List Taken) (rows : List ℕ) (m r : ℕ) (p : List ℕ × Object) → length (walked_by ts rows) ≡ length rows → slice_get rows m ≡ Some r → slice_get (walked_by ts rows) m ≡ Some p → HasMember ts rows m r
made_member ts rows m r p each at there =
    let f : IsRowMember ts rows m p.0 p.1 = row_member ts rows m p.0 p.1 each there in
    let same : f.row ≡ r = same_Some f.row r (sym f.at ∙ at) in
    record {
      taken = f.taken;
      object = p.1;
      file = ap (slice_get ts) (sym same) ∙ f.file;
      is = f.object;
      at = there ∙ ap (λ (n : List ℕ). Some (n, p.1)) (sym f.named);
    }

pub has_member_at : (ts : List Taken) (rows : List ℕ) (m r : ℕ) → length (walked_by ts rows) ≡ length rows → slice_get rows m ≡ Some r → HasMember ts rows m r
has_member_at ts rows m r each at = elim (slice_get_cases (walked_by ts rows) m).1 [
  | inl p ↦ made_member ts rows m r p.0 each at p.2
  | inr q ↦ absurd (omega (arith, q.0, each, slice_get_within rows m r at))
]

pub walked_cons : (ts : List Taken) (r : ℕ) (rows : List ℕ) (t : Taken) (o : Object) → slice_get ts r ≡ Some t → object_by t.entry ≡ Some o → walked_by ts (r ∷ rows) ≡ (t.name, o) ∷ walked_by ts rows
walked_cons ts r rows t o file is =
    ap (λ (x : Option (List ℕ × Object)). cons_option x (walked_by ts rows)) (ap member_of file ∙ ap (option_map {U = List ℕ × Object} (λ (p : Object). (t.name, p))) is)

-- ---- rows that stand once

abbrev pub AreOnce : List ℕ → Type 0
AreOnce rows = (i j r : ℕ) → slice_get rows i ≡ Some r → slice_get rows j ≡ Some r → i ≡ j

differ_name : (P : List ℕ → Type 0) (ns : List (List ℕ)) (i : ℕ) (n : List ℕ) → AllByRecursion P ns → slice_get ns i ≡ Some n → P n
differ_name P [] i n all at = absurd (none-some n at)
differ_name P (x ∷ ns) zero n all at = subst P (same_Some x n at) all.0
differ_name P (x ∷ ns) (suc i) n all at = differ_name P ns i n all.1 at

apart : (x n : List ℕ) (ns : List (List ℕ)) (j : ℕ) → AllByRecursion (λ m. bytes_eq x m ≡ false) ns → x ≡ n → slice_get ns j ≡ Some n → ⊥
apart x n ns j all same at = false≢true (sym (differ_name (λ (m : List ℕ). bytes_eq x m ≡ false) ns j n all at) ∙ (ap (λ (m : List ℕ). bytes_eq m n) same ∙ eq_refl n))

-- a name that stands once
pub distinct_at : (ns : List (List ℕ)) (i j : ℕ) (n : List ℕ) → IsDistinct bytes_eq ns → slice_get ns i ≡ Some n → slice_get ns j ≡ Some n → i ≡ j
unfolding IsDistinct
distinct_at [] i j n distinct a b = absurd (none-some n a)
distinct_at (x ∷ ns) zero zero n distinct a b = refl
distinct_at (x ∷ ns) zero (suc j) n distinct a b = absurd (apart x n ns j distinct.0 (same_Some x n a) b)
distinct_at (x ∷ ns) (suc i) zero n distinct a b = absurd (apart x n ns i distinct.0 (same_Some x n b) a)
distinct_at (x ∷ ns) (suc i) (suc j) n distinct a b = ap suc (distinct_at ns i j n distinct.1 a b)

name_at : (ws : Walked) (i : ℕ) (n : List ℕ) (o : Object) → slice_get ws i ≡ Some (n, o) → slice_get (names ws) i ≡ Some n
name_at ws i n o at = slice_get-map (λ (p : List ℕ × Object). p.0) ws i ∙ ap (option_map (λ (p : List ℕ × Object). p.0)) at

-- where no name stands twice, no row does
pub once_members : (ts : List Taken) (rows : List ℕ) → length (walked_by ts rows) ≡ length rows → IsDistinct bytes_eq (names (walked_by ts rows)) → AreOnce rows
once_members ts rows each distinct = λ i j r a b.
    let ws : Walked = walked_by ts rows in
    let p : HasMember ts rows i r = has_member_at ts rows i r each a in
    let q : HasMember ts rows j r = has_member_at ts rows j r each b in
    let same : q.taken ≡ p.taken = same_Some q.taken p.taken (sym q.file ∙ p.file) in
    distinct_at (names ws) i j p.taken.name distinct (name_at ws i p.taken.name p.object p.at) (name_at ws j q.taken.name q.object q.at ∙ ap (λ (t : Taken). Some t.name) same)
