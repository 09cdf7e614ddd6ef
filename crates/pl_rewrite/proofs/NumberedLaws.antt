-- Walks of rows, and the places of their members.
use Rattle.std.proofs.Common.{◌≡◌, ℕ, ◌<◌, ◌≤◌, List, [], ◌∷◌, length, get_or, Option, Result, Ok, Err, refl, sym, ap, subst, ◌∙◌, arith, inl, inr}
use Rattle.std.proofs.lemmas.List.Elements.{All-nil}
use Rattle.std.proofs.lemmas.Option.{slice_get_cases}
use Rattle.pl_cone.specs.Table.{AreRows, IsWalkOfFile, refusal_of, rows_in, walk_for}
use Rattle.pl_cone.specs.WalkRows.{HasOwnWalk}
use Rattle.pl_cone.specs.declared.skip.Skip.{Skip}
use Rattle.pl_cone.specs.declared.taken.Taken.{Taken}
use Rattle.pl_cone.proofs.WalkLaws.{refusal_at}
use Rattle.pl_cone.proofs.WalkRowLaws.{own_walk_read}
use Rattle.pl_rewrite.specs.Rows.{AreInColumn, IsNumbered, IsWalkRow, walk_of}
use Rattle.pl_rewrite.specs.declared.numbers.Numbered.{Numbered}
use Rattle.pl_scope.specs.Walk.{Walked}

none_rows : (ts : List Taken) → AreRows ts []
none_rows ts = record { within = All-nil (λ r. r < length ts); each = refl; few = omega arith }

by_walk : (ts : List Taken) (t : Taken) (rows : List ℕ) (r : Result Walked Skip) → IsWalkOfFile ts t rows (refusal_of r) → AreRows ts rows
by_walk ts t rows (Ok ws) is = is.0
by_walk ts t rows (Err e) is = subst (AreRows ts) (sym is.0) (none_rows ts)

-- the rows of a walk, whether it is refused or not
pub walk_rows : (n : Numbered) (row : ℕ) → IsNumbered n → AreRows n.files.now (walk_of n row)
walk_rows n row numbered = elim (slice_get_cases n.walks.now row).1 [
  | inl p ↦ elim (slice_get_cases n.files.now row).1 [
    | inl q ↦
        subst (λ (rs : Option (List ℕ)). AreRows n.files.now (rows_in rs)) (sym p.2)
        (by_walk n.files.now q.0 p.0 (walk_for n.files.now q.0.name) (numbered.walks.each row q.0 p.0 (refusal_of (walk_for n.files.now q.0.name)) q.2 p.2 (refusal_at n.files.now row q.0 q.2)))
    | inr none ↦ absurd (omega (arith, none.0, numbered.walks.walks, p.1))
  ]
  | inr none ↦ subst (λ (rs : Option (List ℕ)). AreRows n.files.now (rows_in rs)) (sym none.1) (none_rows n.files.now)
]

pub walk_below : (n : Numbered) (row : ℕ) → IsNumbered n → AreInColumn n.places.now (walk_of n row)
walk_below n row numbered = λ k d lt. subst (λ (count : ℕ). get_or (walk_of n row) k d < count) (places_count n numbered) ((walk_rows n row numbered).within k d lt)
  where
    places_count : (n : Numbered) → IsNumbered n → length n.files.now ≡ length n.places.now
    places_count n numbered = omega (arith, numbered.places)

-- ---- a row that has a walk

pub has_walk : (n : Numbered) (row : ℕ) → IsNumbered n → IsWalkRow n row → HasOwnWalk n.files.now n.walks.now row
has_walk n row numbered walk = own_walk_read numbered.taken.0 n.files.now n.walks.now row row walk.others numbered.taken.1 numbered.walks walk.is

pub walk_is : (n : Numbered) (row : ℕ) → (h : HasOwnWalk n.files.now n.walks.now row) → walk_of n row ≡ row ∷ h.others
walk_is n row h = ap rows_in h.walk

-- its row is a file's
pub row_within : (n : Numbered) (row : ℕ) → IsWalkRow n row → row < length n.files.now
row_within n row walk =
    let rows : AreRows n.files.now (row ∷ walk.others) = subst (AreRows n.files.now) walk.is walk.rows in
    rows.within 0 row (omega arith)
