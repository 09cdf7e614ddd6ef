-- Names from the last row to the first.
use Rattle.std.proofs.Common.{Ordering, ◌≡◌, ℕ, ◌-◌, ◌<◌, ◌≤◌, Bool, true, false, cond, ◌||◌, not, List, [], ◌∷◌, length, get_or, drop, refl, sym, ◌∙◌, arith, drop-cons, zero, suc}
use Rattle.std.specs.List.{list_any}
use Rattle.std.specs.Str.{bytes_eq}
use Rattle.std.specs.Ordering.{nat_cmp}
use Rattle.std.specs.Cmp.Lexicographic.{slice_cmp}
use Rattle.std.specs.BTreeSet.{BTreeSet, contains}
use Rattle.std.specs.BTreeMap.{is_at}
use Rattle.std.proofs.lemmas.List.{drop_all}
use Rattle.std.proofs.lemmas.Bool.{and_right}
use Rattle.std.proofs.lemmas.Map.Text.{is_eq-slice_cmp}
use Rattle.pl_base.proofs.TestLaws.{bytes_flip}
use denote.Ref.{Bor}
use Rattle.pl_lists.specs.declared.list_row.ListRow.{ListRow}
use Rattle.pl_lists.specs.Lists.{are_distinct}

abbrev pub has_name : List ℕ → List ListRow → Bool
has_name name rows = list_any (λ row. bytes_eq name row.name) rows

abbrev pub by_bytes : Bor (List ℕ) → Bor (List ℕ) → Ordering
by_bytes x y = slice_cmp nat_cmp x.now y.now

-- the set has the names of these rows, which are distinct
pub record AreLater (names : BTreeSet (Bor (List ℕ))) (rows : List ListRow) : Type 0 where
  pub found : (name : Bor (List ℕ)) → contains by_bytes names name ≡ has_name name.now rows
  pub distinct : are_distinct rows ≡ true

pub none_later : (names : BTreeSet (Bor (List ℕ))) (rows : List ListRow) → names.keys ≡ [] → AreLater names (drop (length rows) rows)
unfolding are_distinct
none_later names rows none = rw (drop_all (length rows) rows (omega arith)) (record { found = λ name. rw none refl; distinct = refl })

either : (b c : Bool) → cond b true c ≡ (b || c)
either true c = refl
either false c = refl

-- the row before those from an index on
row_before : (rows : List ListRow) (index : ℕ) (row : ListRow) → 0 < index → index ≤ length rows → drop (index - 1) rows ≡ get_or rows (index - 1) row ∷ drop index rows
row_before rows index row some within =
    let next : suc (index - 1) ≡ index = omega arith in
    rw (drop-cons rows (index - 1) row (omega arith), next) refl

pub one_later : (old new : BTreeSet (Bor (List ℕ))) (rows : List ListRow) (index : ℕ) (row : ListRow) (key : Bor (List ℕ)) → 0 < index → index ≤ length rows → key.now ≡ (get_or rows (index - 1) row).name
    → ((name : Bor (List ℕ)) → contains by_bytes new name ≡ cond (is_at (by_bytes key) name) true (contains by_bytes old name))
    → true ≡ not (contains by_bytes old key) → AreLater old (drop index rows) → AreLater new (drop (index - 1) rows)
unfolding are_distinct
one_later old new rows index row key some within key_is updates is_new later =
    rw (row_before rows index row some within) (record {
      found = λ name. updates name ∙ rw (later.found name, is_eq-slice_cmp key.now name.now, bytes_flip key.now name.now, key_is) (either (bytes_eq name.now (get_or rows (index - 1) row).name) (has_name name.now (drop index rows)));
      distinct = rw (← key_is, ← later.found key, ← is_new, later.distinct) refl;
    })

-- where the names from an index on are not distinct, all are not
not_all : (rows : List ListRow) (index : ℕ) → are_distinct (drop index rows) ≡ false → are_distinct rows ≡ false
unfolding are_distinct
not_all rows zero twice = twice
not_all [] (suc index) twice = twice
not_all (row ∷ rows) (suc index) twice = and_right _ _ (not_all rows index twice)

pub is_twice : (names : BTreeSet (Bor (List ℕ))) (rows : List ListRow) (index : ℕ) (row : ListRow) (key : Bor (List ℕ)) → 0 < index → index ≤ length rows → key.now ≡ (get_or rows (index - 1) row).name
    → false ≡ not (contains by_bytes names key) → AreLater names (drop index rows) → false ≡ are_distinct rows
unfolding are_distinct
is_twice names rows index row key some within key_is found later =
    sym (not_all rows (index - 1) (rw (row_before rows index row some within, ← key_is, ← later.found key, ← found) refl))
