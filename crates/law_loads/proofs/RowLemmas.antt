-- Rows that are done one after the other.
use Rattle.std.proofs.Common.{◌≡◌, ◌∙◌, ℕ, ◌+◌, Bool, true, false, cond, List, [], ◌∷◌, Some, None, refl, sym, ap, subst, inl, inr}
use Rattle.std.specs.Prelude.{◌&&◌, ◌⊎◌, not, nat_le, length}
use Rattle.std.specs.FinMap.{get, get-insert, get-remove}
use Rattle.std.specs.Cmp.Lexicographic.{nat_list_cmp_total}
use Rattle.std.specs.List.{list_all}
use Rattle.std.proofs.lemmas.Bool.{and_parts, cases_Bool, false≢true}
use Rattle.pl_base.specs.Files.{Files}
use Rattle.pl_base.proofs.FilesLaws.{same_name}
use Rattle.pl_folder.specs.Disk.{Name, View, same}
use Rattle.pl_journal.specs.Meaning.{applied, mixed, rows_for, row_of}
use Rattle.pl_journal.specs.Names.{is_row_name}
use Rattle.pl_journal.specs.Spelling.{are_named, are_rows, differ, misses, name_of}
use Rattle.pl_journal.specs.declared.change.Change.{Change}
use Rattle.pl_journal.specs.declared.change.Change.TheVariants.{Put, Drop}
use Rattle.pl_journal.specs.declared.constants.TheConstants.{MAX_ROWS}
use Rattle.pl_weave.specs.Runs.{with_row}

-- these rows, all made; of two of one name the first counts
abbrev pub made : List Change → View → View
made [] v n = v n
made (Put name bytes ∷ rows) v n = cond (same n name) (Some bytes) (made rows v n)
made (Drop name ∷ rows) v n = cond (same n name) None (made rows v n)

made_is : (i : ℕ) (rows : List Change) (v : View) (n : Name) → mixed i rows (λ _. true) v n ≡ made rows v n
made_is i [] v n = refl
made_is i (Put name bytes ∷ rows) v n = ap (λ o. cond (same n name) (Some bytes) o) (made_is (i + 1) rows v n)
made_is i (Drop name ∷ rows) v n = ap (λ o. cond (same n name) None o) (made_is (i + 1) rows v n)

pub applied_is : (rows : List Change) (v : View) → applied rows v ≡ made rows v
applied_is rows v = λ i n. made_is 0 rows v n i

made_same : (rows : List Change) (v w : View) (n : Name) → v n ≡ w n → made rows v n ≡ made rows w n
made_same [] v w n is = is
made_same (Put name bytes ∷ rows) v w n is = ap (λ o. cond (same n name) (Some bytes) o) (made_same rows v w n is)
made_same (Drop name ∷ rows) v w n is = ap (λ o. cond (same n name) None o) (made_same rows v w n is)

is_not : (b : Bool) → not b ≡ true → b ≡ false
is_not true e = absurd (false≢true e)
is_not false e = refl

-- rows of other names leave a name alone
made_none : (rows : List Change) (v : View) (n : Name) → misses name_of n (rows_for rows) ≡ true → made rows v n ≡ v n
made_none [] v n miss = refl
made_none (Put name bytes ∷ rows) v n miss =
    let parts = and_parts (not (same n name)) (misses name_of n (rows_for rows)) miss in
    rw (is_not (same n name) parts.0) (made_none rows v n parts.1)
made_none (Drop name ∷ rows) v n miss =
    let parts = and_parts (not (same n name)) (misses name_of n (rows_for rows)) miss in
    rw (is_not (same n name) parts.0) (made_none rows v n parts.1)

-- ---- the first row

misses_same : (rows : List Change) (n name : Name) → same n name ≡ true → misses name_of name (rows_for rows) ≡ true → misses name_of n (rows_for rows) ≡ true
misses_same rows n name is miss = subst (λ (m : Name). misses name_of m (rows_for rows) ≡ true) (sym (same_name n name is)) miss

first_at : (files : Files) (row : Change) (rows : List Change) → differ name_of (rows_for (row ∷ rows)) ≡ true → (n : Name) → made rows (get (with_row files row)) n ≡ made (row ∷ rows) (get files) n
first_at files (Put name bytes) rows apart n =
    let parts = and_parts (misses name_of name (rows_for rows)) (differ name_of (rows_for rows)) apart in
    let put : get (with_row files (Put name bytes)) n ≡ cond (same n name) (Some bytes) (get files n) = get-insert nat_list_cmp_total files name bytes n in
    elim (cases_Bool (same n name)) [
      | inl hit ↦ made_none rows (get (with_row files (Put name bytes))) n (misses_same rows n name hit parts.0) ∙ put ∙ rw hit refl
      | inr miss ↦ made_same rows (get (with_row files (Put name bytes))) (get files) n (put ∙ rw miss refl) ∙ rw miss refl
    ]
first_at files (Drop name) rows apart n =
    let parts = and_parts (misses name_of name (rows_for rows)) (differ name_of (rows_for rows)) apart in
    let drop : get (with_row files (Drop name)) n ≡ cond (same n name) None (get files n) = get-remove nat_list_cmp_total files name n in
    elim (cases_Bool (same n name)) [
      | inl hit ↦ made_none rows (get (with_row files (Drop name))) n (misses_same rows n name hit parts.0) ∙ drop ∙ rw hit refl
      | inr miss ↦ made_same rows (get (with_row files (Drop name))) (get files) n (drop ∙ rw miss refl) ∙ rw miss refl
    ]

-- with the first row done the others make what all made
pub first_done : (files : Files) (row : Change) (rows : List Change) → differ name_of (rows_for (row ∷ rows)) ≡ true → made rows (get (with_row files row)) ≡ made (row ∷ rows) (get files)
first_done files row rows apart = λ i n. first_at files row rows apart n i

-- a file that stands with the first row done stood before, or is what all rows make
pub first_stands : (files : Files) (row : Change) (rows : List Change) (n : Name) → (get (with_row files row) n ≡ get files n) ⊎ (get (with_row files row) n ≡ made (row ∷ rows) (get files) n)
first_stands files (Put name bytes) rows n =
    let put : get (with_row files (Put name bytes)) n ≡ cond (same n name) (Some bytes) (get files n) = get-insert nat_list_cmp_total files name bytes n in
    elim (cases_Bool (same n name)) [
      | inl hit ↦ inr (put ∙ rw hit refl)
      | inr miss ↦ inl (put ∙ rw miss refl)
    ]
first_stands files (Drop name) rows n =
    let drop : get (with_row files (Drop name)) n ≡ cond (same n name) None (get files n) = get-remove nat_list_cmp_total files name n in
    elim (cases_Bool (same n name)) [
      | inl hit ↦ inr (drop ∙ rw hit refl)
      | inr miss ↦ inl (drop ∙ rw miss refl)
    ]

pub rows_apart : (rows : List Change) → are_rows (rows_for rows) ≡ true → differ name_of (rows_for rows) ≡ true
unfolding are_named
rows_apart rows is = (and_parts (nat_le (length (rows_for rows)) MAX_ROWS && list_all (λ x. is_row_name (name_of x)) (rows_for rows)) (differ name_of (rows_for rows)) is).1

pub rest_apart : (row : Change) (rows : List Change) → differ name_of (rows_for (row ∷ rows)) ≡ true → differ name_of (rows_for rows) ≡ true
rest_apart row rows apart = (and_parts (misses name_of (name_of (row_of row)) (rows_for rows)) (differ name_of (rows_for rows)) apart).1
