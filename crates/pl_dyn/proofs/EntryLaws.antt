-- How the entries of a table divide into tags and ends.
use Rattle.std.proofs.Common.{◌≡◌, ℕ, suc, ◌+◌, ◌/◌, ◌%◌, ◌<◌, List, [], ◌∷◌, Bool, true, ◌&&◌, refl, ap, sym, ◌∙◌, inl, inr, arith, length, drop, eqb, nat_lt, take, get_or, Some, slice_get}
use Rattle.std.proofs.lemmas.Bool.{and_parts, cases_Bool, eqb-true}
use Rattle.std.proofs.lemmas.List.{get_or-take}
use Rattle.std.proofs.lemmas.List.Folds.{length-prefix_len}
use Rattle.std.proofs.lemmas.List.FromFn.{length-map-range_with_len, get_or-map-range_with_len}
use Rattle.std.proofs.lemmas.List.Sums.{sum_by-cons, prefix_len-le-length}
use Rattle.std.proofs.lemmas.Nat.{div-add-mod'}
use Rattle.std.proofs.lemmas.Option.{slice_get_read}
use Rattle.std.specs.List.{list_all, count_by, before_first, position_or_len}
use Rattle.std.specs.Prelude.{not}
use Rattle.pl_dyn.specs.declared.constants.TheConstants.{ENTRY_SIZE}
use Rattle.pl_dyn.specs.declared.tags.Tag.{Tag}
use Rattle.pl_dyn.specs.Entries.{entry, entries, is_null, tags, null_count, only_nulls_follow, is_ended, IsWhole, AreEntries}

-- where all pass, all count
count_by-all : {X : Type 0} (p : X → Bool) (xs : List X) → list_all p xs ≡ true → count_by p xs ≡ length xs
count_by-all p [] all = refl
count_by-all p (x ∷ xs) all =
    let parts : (p x ≡ true) × (list_all p xs ≡ true) = and_parts (p x) (list_all p xs) all in
    sum_by-cons _ x xs ∙ (rw parts.0 (ap (λ n. 1 + n) (count_by-all p xs parts.1) ∙ omega arith))

-- where all pass from the first that passes on, those before it and those that pass are all
first_and_count : {X : Type 0} (p : X → Bool) (xs : List X) → list_all p (drop (position_or_len p xs) xs) ≡ true → position_or_len p xs + count_by p xs ≡ length xs
first_and_count p [] all = refl
first_and_count p (x ∷ xs) all =
    let n : ℕ = position_or_len p xs in
    elim (cases_Bool (p x)) [
      | inl hit ↦
          let here : position_or_len p (x ∷ xs) ≡ 0 = rw hit refl in
          let rest : list_all p (x ∷ xs) ≡ true = ap (λ k. list_all p (drop k (x ∷ xs))) (sym here) ∙ all in
          omega (arith, here, count_by-all p (x ∷ xs) rest)
      | inr miss ↦
          let later : position_or_len p (x ∷ xs) ≡ suc n = rw miss (omega arith) in
          let rest : list_all p (drop n xs) ≡ true = ap (λ k. list_all p (drop k (x ∷ xs))) (sym later) ∙ all in
          let count : count_by p (x ∷ xs) ≡ count_by p xs = sum_by-cons _ x xs ∙ (rw miss (omega arith)) in
          omega (arith, later, count, first_and_count p xs rest)
    ]

length-entries : (table : List ℕ) → length (entries table) ≡ length table / ENTRY_SIZE
unfolding entries
length-entries table = length-map-range_with_len (entry table) 0 (length table / ENTRY_SIZE)

-- a table that ends as it should is its tags and its ends
pub whole : (table : List ℕ) → is_ended table ≡ true → IsWhole table
unfolding is_ended tags null_count only_nulls_follow
whole table ended =
    let es = entries table in
    let nulls_follow = and_parts (eqb (length table % ENTRY_SIZE) 0 && nat_lt 0 (count_by is_null es)) (list_all is_null (drop (position_or_len is_null es) es)) ended in
    let parts = and_parts (eqb (length table % ENTRY_SIZE) 0) (nat_lt 0 (count_by is_null es)) nulls_follow.0 in
    let even : length table % ENTRY_SIZE ≡ 0 = eqb-true (length table % ENTRY_SIZE) 0 parts.0 in
    let before : length (before_first is_null es) ≡ position_or_len is_null es = length-prefix_len (λ tag. not (is_null tag)) es in
    omega (arith, even, before, first_and_count is_null es nulls_follow.1, length-entries table, div-add-mod' (length table) ENTRY_SIZE)

tag_at : (table : List ℕ) (i : ℕ) → i < length (tags table) → slice_get (tags table) i ≡ Some (entry table i)
unfolding tags entries
tag_at table i lt =
    let es = entries table in
    let k : ℕ = position_or_len is_null es in
    let here : Tag = entry table i in
    let before : length (take k es) ≡ k = length-prefix_len (λ tag. not (is_null tag)) es in
    let within = prefix_len-le-length (λ tag. not (is_null tag)) es in
    let found : get_or es i here ≡ here = get_or-map-range_with_len (entry table) 0 (length table / ENTRY_SIZE) i i here (omega (arith, lt, before, within, length-entries table)) (omega arith) in
    slice_get_read (take k es) (length (take k es)) i here refl lt (sym (get_or-take k es i here (omega (arith, lt, before)) ∙ found))

-- the tags of a table stand in it at their own indexes
pub are_entries : (table : List ℕ) (ts : List Tag) → ts ≡ tags table → AreEntries table ts
are_entries table ts is i = rw is (tag_at table i)
