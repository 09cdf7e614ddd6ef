-- The entries of a dynamic table that is read: none of them has a tag that acceptance does not know.
use Rattle.std.proofs.Common.{◌≡◌, ℕ, ◌+◌, ◌-◌, ◌/◌, ◌%◌, ◌<◌, Bool, true, false, List, length, take, drop, get_or, Option, Some, None, Result, Ok, refl, sym, ap, ◌∙◌, arith, inl, inr}
use Rattle.std.specs.Prelude.{◌&&◌, ◌==◌, find, nat_lt, not}
use Rattle.std.specs.List.{before_first, list_all, position_or_len}
use Rattle.std.proofs.lemmas.Bool.{and_parts, cases_lt, not-false, true≢false}
use Rattle.std.proofs.lemmas.List.{get_or-drop, get_or-take, length-drop, length-take}
use Rattle.std.proofs.lemmas.List.Folds.{list_all_at}
use Rattle.std.proofs.lemmas.List.FromFn.{get_or-map-range_with_len, length-map-range_with_len}
use Rattle.pl_base.specs.Answers.{unless_found}
use Rattle.pl_base.proofs.AnswerLaws.{unless_ok}
use Rattle.pl_base.proofs.FindLaws.{any_missed}
use Rattle.pl_dyn.specs.Entries.{entries, entry, is_ended, is_null, null_count, only_nulls_follow, tags}
use Rattle.pl_dyn.specs.Kinds.{is_unknown}
use Rattle.pl_dyn.specs.Read.{first_unknown, read}
use Rattle.pl_dyn.specs.declared.dynamic.Dynamic.{Dynamic}
use Rattle.pl_dyn.specs.declared.fault.DynFault.TheVariants.{NoEnd, UnknownTag}
use Rattle.pl_dyn.specs.declared.tags.Tag.{Tag}
use Rattle.pl_form.proofs.PlaceByteLaws.{not_any_at}

-- ---- each entry

pub entry_count : (table : List ℕ) → length (entries table) ≡ length table / 16
unfolding entries
entry_count table = length-map-range_with_len (entry table) 0 (length table / 16)

pub entry_there : (table : List ℕ) (i : ℕ) (d : Tag) → i < length table / 16 → get_or (entries table) i d ≡ entry table i
unfolding entries
entry_there table i d lt = get_or-map-range_with_len (entry table) 0 (length table / 16) i i d lt (omega arith)

-- ---- before the end

-- where all from the first end on are ends, an element that is none stands before it; so a test that it passes finds one there
found_before : {X : Type 0} (p ends : X → Bool) (xs : List X) (i : ℕ) (d : X) → list_all ends (drop (position_or_len ends xs) xs) ≡ true → i < length xs → ends (get_or xs i d) ≡ false → p (get_or xs i d) ≡ true → find p (before_first ends xs) ≡ None → ⊥
found_before {X} p ends xs i d all lt out hit none =
    let k : ℕ = position_or_len ends xs in
    elim (cases_lt i k) [
      | inl below ↦
          let few : i < length (take k xs) = omega (arith, length-take k xs, lt, below) in
          let at : get_or (take k xs) i d ≡ get_or xs i d = get_or-take k xs i d below in
          true≢false (sym (ap p at ∙ hit) ∙ not_any_at p (take k xs) i d (any_missed p (take k xs) none) few)
      | inr past ↦
          let few : i - k < length (drop k xs) = omega (arith, length-drop k xs, lt, past) in
          let sum : k + (i - k) ≡ i = omega (arith, past) in
          let at : get_or (drop k xs) (i - k) d ≡ get_or xs i d = get_or-drop k xs (i - k) d ∙ ap (λ (n : ℕ). get_or xs n d) sum in
          true≢false (sym all ∙ list_all_at ends (drop k xs) (i - k) d few (ap ends at ∙ out))
    ]

-- ---- a table that is read

pub record IsRead (table : List ℕ) : Type 0 where
  pub ended : is_ended table ≡ true
  pub known : first_unknown (tags table) ≡ None

unfound : {A X E : Type 0} (found : Option A) (fault : A → E) (next : Result X E) (x : X) → unless_found found fault next ≡ Ok x → found ≡ None
unfound (Some a) fault next x e = absurd cc
unfound None fault next x e = refl

pub read_is : (table : List ℕ) (d : Dynamic) → read table ≡ Ok d → IsRead table
unfolding read
read_is table d e =
    let a = unless_ok (not (is_ended table)) NoEnd _ d e in
    record { ended = not-false (is_ended table) a.0; known = unfound (first_unknown (tags table)) (λ t. UnknownTag t.number) _ d a.1 }

pub only_nulls : (table : List ℕ) → is_ended table ≡ true → only_nulls_follow table ≡ true
unfolding is_ended
only_nulls table ended = (and_parts (length table % 16 == 0 && nat_lt 0 (null_count table)) (only_nulls_follow table) ended).1

-- no entry of it has an unknown tag
pub none_unknown : (table : List ℕ) (i : ℕ) → IsRead table → i < length table / 16 → is_null (entry table i) ≡ false → is_unknown (entry table i).number ≡ true → ⊥
unfolding only_nulls_follow tags first_unknown
none_unknown table i is lt other unknown =
    let xs : List Tag = entries table in
    let d : Tag = entry table 0 in
    let at : get_or xs i d ≡ entry table i = entry_there table i d lt in
    found_before (λ (t : Tag). is_unknown t.number) is_null xs i d (only_nulls table is.ended) (omega (arith, entry_count table, lt)) (ap is_null at ∙ other) (ap (λ (t : Tag). is_unknown t.number) at ∙ unknown) is.known
