-- How many bytes the names of a list have together.
use Rattle.std.proofs.Common.{◌≡◌, ℕ, ◌+◌, ◌-◌, ◌≤◌, ◌<◌, true, false, List, [], ◌∷◌, ◌++◌, length, get_or, drop, refl, sym, ap, ◌∙◌, arith}
use Rattle.std.specs.Prelude.{nat_lt}
use Rattle.std.proofs.lemmas.Bool.{lt-ltb, le-ltb}
use Rattle.std.proofs.lemmas.List.{length-append}
use Rattle.pl_lists.specs.Lists.{list_strings}
use Rattle.pl_lists.specs.declared.list_row.ListRow.{ListRow}
use Rattle.pl_form.specs.declared.constants.TheConstants.{STORED}
use Rattle.pl_form.proofs.PlaceLaws.{rest_is, rest_none}

-- what a loop that counts them keeps: how many more there may be
pub record IsCounting (list : List ListRow) (i room : ℕ) : Type 0 where
  pub so_far : length (list_strings list) + room ≡ STORED + length (list_strings (drop i list))
  pub small : room ≤ STORED

length-next : (row : ListRow) (rows : List ListRow) → length (list_strings (row ∷ rows)) ≡ length row.name + 1 + length (list_strings rows)
unfolding list_strings
length-next row rows = length-append (row.name ++ 0 ∷ []) (list_strings rows) ∙ omega (arith, length-append row.name (0 ∷ []))

length-none : length (list_strings []) ≡ 0
unfolding list_strings
length-none = refl

pub count_first : (list : List ListRow) → IsCounting list 0 STORED
count_first list = record { so_far = omega arith; small = omega arith }

count_row : (list : List ListRow) (i : ℕ) (d : ListRow) → i < length list → length (list_strings (drop i list)) ≡ length (get_or list i d).name + 1 + length (list_strings (drop (i + 1) list))
count_row list i d lt = ap (λ (rows : List ListRow). length (list_strings rows)) (rest_is list i d lt) ∙ length-next (get_or list i d) (drop (i + 1) list)

pub count_next : (list : List ListRow) (i room size : ℕ) (d : ListRow) → i < length list → IsCounting list i room → size ≡ length (get_or list i d).name → size < room → IsCounting list (i + 1) (room - (size + 1))
count_next list i room size d lt is same fits = record { so_far = omega (arith, is.so_far, count_row list i d lt, same, fits); small = omega (arith, is.small) }

pub count_long : (list : List ListRow) (i room size : ℕ) (d : ListRow) → i < length list → IsCounting list i room → size ≡ length (get_or list i d).name → room ≤ size → nat_lt STORED (length (list_strings list)) ≡ true
count_long list i room size d lt is same past = lt-ltb _ _ (omega (arith, is.so_far, count_row list i d lt, same, past))

pub count_done : (list : List ListRow) (i room : ℕ) → length list ≤ i → IsCounting list i room → false ≡ nat_lt STORED (length (list_strings list))
count_done list i room le is =
    let e : length (list_strings (drop i list)) ≡ 0 = ap (λ (rows : List ListRow). length (list_strings rows)) (rest_none list i le) ∙ length-none in
    sym (le-ltb _ _ (omega (arith, is.so_far, is.small, e)))
