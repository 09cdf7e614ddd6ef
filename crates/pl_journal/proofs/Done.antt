-- Rows of a journal, done in part and then some more.
use Rattle.std.proofs.Common.{◌≡◌, ⊎_elim, ℕ, ◌+◌, ◌≤◌, ◌<◌, ◌^◌, ◌&&◌, ◌||◌, not, length, Bool, true, false, cond, List, [], ◌∷◌, Option, Some, None, is_some, refl, sym, ◌∙◌, ap, subst, arith}
use Rattle.std.specs.Prelude.{nat_eq, nat_le}
use Rattle.std.proofs.lemmas.Bool.{leb-true, both_ways, cases_Bool, and_left, and_right, and_parts, cond-true, cond-false, false_from_ne_true}
use Rattle.std.specs.Fmt.{decimal}
use Rattle.std.specs.List.{list_all, starts_with}
use Rattle.std.proofs.lemmas.Fmt.{decimal_injective, length-decimal-le}
use Rattle.std.proofs.lemmas.List.{length-append}
use Rattle.pl_base.specs.Names.{IsNameLength, is_own_name, is_valid_name}
use Rattle.pl_folder.specs.Disk.{Name, View, same}
use Rattle.pl_journal.specs.declared.constants.TheConstants.{MAX_ROWS}
use Rattle.pl_journal.specs.declared.names.TheConstants.{BESIDE}
use Rattle.pl_journal.proofs.NameLemmas.{append_left, apart, begins_so, equal, valid_not_own}
use Rattle.pl_journal.specs.Names.{is_journal_name, is_row_name, beside, cache, journal, journal_new}
use Rattle.pl_journal.specs.Rows.{rows_in, done_from, done_by, done, clean, all_done, recovered}
use Rattle.pl_journal.specs.Spelling.{are_named, are_rows, differ, name_of, misses}
use Rattle.pl_journal.specs.declared.row.Row.{Row}
use Rattle.pl_journal.specs.declared.row.Row.TheVariants.{Put, Drop}
use Rattle.pl_folder.proofs.ImageLaws.{itself}

pub not_beside : (n : Name) (i : ℕ) → is_journal_name n ≡ false → same n (beside i) ≡ false
not_beside n i valid = apart n (beside i) (λ e. both_ways (is_journal_name n) valid (ap is_journal_name e))

pub own_not : (q name : Name) → is_journal_name q ≡ true → is_journal_name name ≡ false → same q name ≡ false
own_not q name own valid = apart q name (λ e. both_ways (is_journal_name name) valid (sym (ap is_journal_name e) ∙ own))

pub valid_not : (n name : Name) → is_journal_name n ≡ false → is_journal_name name ≡ true → same n name ≡ false
valid_not n name valid own = apart n name (λ e. both_ways (is_journal_name n) valid (ap is_journal_name e ∙ own))

pub beside_apart : (i j : ℕ) → i < 2 ^ 64 → j < 2 ^ 64 → (i ≡ j → ⊥) → same (beside i) (beside j) ≡ false
beside_apart i j fits fits_too differ = apart (beside i) (beside j) (λ e. differ (decimal_injective i j fits fits_too (append_left BESIDE.now (decimal i) (decimal j) e)))

-- a name beside can be given to a folder
pub beside_length : (i : ℕ) → i < 2 ^ 64 → IsNameLength (beside i)
beside_length i fits =
    let most : length (decimal i) ≤ 20 = length-decimal-le 20 i (omega arith) (omega (arith, fits)) fits in
    let all : length (beside i) ≡ 13 + length (decimal i) = length-append BESIDE.now (decimal i) in
    (omega (arith, all), omega (arith, all, most))

pub beside_own : (i : ℕ) → is_journal_name (beside i) ≡ true
beside_own i = refl

-- a name of the journal's own is one of the program's own
own_begins : (n : Name) → is_journal_name n ≡ true → is_own_name n ≡ true
unfolding is_own_name
own_begins n own = ⊎_elim
    (λ hit. ap is_own_name (equal n journal hit))
    (λ missed. ⊎_elim
    (λ hit. ap is_own_name (equal n journal_new hit))
    (λ missed_too. begins_so n (sym (ap (λ b. b || (same n journal_new || starts_with nat_eq n BESIDE.now)) missed ∙ ap (λ b. b || starts_with nat_eq n BESIDE.now) missed_too) ∙ own))
    (cases_Bool (same n journal_new)))
    (cases_Bool (same n journal))

-- a name that a row may have is not the journal's own
pub row_not_own : (n : Name) → is_row_name n ≡ true → is_journal_name n ≡ false
row_not_own n fine = ⊎_elim
    (λ valid. false_from_ne_true (is_journal_name n) (λ own. both_ways (is_own_name n) (valid_not_own n valid) (own_begins n own)))
    (λ missed. ap is_journal_name (equal n cache (sym (ap (λ b. b || same n cache) missed) ∙ fine)))
    (cases_Bool (is_valid_name n))

-- the tests as facts
abbrev pub Misses : Name → List Row → Type 0
Misses n [] = Unit {0}
Misses n (row ∷ rows) = (same n (name_of row) ≡ false) × Misses n rows

-- the rows from row i on: their names are not the journal's own and differ, and their numbers fit 64 bits
abbrev pub AreDistinct : ℕ → List Row → Type 0
AreDistinct i [] = Unit {0}
AreDistinct i (row ∷ rows) = (is_journal_name (name_of row) ≡ false) × Misses (name_of row) rows × (i < 2 ^ 64) × AreDistinct (i + 1) rows

not_so : (b : Bool) → not b ≡ true → b ≡ false
not_so true e = sym e
not_so false e = refl

misses_test : (n : Name) (rows : List Row) → misses name_of n rows ≡ true → Misses n rows
misses_test n [] e = tt
misses_test n (row ∷ rows) e = let parts = and_parts (not (same n (name_of row))) (misses name_of n rows) e in (not_so _ parts.0, misses_test n rows parts.1)

distinct_from : (i : ℕ) (rows : List Row) → i + length rows ≤ 2 ^ 64 → list_all (λ row. is_row_name (name_of row)) rows ≡ true → differ name_of rows ≡ true → AreDistinct i rows
distinct_from i [] few named apart = tt
distinct_from i (row ∷ rows) few named apart =
    let names = and_parts (is_row_name (name_of row)) (list_all (λ r. is_row_name (name_of r)) rows) named in
    let parts = and_parts (misses name_of (name_of row) rows) (differ name_of rows) apart in (
      row_not_own (name_of row) names.0,
      misses_test (name_of row) rows parts.0,
      omega (arith, few),
      distinct_from (i + 1) rows (omega (arith, few)) names.1 parts.1,
    )

pub distinct_test : (rows : List Row) → are_rows rows ≡ true → AreDistinct 0 rows
unfolding are_named
distinct_test rows fine =
    let both = and_parts (nat_le (length rows) MAX_ROWS && list_all (λ row. is_row_name (name_of row)) rows) (differ name_of rows) fine in
    let parts = and_parts (nat_le (length rows) MAX_ROWS) (list_all (λ row. is_row_name (name_of row)) rows) both.0 in
    let few : length rows ≤ MAX_ROWS = leb-true (length rows) MAX_ROWS parts.0 in
    distinct_from 0 rows (omega (arith, few)) parts.1 both.1

-- the rows from i on look at `keep` from i on alone
pub done_agree : (i : ℕ) (rows : List Row) (keep other : ℕ → Bool) (v : View) (n : Name) → ((j : ℕ) → i ≤ j → keep j ≡ other j) → done_from i rows keep v n ≡ done_from i rows other v n
done_agree i [] keep other v n agree = refl
done_agree i (Put name ∷ rows) keep other v n agree =
    let here = agree i (omega arith) in
    let rest = done_agree (i + 1) rows keep other v n (λ j le. agree j (omega arith)) in
    λ t. cond (here t && same n (beside i)) None (cond (here t && (same n name && is_some (v (beside i)))) (v (beside i)) (rest t))
done_agree i (Drop name ∷ rows) keep other v n agree =
    let here = agree i (omega arith) in
    let rest = done_agree (i + 1) rows keep other v n (λ j le. agree j (omega arith)) in
    λ t. cond (here t && same n name) None (rest t)

pub none_done : (i : ℕ) (rows : List Row) (v : View) (n : Name) → done_from i rows (λ _. false) v n ≡ v n
none_done i [] v n = refl
none_done i (Put name ∷ rows) v n = none_done (i + 1) rows v n
none_done i (Drop name ∷ rows) v n = none_done (i + 1) rows v n

skip : (i : ℕ) (rows : List Row) (keep : ℕ → Bool) (v : View) (n : Name) → is_journal_name n ≡ false → Misses n rows → done_from i rows keep v n ≡ v n
skip i [] keep v n valid misses = refl
skip i (Put name ∷ rows) keep v n valid misses =
    cond-false (keep i && same n (beside i)) _ _ (and_right (keep i) _ (not_beside n i valid))
    ∙ cond-false (keep i && (same n name && is_some (v (beside i)))) _ _ (and_right (keep i) _ (and_left (same n name) _ misses.0))
    ∙ skip (i + 1) rows keep v n valid misses.1
skip i (Drop name ∷ rows) keep v n valid misses = cond-false (keep i && same n name) _ _ (and_right (keep i) _ misses.0) ∙ skip (i + 1) rows keep v n valid misses.1

-- an own name that is beside no row is passed over
abbrev NotBeside : Name → Type 0
NotBeside q = (i : ℕ) → same q (beside i) ≡ false

pub own_stays : (q : Name) → is_journal_name q ≡ true → NotBeside q → (i : ℕ) (rows : List Row) (keep : ℕ → Bool) (v : View) → AreDistinct i rows → done_from i rows keep v q ≡ v q
own_stays q own other i [] keep v distinct = refl
own_stays q own other i (Put name ∷ rows) keep v distinct =
    cond-false (keep i && same q (beside i)) _ _ (and_right (keep i) _ (other i))
    ∙ cond-false (keep i && (same q name && is_some (v (beside i)))) _ _ (and_right (keep i) _ (and_left (same q name) _ (own_not q name own distinct.0)))
    ∙ own_stays q own other (i + 1) rows keep v distinct.3
own_stays q own other i (Drop name ∷ rows) keep v distinct =
    cond-false (keep i && same q name) _ _ (and_right (keep i) _ (own_not q name own distinct.0)) ∙ own_stays q own other (i + 1) rows keep v distinct.3

pub journal_stays : (i : ℕ) (rows : List Row) (keep : ℕ → Bool) (v : View) → AreDistinct i rows → done_from i rows keep v journal ≡ v journal
journal_stays = own_stays journal refl (λ i. refl)

below_limit : (j i : ℕ) → j < i → i < 2 ^ 64 → j < 2 ^ 64
below_limit j i lt fits = omega (arith, lt, fits)

-- a file beside is passed over by the rows after its own
pub later_rows : (i : ℕ) (rows : List Row) (keep : ℕ → Bool) (v : View) (j : ℕ) → j < i → AreDistinct i rows → done_from i rows keep v (beside j) ≡ v (beside j)
later_rows i [] keep v j lt distinct = refl
later_rows i (Put name ∷ rows) keep v j lt distinct =
    cond-false (keep i && same (beside j) (beside i)) _ _ (and_right (keep i) _ (beside_apart j i (below_limit j i lt distinct.2) distinct.2 (λ e. omega arith)))
    ∙ cond-false (keep i && (same (beside j) name && is_some (v (beside i)))) _ _ (and_right (keep i) _ (and_left (same (beside j) name) _ (own_not (beside j) name refl distinct.0)))
    ∙ later_rows (i + 1) rows keep v j (omega arith) distinct.3
later_rows i (Drop name ∷ rows) keep v j lt distinct =
    cond-false (keep i && same (beside j) name) _ _ (and_right (keep i) _ (own_not (beside j) name refl distinct.0)) ∙ later_rows (i + 1) rows keep v j (omega arith) distinct.3

-- what stands beside, of each row that puts
abbrev pub Sees : ℕ → List Row → (ℕ → Bool) → View → View → Type 0
Sees i [] keep v w = Unit {0}
Sees i (Put name ∷ rows) keep v w = (w (beside i) ≡ cond (keep i) None (v (beside i))) × Sees (i + 1) rows keep v w
Sees i (Drop name ∷ rows) keep v w = Sees (i + 1) rows keep v w

own_row : (k s : Bool) (x rest v : Option (List ℕ)) → s ≡ true → rest ≡ v → cond (k && s) x rest ≡ cond k x v
own_row true s x rest v is same_rest = cond-true s x rest is
own_row false s x rest v is same_rest = same_rest

pub sees : (i : ℕ) (rows : List Row) (keep : ℕ → Bool) (v w : View) → AreDistinct i rows → ((j : ℕ) → i ≤ j → j < 2 ^ 64 → w (beside j) ≡ done_from i rows keep v (beside j)) → Sees i rows keep v w
sees i [] keep v w distinct is = tt
sees i (Put name ∷ rows) keep v w distinct is = (
  is i (omega arith) distinct.2
      ∙ own_row (keep i) (same (beside i) (beside i)) None _ (v (beside i)) (itself (beside i))
      (cond-false (keep i && (same (beside i) name && is_some (v (beside i)))) _ _ (and_right (keep i) _ (and_left (same (beside i) name) _ (own_not (beside i) name refl distinct.0)))
      ∙ later_rows (i + 1) rows keep v i (omega arith) distinct.3),
  sees (i + 1) rows keep v w distinct.3 (λ j le fits. is j (omega arith) fits
      ∙ cond-false (keep i && same (beside j) (beside i)) _ _ (and_right (keep i) _ (beside_apart j i fits distinct.2 (λ e. omega arith)))
      ∙ cond-false (keep i && (same (beside j) name && is_some (v (beside i)))) _ _ (and_right (keep i) _ (and_left (same (beside j) name) _ (own_not (beside j) name refl distinct.0)))),
)
sees i (Drop name ∷ rows) keep v w distinct is = sees (i + 1) rows keep v w distinct.3 (λ j le fits. is j (omega arith) fits
    ∙ cond-false (keep i && same (beside j) name) _ _ (and_right (keep i) _ (own_not (beside j) name refl distinct.0)))

-- one row that puts: done already, done now, or not
one_put : (k s u : Bool) (vb wb wn vn : Option (List ℕ)) → u ≡ (k || s) → wb ≡ cond k None vb → wn ≡ cond (k && is_some vb) vb vn → cond (s && is_some wb) wb wn ≡ cond (u && is_some vb) vb vn
one_put true s u (Some x) wb wn vn e p q = (λ i. cond (s && is_some (p i)) (p i) (q i)) ∙ no_file s (Some x) ∙ sym (λ i. cond (e i && true) (Some x) vn)
  where
    no_file : (s : Bool) (r : Option (List ℕ)) → cond (s && false) None r ≡ r
    no_file true r = refl
    no_file false r = refl
one_put true s u None wb wn vn e p q = (λ i. cond (s && is_some (p i)) (p i) (q i)) ∙ no_file s vn ∙ sym (λ i. cond (e i && false) None vn)
  where
    no_file : (s : Bool) (r : Option (List ℕ)) → cond (s && false) None r ≡ r
    no_file true r = refl
    no_file false r = refl
one_put false s u vb wb wn vn e p q = (λ i. cond (s && is_some (p i)) (p i) (q i)) ∙ sym (λ i. cond (e i && is_some vb) vb vn)

one_drop : (k s u : Bool) (wn vn : Option (List ℕ)) → u ≡ (k || s) → wn ≡ cond k None vn → cond s None wn ≡ cond u None vn
one_drop true true u wn vn e q = sym (λ i. cond (e i) None vn)
one_drop true false u wn vn e q = q ∙ sym (λ i. cond (e i) None vn)
one_drop false s u wn vn e q = (λ i. cond s None (q i)) ∙ sym (λ i. cond (e i) None vn)

matched : (k s : Bool) (b r : Option (List ℕ)) → s ≡ true → cond (k && (s && is_some b)) b r ≡ cond (k && is_some b) b r
matched k s b r is = ap (λ t. cond (k && (t && is_some b)) b r) is

dropped : (k s : Bool) (r : Option (List ℕ)) → s ≡ true → cond (k && s) None r ≡ cond k None r
dropped true s r is = cond-true s _ _ is
dropped false s r is = refl

-- doing more rows of a folder with some done is doing both of the folder, at each name that is not the journal's own
module _ (keep s u : ℕ → Bool) (either : (j : ℕ) → u j ≡ (keep j || s j)) (v w : View) where
  pub more_done : (i : ℕ) (rows : List Row) → AreDistinct i rows → Sees i rows keep v w → (n : Name) → is_journal_name n ≡ false → w n ≡ done_from i rows keep v n → done_from i rows s w n ≡ done_from i rows u v n
  more_done i [] distinct seen n valid is = is
  more_done i (Put name ∷ rows) distinct seen n valid is =
      let no : same n (beside i) ≡ false = not_beside n i valid in
      let was : w n ≡ cond (keep i && (same n name && is_some (v (beside i)))) (v (beside i)) (done_from (i + 1) rows keep v n) = is ∙ cond-false (keep i && same n (beside i)) _ _ (and_right (keep i) _ no) in
      cond-false (s i && same n (beside i)) _ _ (and_right (s i) _ no)
      ∙ ⊎_elim
      (λ hit.
      let misses : Misses n rows = subst (λ m. Misses m rows) (sym (equal n name hit)) distinct.1 in
      matched (s i) (same n name) (w (beside i)) _ hit
      ∙ ap (λ r. cond (s i && is_some (w (beside i))) (w (beside i)) r) (skip (i + 1) rows s w n valid misses)
      ∙ one_put (keep i) (s i) (u i) (v (beside i)) (w (beside i)) (w n) (v n) (either i) seen.0
      (was ∙ matched (keep i) (same n name) (v (beside i)) _ hit ∙ ap (λ r. cond (keep i && is_some (v (beside i))) (v (beside i)) r) (skip (i + 1) rows keep v n valid misses))
      ∙ ap (λ r. cond (u i && is_some (v (beside i))) (v (beside i)) r) (sym (skip (i + 1) rows u v n valid misses))
      ∙ sym (matched (u i) (same n name) (v (beside i)) _ hit))
      (λ missed.
      cond-false (s i && (same n name && is_some (w (beside i)))) _ _ (and_right (s i) _ (and_left (same n name) _ missed))
      ∙ more_done (i + 1) rows distinct.3 seen.1 n valid (was ∙ cond-false (keep i && (same n name && is_some (v (beside i)))) _ _ (and_right (keep i) _ (and_left (same n name) _ missed)))
      ∙ sym (cond-false (u i && (same n name && is_some (v (beside i)))) _ _ (and_right (u i) _ (and_left (same n name) _ missed))))
      (cases_Bool (same n name))
      ∙ sym (cond-false (u i && same n (beside i)) _ _ (and_right (u i) _ no))
  more_done i (Drop name ∷ rows) distinct seen n valid is = ⊎_elim
      (λ hit.
      let misses : Misses n rows = subst (λ m. Misses m rows) (sym (equal n name hit)) distinct.1 in
      dropped (s i) (same n name) _ hit
      ∙ ap (λ r. cond (s i) None r) (skip (i + 1) rows s w n valid misses)
      ∙ one_drop (keep i) (s i) (u i) (w n) (v n) (either i) (is ∙ dropped (keep i) (same n name) _ hit ∙ ap (λ r. cond (keep i) None r) (skip (i + 1) rows keep v n valid misses))
      ∙ ap (λ r. cond (u i) None r) (sym (skip (i + 1) rows u v n valid misses))
      ∙ sym (dropped (u i) (same n name) _ hit))
      (λ missed.
      cond-false (s i && same n name) _ _ (and_right (s i) _ missed)
      ∙ more_done (i + 1) rows distinct.3 seen n valid (is ∙ cond-false (keep i && same n name) _ _ (and_right (keep i) _ missed))
      ∙ sym (cond-false (u i && same n name) _ _ (and_right (u i) _ missed)))
      (cases_Bool (same n name))

pub cleaned : (v w : View) (n : Name) → (is_journal_name n ≡ false → v n ≡ w n) → clean v n ≡ clean w n
cleaned v w n agree = ⊎_elim
    (λ own. cond-true (is_journal_name n) _ _ own ∙ sym (cond-true (is_journal_name n) _ _ own))
    (λ valid. cond-false (is_journal_name n) _ _ valid ∙ agree valid ∙ sym (cond-false (is_journal_name n) _ _ valid))
    (cases_Bool (is_journal_name n))

pub recovered_by : (v : View) (rows : List Row) → rows_in (v journal) ≡ Some rows → (n : Name) → recovered v n ≡ clean (done_from 0 rows (λ _. true) v) n
unfolding recovered
recovered_by v rows is n = ap (λ r. all_done r v n) is

pub done_is : (s : ℕ → Bool) (v : View) (rows : List Row) → rows_in (v journal) ≡ Some rows → (n : Name) → done s v n ≡ done_from 0 rows s v n
unfolding done
done_is s v rows is n = ap (λ r. done_by r s v n) is
