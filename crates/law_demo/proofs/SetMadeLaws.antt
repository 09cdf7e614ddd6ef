-- The files of a set, each made from its recipe.
use Rattle.std.proofs.Common.{◌≡◌, ℕ, ◌+◌, ◌≤◌, Bool, true, false, cond, List, [], ◌∷◌, length, Option, Some, None, refl, sym, ap, subst, ◌∙◌, arith, inl, inr}
use Rattle.std.specs.Prelude.{◌||◌, count_by, fold, map, nat_lt, not, if◌then◌else◌}
use Rattle.std.specs.Cmp.Lexicographic.{nat_list_cmp_total, slice_cmp}
use Rattle.std.specs.FinMap.{contains_key, entries, get, get-empty, get-insert, get-retain_keys, insert, keys, len, len-empty, len-entries, len-insert}
use Rattle.std.specs.List.{AllByRecursion, IsDistinct}
use Rattle.std.specs.Ordering.{is_eq, nat_cmp}
use Rattle.std.specs.Str.{bytes_eq}
use Rattle.std.proofs.lemmas.Bool.{cases_Bool, false≢true}
use Rattle.std.proofs.lemmas.Bool.Decides.{nat_tests}
use Rattle.std.proofs.lemmas.List.{length-map}
use Rattle.std.proofs.lemmas.List.Sums.{count_by-le-length}
use Rattle.std.proofs.lemmas.Option.{none-some, same_Some}
use Rattle.pl_base.specs.Files.{Files}
use Rattle.pl_base.specs.Names.{is_name_byte, is_own_name, is_valid_name}
use Rattle.pl_base.proofs.FilesLaws.{equal_files, get-inserted, same, same_name}
use Rattle.pl_base.proofs.TestLaws.{bytes_flip}
use Rattle.pl_change.specs.Folder.{cache}
use Rattle.pl_change.specs.Names.{are_many}
use Rattle.pl_change.specs.Restored.{restored, restored_by}
use Rattle.pl_change.specs.declared.room.TheConstants.{FILES}
use Rattle.pl_demo.specs.Made.{made, made_files, no_files, with_file, with_made}
use Rattle.pl_journal.specs.Names.{is_journal_name, journal}
use Rattle.pl_journal.specs.Rows.{rows_in}
use Rattle.pl_journal.proofs.Done.{row_not_own}
use Rattle.pl_scope.proofs.NameLaws.{eq_refl}

-- ---- what a file of a set is

module _ (P : List ℕ → List ℕ → Type 0) where
  -- what is known of the file of a recipe under its name
  abbrev pub Makes : List ℕ × List ℕ → Type 0
  Makes f = (file : List ℕ) → is_valid_name f.0 ≡ true → made f.1 ≡ Some file → P f.0 file

  abbrev pub Have : Files → Type 0
  Have files = (n file : List ℕ) → get files n ≡ Some file → P n file

  put_more : (files : Files) (name bytes : List ℕ) → Have files → P name bytes → Have (insert files name bytes)
  put_more files name bytes old new n file there = elim (cases_Bool (same n name)) [
    | inl hit ↦
        let at : cond (same n name) (Some bytes) (get files n) ≡ Some file = sym (get-insert nat_list_cmp_total files name bytes n) ∙ there in
        let is : bytes ≡ file = same_Some bytes file (sym (ap (λ (b : Bool). cond b (Some bytes) (get files n)) hit) ∙ at) in
        subst (λ (k : List ℕ). P k file) (sym (same_name n name hit)) (subst (λ (xs : List ℕ). P name xs) is new)
    | inr miss ↦
        let at : cond (same n name) (Some bytes) (get files n) ≡ Some file = sym (get-insert nat_list_cmp_total files name bytes n) ∙ there in
        old n file (sym (ap (λ (b : Bool). cond b (Some bytes) (get files n)) miss) ∙ at)
  ]

  made_more : (files : Files) (name : List ℕ) (o : Option (List ℕ)) → Have files → ((file : List ℕ) → o ≡ Some file → P name file) → Have (with_made o name files)
  made_more files name None old new = old
  made_more files name (Some bytes) old new = put_more files name bytes old (new bytes refl)

  file_more : (files : Files) (f : List ℕ × List ℕ) → Have files → Makes f → Have (with_file files f)
  unfolding with_file
  file_more files f old new = elim (cases_Bool (is_valid_name f.0)) [
    | inl valid ↦ rw valid (made_more files f.0 (made f.1) old (λ file is. new file valid is))
    | inr other ↦ rw other old
  ]

  files_more : (set : List (List ℕ × List ℕ)) (files : Files) → Have files → AllByRecursion Makes set → Have (fold with_file files set)
  files_more [] files old new = old
  files_more (f ∷ set) files old new = files_more set (with_file files f) (file_more files f old new.0) new.1

  none_have : Have no_files
  none_have n file there = absurd (none-some file (sym (get-empty (slice_cmp nat_cmp) n) ∙ there))

  pub each_made : (set : List (List ℕ × List ℕ)) → AllByRecursion Makes set → Have (made_files set)
  unfolding made_files
  each_made set new = files_more set no_files none_have new

-- ---- their names

all_of : {X : Type 0} {P : X → Type 0} (each : (x : X) → P x) (xs : List X) → AllByRecursion P xs
all_of each [] = tt
all_of each (x ∷ xs) = (each x, all_of each xs)

-- each is valid
pub valid_named : (set : List (List ℕ × List ℕ)) (n file : List ℕ) → get (made_files set) n ≡ Some file → is_valid_name n ≡ true
valid_named set = each_made (λ n file. is_valid_name n ≡ true) set (all_of (λ f file valid is. valid) set)

none_at : (set : List (List ℕ × List ℕ)) (n : List ℕ) → is_valid_name n ≡ false → get (made_files set) n ≡ None
none_at set n other = by_file (get (made_files set) n) refl
  where
    by_file : (o : Option (List ℕ)) → get (made_files set) n ≡ o → o ≡ None
    by_file None is = refl
    by_file (Some file) is = absurd (false≢true (sym other ∙ valid_named set n file is))

journal_other : is_valid_name journal ≡ false
unfolding is_valid_name is_name_byte is_own_name
journal_other = refl

cache_other : is_valid_name cache ≡ false
unfolding is_valid_name is_name_byte is_own_name
cache_other = refl

pub no_journal_made : (set : List (List ℕ × List ℕ)) → get (made_files set) journal ≡ None
no_journal_made set = none_at set journal journal_other

pub no_cache_made : (set : List (List ℕ × List ℕ)) → get (made_files set) cache ≡ None
no_cache_made set = none_at set cache cache_other

valid_other : (n : List ℕ) → is_valid_name n ≡ true → is_journal_name n ≡ false
valid_other n valid = row_not_own n (ap (λ (b : Bool). b || same n cache) valid)

kept_own : (set : List (List ℕ × List ℕ)) (n : List ℕ) (b : Bool) → is_journal_name n ≡ b → cond (not b) (get (made_files set) n) None ≡ get (made_files set) n
kept_own set n false is = refl
kept_own set n true is = by_file (get (made_files set) n) refl
  where
    by_file : (o : Option (List ℕ)) → get (made_files set) n ≡ o → None ≡ o
    by_file None there = refl
    by_file (Some file) there = absurd (false≢true (sym (valid_other n (valid_named set n file there)) ∙ is))

own_tie : (n x : List ℕ) → same n x ≡ true → not (is_journal_name x) ≡ not (is_journal_name n)
own_tie n x tie = ap (λ (k : List ℕ). not (is_journal_name k)) (sym (same_name n x tie))

-- so they stand for themselves
pub restored_made : (set : List (List ℕ × List ℕ)) → restored (made_files set) ≡ made_files set
unfolding restored
restored_made set =
    ap (λ (o : Option (List ℕ)). restored_by (rows_in o) (made_files set)) (no_journal_made set)
    ∙ equal_files (restored_by (Some []) (made_files set)) (made_files set) (λ n.
    get-retain_keys (made_files set) (λ x. not (is_journal_name x)) n (λ x tie. own_tie n x (ap is_eq tie)) ∙ kept_own set n (is_journal_name n) refl)

-- ---- how many there are

put_len : (files : Files) (name bytes : List ℕ) → len (insert files name bytes) ≤ len files + 1
put_len files name bytes = by (contains_key files name) (len-insert nat_list_cmp_total files name bytes)
  where
    by : (b : Bool) → len (insert files name bytes) ≡ cond b (len files) (len files + 1) → len (insert files name bytes) ≤ len files + 1
    by true is = omega (arith, is)
    by false is = omega (arith, is)

file_len : (files : Files) (f : List ℕ × List ℕ) → len (with_file files f) ≤ len files + 1
unfolding with_file
file_len files f = by_valid (is_valid_name f.0) (made f.1)
  where
    by_made : (o : Option (List ℕ)) → len (with_made o f.0 files) ≤ len files + 1
    by_made None = omega arith
    by_made (Some bytes) = put_len files f.0 bytes

    by_valid : (b : Bool) (o : Option (List ℕ)) → len (if b then with_made o f.0 files else files) ≤ len files + 1
    by_valid true o = by_made o
    by_valid false o = omega arith

files_len : (set : List (List ℕ × List ℕ)) (files : Files) → len (fold with_file files set) ≤ len files + length set
files_len [] files = omega arith
files_len (f ∷ set) files = omega (arith, file_len files f, files_len set (with_file files f))

not_less : (a b : ℕ) → b ≤ a → nat_lt a b ≡ false
not_less a b le = grind (arith, nat_tests)

-- no more than the set has
pub few_made : (set : List (List ℕ × List ℕ)) → length set ≤ FILES → are_many (keys (made_files set)) ≡ false
unfolding are_many made_files
few_made set few =
    let ks = keys (fold with_file no_files set) in
    let none : len no_files ≡ 0 = len-empty (slice_cmp nat_cmp) (List ℕ) in
    let all : length ks ≤ length set = omega (arith, length-map (entries (fold with_file no_files set)) (λ (e : List ℕ × List ℕ). e.0), len-entries (fold with_file no_files set), files_len set no_files, none) in
    not_less FILES (count_by is_valid_name ks) (omega (arith, count_by-le-length is_valid_name ks, all, few))

-- ---- where no two have one name

turned : (a b : List ℕ) → bytes_eq a b ≡ false → bytes_eq b a ≡ false
turned a b other = bytes_flip b a ∙ other

flipped : (a b : List ℕ) → bytes_eq a b ≡ false → same b a ≡ false
flipped a b other = elim (cases_Bool (same b a)) [
  | inl hit ↦ absurd (false≢true (sym other ∙ (ap (bytes_eq a) (same_name b a hit) ∙ eq_refl a)))
  | inr miss ↦ miss
]

-- a name that a file of a set does not have
one_kept : (files : Files) (f : List ℕ × List ℕ) (n : List ℕ) → bytes_eq f.0 n ≡ false → get (with_file files f) n ≡ get files n
unfolding with_file
one_kept files f n other = by_valid (is_valid_name f.0) (made f.1)
  where
    by_valid : (b : Bool) (o : Option (List ℕ)) → get (if b then with_made o f.0 files else files) n ≡ get files n
    by_valid false o = refl
    by_valid true None = refl
    by_valid true (Some bytes) = get-insert nat_list_cmp_total files f.0 bytes n ∙ ap (λ (b : Bool). cond b (Some bytes) (get files n)) (flipped f.0 n other)

all_kept : (set : List (List ℕ × List ℕ)) (files : Files) (n : List ℕ) → AllByRecursion (λ k. bytes_eq n k ≡ false) (map (λ f. f.0) set) → get (fold with_file files set) n ≡ get files n
all_kept [] files n other = refl
all_kept (f ∷ set) files n other = all_kept set (with_file files f) n other.1 ∙ one_kept files f n (turned n f.0 other.0)

-- a file that is not there yet
one_at : (files : Files) (f : List ℕ × List ℕ) → is_valid_name f.0 ≡ true → get files f.0 ≡ None → get (with_file files f) f.0 ≡ made f.1
unfolding with_file
one_at files f valid none = ap (λ (b : Bool). get (if b then with_made (made f.1) f.0 files else files) f.0) valid ∙ by_made (made f.1)
  where
    by_made : (o : Option (List ℕ)) → get (with_made o f.0 files) f.0 ≡ o
    by_made None = none
    by_made (Some bytes) = get-inserted files f.0 bytes

-- each name has the file of its recipe
abbrev pub IsMade : Files → List ℕ × List ℕ → Type 0
IsMade files f = get files f.0 ≡ made f.1

abbrev IsNew : Files → List ℕ × List ℕ → Type 0
IsNew files f = (is_valid_name f.0 ≡ true) × (get files f.0 ≡ None)

still_new : (set : List (List ℕ × List ℕ)) (files : Files) (f : List ℕ × List ℕ) → AllByRecursion (λ k. bytes_eq f.0 k ≡ false) (map (λ g. g.0) set) → AllByRecursion (IsNew files) set → AllByRecursion (IsNew (with_file files f)) set
still_new [] files f other new = tt
still_new (g ∷ set) files f other new = ((new.0.0, one_kept files f g.0 other.0 ∙ new.0.1), still_new set files f other.1 new.1)

later_made : (set : List (List ℕ × List ℕ)) (files : Files) → IsDistinct bytes_eq (map (λ f. f.0) set) → AllByRecursion (IsNew files) set → AllByRecursion (IsMade (fold with_file files set)) set
unfolding IsDistinct
later_made [] files distinct new = tt
later_made (f ∷ set) files distinct new = (
  all_kept set (with_file files f) f.0 distinct.0 ∙ one_at files f new.0.0 new.0.1,
  later_made set (with_file files f) distinct.1 (still_new set files f distinct.0 new.1),
)

begin_new : (set : List (List ℕ × List ℕ)) → AllByRecursion (λ f. is_valid_name f.0 ≡ true) set → AllByRecursion (IsNew no_files) set
begin_new [] valid = tt
begin_new (f ∷ set) valid = ((valid.0, get-empty (slice_cmp nat_cmp) f.0), begin_new set valid.1)

pub all_made : (set : List (List ℕ × List ℕ)) → IsDistinct bytes_eq (map (λ f. f.0) set) → AllByRecursion (λ f. is_valid_name f.0 ≡ true) set → AllByRecursion (IsMade (made_files set)) set
unfolding made_files
all_made set distinct valid = later_made set no_files distinct (begin_new set valid)
