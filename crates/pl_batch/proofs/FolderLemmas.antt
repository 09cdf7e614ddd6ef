-- The files that were taken are those of the folder under valid names.
use Rattle.std.proofs.Common.{◌≡◌, ℕ, List, [], ◌∷◌, Bool, true, false, Option, Some, None, refl, sym, ◌∙◌, ap, inl, inr}
use Rattle.std.proofs.lemmas.Bool.{cases_Bool}
use Rattle.std.proofs.lemmas.Slice.Eq.{bytes_eq-Decides}
use Rattle.std.specs.Cmp.Lexicographic.{slice_cmp, texts_ties}
use Rattle.std.specs.FinMap.{contains_key-keys, get, keys}
use Rattle.std.specs.List.{list_any}
use Rattle.std.specs.Option.{is_some, option_map}
use Rattle.std.specs.Ordering.{eq_by_cmp, nat_cmp}
use Rattle.std.specs.Prelude.{◌&&◌, Result, Ok, Err, filter, find, if◌then◌else◌, length, map, nat_le}
use Rattle.std.specs.Str.{bytes_eq}
use Rattle.pl_base.specs.Answers.{◌>>=◌}
use Rattle.pl_base.specs.Each.{each}
use Rattle.pl_base.specs.Files.{Files}
use Rattle.pl_base.specs.Names.{is_valid_name}
use Rattle.pl_base.proofs.FindLaws.{any_map, any_same}
use Rattle.pl_base.proofs.TestLaws.{bytes_flip}
use Rattle.pl_folder.specs.declared.TheConstants.{STORED}
use Rattle.pl_change.specs.Folder.{all_files, valid_names}
use Rattle.pl_batch.specs.Folder.{named}
use Rattle.pl_change.specs.Names.{file_of, of_file}
use Rattle.pl_change.specs.declared.cause.Cause.TheVariants as causes
use Rattle.pl_rewrite.specs.Taken.{files_in, names_of}
use Rattle.pl_rewrite.specs.TakenFile.{Taken}

abbrev pub bytes_of : List Taken → List (List ℕ)
bytes_of ts = map (λ t. t.bytes) ts

-- ---- one file

by_size : (name found bytes : List ℕ) (b : Bool) → (if b then Ok found else Err (causes.FileTooLarge name)) ≡ Ok bytes → Some found ≡ Some bytes
by_size name found bytes true e = let same : found ≡ bytes = cc in ap Some same
by_size name found bytes false e = absurd cc

found_file : (name bytes : List ℕ) (file : Option (List ℕ)) → of_file name file ≡ Ok bytes → file ≡ Some bytes
found_file name bytes None e = absurd cc
found_file name bytes (Some found) e = by_size name found bytes (nat_le (length found) STORED) e

is_there : (files : Files) (name bytes : List ℕ) → file_of files name ≡ Ok bytes → get files name ≡ Some bytes
unfolding file_of
is_there files name bytes e = found_file name bytes (get files name) e

-- ---- all files

each_parts : {B E : Type 0} (r : Result B E) (s : Result (List B) E) (y : B) (ys : List B) → (r >>= λ x. s >>= λ xs. Ok (x ∷ xs)) ≡ Ok (y ∷ ys) → (r ≡ Ok y) × (s ≡ Ok ys)
each_parts (Err e) s y ys h = absurd cc
each_parts (Ok x) (Err e) y ys h = absurd cc
each_parts (Ok x) (Ok xs) y ys h = let one : x ≡ y = cc in let rest : xs ≡ ys = cc in (ap Ok one, ap Ok rest)

abbrev is_of : List ℕ → Taken → Bool
is_of n t = bytes_eq t.name n

abbrev one_of : List (List ℕ) → List ℕ → Bool
one_of ks n = list_any (λ k. bytes_eq k n) ks

taken_is : (files : Files) (ts : List Taken) → each (file_of files) (names_of ts) ≡ Ok (bytes_of ts) → (n : List ℕ) → option_map (λ t. t.bytes) (find (is_of n) ts) ≡ (if list_any (is_of n) ts then get files n else None)
unfolding each
taken_is files [] h n = refl
taken_is files (t ∷ ts) h n =
    let parts = each_parts (file_of files t.name) (each (file_of files) (names_of ts)) t.bytes (bytes_of ts) h in
    elim (cases_Bool (bytes_eq t.name n)) [
      | inl hit ↦ rw hit (sym (is_there files t.name t.bytes parts.0) ∙ ap (get files) ((bytes_eq-Decides t.name n).0 hit))
      | inr miss ↦ rw miss (taken_is files ts parts.1 n)
    ]

-- ---- the names

one_valid : (n : List ℕ) (ks : List (List ℕ)) → one_of (filter is_valid_name ks) n ≡ (is_valid_name n && one_of ks n)
one_valid n [] = elim (is_valid_name n) as (λ b. false ≡ (b && false)) [ true ↦ refl | false ↦ refl ]
one_valid n (k ∷ ks) = elim (cases_Bool (bytes_eq k n)) [
  | inl hit ↦ elim (cases_Bool (is_valid_name k)) [
    | inl valid ↦ let other : is_valid_name n ≡ true = sym (ap is_valid_name ((bytes_eq-Decides k n).0 hit)) ∙ valid in rw (valid, hit, other) refl
    | inr invalid ↦ let other : is_valid_name n ≡ false = sym (ap is_valid_name ((bytes_eq-Decides k n).0 hit)) ∙ invalid in rw invalid (one_valid n ks ∙ rw other refl)
  ]
  | inr miss ↦ elim (cases_Bool (is_valid_name k)) [
    | inl valid ↦ rw (valid, miss) (one_valid n ks)
    | inr invalid ↦ rw (invalid, miss) (one_valid n ks)
  ]
]

one_key : (files : Files) (n : List ℕ) → one_of (keys files) n ≡ is_some (get files n)
one_key files n = any_same (λ k. bytes_eq k n) (eq_by_cmp (slice_cmp nat_cmp) n) (keys files) (λ k. bytes_flip k n ∙ texts_ties n k) ∙ sym (contains_key-keys files n)

there_alone : {X : Type 0} (b : Bool) (o : Option X) → (if b && is_some o then o else None) ≡ (if b then o else None)
there_alone true None = refl
there_alone true (Some x) = refl
there_alone false o = refl

-- ---- the whole

at_name : (files : Files) (ts : List Taken) → names_of ts ≡ valid_names files → all_files files (valid_names files) ≡ Ok (bytes_of ts) → (n : List ℕ) → files_in ts n ≡ named files n
unfolding files_in all_files
at_name files ts names is n =
    taken_is files ts (ap (each (file_of files)) names ∙ is) n
    ∙ ap (λ (b : Bool). if b then get files n else None) (
    sym (any_map (λ k. bytes_eq k n) (λ t. t.name) ts)
    ∙ ap (λ (ks : List (List ℕ)). one_of ks n) names
    ∙ one_valid n (keys files)
    ∙ ap (λ b. is_valid_name n && b) (one_key files n))
    ∙ there_alone (is_valid_name n) (get files n)

pub files_taken : (files : Files) (ts : List Taken) → names_of ts ≡ valid_names files → all_files files (valid_names files) ≡ Ok (bytes_of ts) → files_in ts ≡ named files
files_taken files ts names is = λ i n. at_name files ts names is n i
