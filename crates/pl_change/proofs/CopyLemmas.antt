-- Files that are copied one after the other, and the folder that they are.
use Rattle.std.proofs.Common.{◌≡◌, ◌≤◌, ℕ, List, [], ◌∷◌, ◌++◌, Bool, true, false, cond, Option, Some, None, length, refl, sym, ◌∙◌, ap, append_assoc, subst, inl, inr}
use Rattle.std.proofs.lemmas.Bool.{cases_Bool}
use Rattle.std.proofs.lemmas.List.{append-nil}
use Rattle.std.specs.Prelude.{◌||◌, ◌&&◌, Result, Ok, Err, String, Vec, filter, is_some, map, nat_le, string_bytes, if◌then◌else◌}
use Rattle.std.specs.declared.alloc.Global.{Global}
use Rattle.std.specs.FinMap.{contains_key-keys, find, get, get-from_entries, get-retain_keys, keys, nat_cmp-IsAntisymmetric, retain_keys, slice_cmp-IsAntisymmetric}
use Rattle.std.specs.Cmp.Lexicographic.{nat_list_cmp_total, slice_cmp, texts_ties}
use Rattle.std.specs.Ordering.{nat_cmp}
use Rattle.std.specs.Str.{bytes_eq}
use Rattle.pl_base.specs.Answers.{◌>>=◌}
use Rattle.pl_base.specs.Each.{each, with_front}
use Rattle.pl_base.specs.Files.{Files, file_entry, files_of}
use Rattle.pl_base.specs.Names.{is_valid_name}
use Rattle.pl_base.proofs.AnswerLaws.{bind_ok, ok_same}
use Rattle.pl_base.proofs.EachLaws.{front_nothing, regroup}
use Rattle.pl_base.proofs.FilesLaws.{equal_files, same_name, same_refl}
use Rattle.pl_folder.specs.Calls.{Calls}
use Rattle.pl_folder.specs.Disk.{same}
use Rattle.pl_folder.specs.Seen.{Seen, Done}
use Rattle.pl_folder.specs.declared.TheConstants.{STORED}
use Rattle.pl_journal.specs.Lists.{is_listed}
use Rattle.pl_journal.specs.Parts.{Looking}
use Rattle.pl_change.specs.Answers.{Finds}
use Rattle.pl_change.specs.Copied.{cache_entry, is_copied, kept}
use Rattle.pl_change.specs.Folder.{all_files, cache, valid_names}
use Rattle.pl_change.specs.Names.{file_of, of_file}
use Rattle.pl_change.specs.declared.cause.Cause.{Cause}
use Rattle.pl_change.specs.declared.cause.Cause.TheVariants.{FileTooLarge}
use Rattle.pl_change.specs.declared.fault.BatchFault.{BatchFault}
use Rattle.pl_change.specs.declared.fault.BatchFault.TheVariants.{DiskFailed, NoMemory}
use Rattle.pl_change.specs.declared.fault.BatchFault.TheVariants as faults
use Rattle.pl_change.proofs.FindLemmas.{lacks, lacks_finds, no_asking, reads_on}
use Rattle.pl_change.proofs.UndoLemmas.{items}

abbrev pub File : Type 0
File = String Global × Vec ℕ Global

abbrev pub valid_of : List (List ℕ) → List (List ℕ)
valid_of ns = filter is_valid_name ns

abbrev pub name : File → List ℕ
name file = string_bytes file.0

abbrev pub bytes : File → List ℕ
bytes file = file.1.items

abbrev pub names_of : List File → List (List ℕ)
names_of files = map name files

abbrev pub bytes_of : List File → List (List ℕ)
bytes_of files = map bytes files

abbrev pub Copies : Type 0
Copies = Vec File Global

abbrev pub bytes_in : Copies → List (List ℕ)
bytes_in copies = bytes_of copies.items

map_push : {X Y : Type 0} (f : X → Y) (xs : List X) (x : X) → map f (xs ++ x ∷ []) ≡ map f xs ++ f x ∷ []
map_push f [] x = refl
map_push f (y ∷ ys) x = ap (λ rest. f y ∷ rest) (map_push f ys x)

-- the files so far, and the names that are left
pub record CopiedSoFar (a b : Seen) (all left : List (List ℕ)) (ts : List File) : Type 0 where
  pub means : a.tells ≡ true → each (file_of a.files) (valid_of all) ≡ with_front (bytes_of ts) (each (file_of a.files) (valid_of left))
  pub names : names_of ts ++ valid_of left ≡ valid_of all
  pub calls : Calls Done Looking a b

module _ (a : Seen) (all : List (List ℕ)) where
  pub begins : (ts : List File) → ts ≡ [] → CopiedSoFar a a all all ts
  begins ts none = record {
    means = λ t. sym (front_nothing (each (file_of a.files) (valid_of all))) ∙ ap (λ (ys : List File). with_front (bytes_of ys) (each (file_of a.files) (valid_of all))) (sym none);
    names = ap (λ (ys : List File). names_of ys ++ valid_of all) none;
    calls = no_asking a;
  }

  module _ {b : Seen} (n : List ℕ) (rest : List (List ℕ)) (ts : List File) (so_far : CopiedSoFar a b all (n ∷ rest) ts) where
    -- a name that is not valid
    pub skips : is_valid_name n ≡ false → CopiedSoFar a b all rest ts
    skips invalid =
        let same : valid_of (n ∷ rest) ≡ valid_of rest = ap (λ (v : Bool). cond v (n ∷ valid_of rest) (valid_of rest)) invalid in
        record {
          means = λ t. so_far.means t ∙ ap (λ (ks : List (List ℕ)). with_front (bytes_of ts) (each (file_of a.files) ks)) same;
          names = ap (λ (ks : List (List ℕ)). names_of ts ++ ks) (sym same) ∙ so_far.names;
          calls = so_far.calls;
        }

    module _ (valid : is_valid_name n ≡ true) where
      here : valid_of (n ∷ rest) ≡ n ∷ valid_of rest
      here = ap (λ (v : Bool). cond v (n ∷ valid_of rest) (valid_of rest)) valid

      -- what the files mean, by the file of this name
      goes : a.tells ≡ true → (r : Result (List ℕ) Cause) → file_of b.files n ≡ r
          → each (file_of a.files) (valid_of all) ≡ with_front (bytes_of ts) (r >>= λ y. each (file_of a.files) (valid_of rest) >>= λ ys. Ok (y ∷ ys))
      unfolding each
      goes t r is =
          so_far.means t
          ∙ ap (λ (ks : List (List ℕ)). with_front (bytes_of ts) (each (file_of a.files) ks)) here
          ∙ ap (λ (m : Result (List ℕ) Cause). with_front (bytes_of ts) (m >>= λ y. each (file_of a.files) (valid_of rest) >>= λ ys. Ok (y ∷ ys))) (ap (λ (f : Files). file_of f n) (sym (so_far.calls.files t)) ∙ is)

      pub goes_on : {c : Seen} (taken : File) → Finds (file_of b.files n) items (Ok taken.1) b c → string_bytes taken.0 ≡ n → (next : List File) → next ≡ ts ++ taken ∷ [] → CopiedSoFar a c all rest next
      goes_on taken found called next is = record {
        means = λ t. goes t (Ok taken.1.items) (found.means (so_far.calls.tells ∙ t))
            ∙ regroup (bytes_of ts) taken.1.items (each (file_of a.files) (valid_of rest))
            ∙ ap (λ (front : List (List ℕ)). with_front front (each (file_of a.files) (valid_of rest))) (sym (map_push bytes ts taken))
            ∙ ap (λ (ys : List File). with_front (bytes_of ys) (each (file_of a.files) (valid_of rest))) (sym is);
        names = ap (λ (ys : List File). names_of ys ++ valid_of rest) is
            ∙ ap (λ (ks : List (List ℕ)). ks ++ valid_of rest) (map_push name ts taken)
            ∙ append_assoc (names_of ts) (string_bytes taken.0 ∷ []) (valid_of rest)
            ∙ ap (λ (k : List ℕ). names_of ts ++ k ∷ valid_of rest) called
            ∙ ap (λ (ks : List (List ℕ)). names_of ts ++ ks) (sym here)
            ∙ so_far.names;
        calls = reads_on so_far.calls found.calls;
      }

      pub stops_at : {c : Seen} (fault : BatchFault) → Finds (file_of b.files n) items (Err fault) b c → Finds (all_files a.files (valid_of all)) bytes_in (Err fault) a c
      unfolding all_files
      stops_at DiskFailed found = record { means = tt; calls = reads_on so_far.calls found.calls }
      stops_at NoMemory found = record { means = tt; calls = reads_on so_far.calls found.calls }
      stops_at (faults.Cause cause) found = record { means = λ t. goes t (Err cause) (found.means (so_far.calls.tells ∙ t)); calls = reads_on so_far.calls found.calls }

      -- no memory for the file
      pub lacks_at : {c : Seen} (taken : File) → Finds (file_of b.files n) items (Ok taken.1) b c → Finds (all_files a.files (valid_of all)) bytes_in (Err NoMemory) a c
      lacks_at taken found = record { means = tt; calls = lacks (reads_on so_far.calls found.calls) }

  module _ {b : Seen} (ts : Copies) (so_far : CopiedSoFar a b all [] ts.items) where
    pub ends : Finds (all_files a.files (valid_of all)) bytes_in (Ok ts) a b
    unfolding all_files each
    ends = record { means = λ t. so_far.means t ∙ ap Ok (append-nil (bytes_in ts)); calls = so_far.calls }

    pub end_names : names_of ts.items ≡ valid_of all
    end_names = sym (append-nil (names_of ts.items)) ∙ so_far.names

-- ---- the folder that they are

-- what is found under a name among files and what follows them
abbrev pub at : List ℕ → List (List ℕ × List ℕ) → Option (List ℕ)
at q es = find (slice_cmp nat_cmp) q es

file_is : (files : Files) (n found : List ℕ) → file_of files n ≡ Ok found → get files n ≡ Some found
unfolding file_of
file_is files n found is = by (get files n) is
  where
    by_size : (bytes : List ℕ) (small : Bool) → (if small then Ok bytes else Err (FileTooLarge n)) ≡ Ok found → Some bytes ≡ Some found
    by_size bytes true is = ap (λ (b : List ℕ). Some b) (ok_same bytes found is)
    by_size bytes false is = let no : ⊥ = cc in absurd no

    by : (o : Option (List ℕ)) → of_file n o ≡ Ok found → o ≡ Some found
    by None is = let no : ⊥ = cc in absurd no
    by (Some bytes) is = by_size bytes (nat_le (length bytes) STORED) is

-- of these names each has its file, in their order; then come others
found_in : (files : Files) (q : List ℕ) (copies : List File) (ns : List (List ℕ)) (rest : List (List ℕ × List ℕ)) → names_of copies ≡ ns → each (file_of files) ns ≡ Ok (bytes_of copies) → at q (map file_entry copies ++ rest) ≡ cond (is_listed q ns) (get files q) (at q rest)
unfolding each
found_in files q [] [] rest named is = refl
found_in files q [] (n ∷ ns) rest named is = let no : ⊥ = cc in absurd no
found_in files q (c ∷ cs) [] rest named is = let no : ⊥ = cc in absurd no
found_in files q (c ∷ cs) (n ∷ ns) rest named is =
    let name_is : name c ≡ n = cc in
    let names_are : names_of cs ≡ ns = cc in
    let first = bind_ok (file_of files n) (λ y. each (file_of files) ns >>= λ ys. Ok (y ∷ ys)) (bytes_of (c ∷ cs)) is in
    let second = bind_ok (each (file_of files) ns) (λ ys. Ok (first.0 ∷ ys)) (bytes_of (c ∷ cs)) first.2 in
    let both = ok_same (first.0 ∷ second.0) (bytes_of (c ∷ cs)) second.2 in
    let head_is : first.0 ≡ bytes c = cc in
    let tail_is : second.0 ≡ bytes_of cs = cc in
    let file : get files n ≡ Some (bytes c) = file_is files n first.0 first.1 ∙ ap (λ (b : List ℕ). Some b) head_is in
    let later = found_in files q cs ns rest names_are (second.1 ∙ ap (λ (ys : List (List ℕ)). Ok ys) tail_is) in
    elim (cases_Bool (same q n)) [
      | inl hit ↦ ap (λ (k : List ℕ). cond (same q k) (Some (bytes c)) (at q (map file_entry cs ++ rest))) name_is ∙ ap (λ (b : Bool). cond b (Some (bytes c)) (at q (map file_entry cs ++ rest))) hit
          ∙ sym (ap (λ (b : Bool). cond (b || is_listed q ns) (get files q) (at q rest)) hit ∙ ap (λ (k : List ℕ). get files k) (same_name q n hit) ∙ file)
      | inr miss ↦ ap (λ (k : List ℕ). cond (same q k) (Some (bytes c)) (at q (map file_entry cs ++ rest))) name_is ∙ ap (λ (b : Bool). cond b (Some (bytes c)) (at q (map file_entry cs ++ rest))) miss
          ∙ later ∙ sym (ap (λ (b : Bool). cond (b || is_listed q ns) (get files q) (at q rest)) miss)
    ]

-- ---- the copies of all valid names, and the cache

no_more : (a : Bool) → (a && false) ≡ false
no_more true = refl
no_more false = refl

-- of names those that are valid
listed_valid : (q : List ℕ) (ks : List (List ℕ)) → is_listed q (valid_of ks) ≡ (is_valid_name q && is_listed q ks)
listed_valid q [] = sym (no_more (is_valid_name q))
listed_valid q (k ∷ ks) = by (is_valid_name k) refl (listed_valid q ks)
  where
    by : (valid : Bool) → is_valid_name k ≡ valid → is_listed q (valid_of ks) ≡ (is_valid_name q && is_listed q ks) → is_listed q (valid_of (k ∷ ks)) ≡ (is_valid_name q && (same q k || is_listed q ks))
    by true is rest =
        ap (λ (v : Bool). is_listed q (cond v (k ∷ valid_of ks) (valid_of ks))) is ∙ elim (cases_Bool (same q k)) [
          | inl hit ↦
              let valid : is_valid_name q ≡ true = ap is_valid_name (same_name q k hit) ∙ is in
              ap (λ (b : Bool). b || is_listed q (valid_of ks)) hit ∙ sym (ap (λ (b : Bool). b && (same q k || is_listed q ks)) valid ∙ ap (λ (b : Bool). b || is_listed q ks) hit)
          | inr miss ↦ ap (λ (b : Bool). b || is_listed q (valid_of ks)) miss ∙ rest ∙ sym (ap (λ (b : Bool). is_valid_name q && (b || is_listed q ks)) miss)
        ]
    by false is rest =
        ap (λ (v : Bool). is_listed q (cond v (k ∷ valid_of ks) (valid_of ks))) is ∙ rest ∙ elim (cases_Bool (same q k)) [
          | inl hit ↦
              let invalid : is_valid_name q ≡ false = ap is_valid_name (same_name q k hit) ∙ is in
              ap (λ (b : Bool). b && is_listed q ks) invalid ∙ sym (ap (λ (b : Bool). b && (same q k || is_listed q ks)) invalid)
          | inr miss ↦ sym (ap (λ (b : Bool). is_valid_name q && (b || is_listed q ks)) miss)
        ]

get_kept : (files : Files) (q : List ℕ) → get (kept files) q ≡ cond (is_copied q) (get files q) None
get_kept files q = get-retain_keys files is_copied q (λ x tie. ap is_copied (sym (slice_cmp-IsAntisymmetric nat_cmp-IsAntisymmetric q x tie)))

pub at_cache : (q : List ℕ) (cached : Option (List ℕ)) → at q (cache_entry cached) ≡ cond (same q cache) cached None
at_cache q None = by (same q cache)
  where
    by : (b : Bool) → ◌≡◌ {A = Option (List ℕ)} None (cond b None None)
    by true = refl
    by false = refl
at_cache q (Some bytes) = refl

there_or : (o other : Option (List ℕ)) → (o ≡ None → other ≡ None) → cond (is_some o) o other ≡ o
there_or (Some bytes) other none = refl
there_or None other none = none refl

module _ (files : Files) (q : List ℕ) where
  -- the cache's file under its name
  abbrev other : Option (List ℕ)
  other = cond (same q cache) (get files cache) None

  other_none : get files q ≡ None → other ≡ None
  other_none none = elim (cases_Bool (same q cache)) [
    | inl hit ↦ ap (λ (b : Bool). cond b (get files cache) None) hit ∙ ap (λ (k : List ℕ). get files k) (sym (same_name q cache hit)) ∙ none
    | inr miss ↦ ap (λ (b : Bool). cond b (get files cache) None) miss
  ]

  other_is : other ≡ cond (bytes_eq q cache) (get files q) None
  other_is = elim (cases_Bool (same q cache)) [
    | inl hit ↦ ap (λ (k : List ℕ). cond (same q cache) (get files k) None) (sym (same_name q cache hit)) ∙ ap (λ (b : Bool). cond b (get files q) None) (sym (texts_ties q cache))
    | inr miss ↦ ap (λ (b : Bool). cond b (get files cache) None) miss ∙ sym (ap (λ (b : Bool). cond b (get files q) None) (texts_ties q cache ∙ miss))
  ]

  found_there : cond (is_listed q (valid_names files)) (get files q) other ≡ cond (is_copied q) (get files q) None
  found_there = ap (λ (b : Bool). cond b (get files q) other) (listed_valid q (keys files) ∙ ap (λ (b : Bool). is_valid_name q && b) (sym (contains_key-keys files q))) ∙ by (is_valid_name q) refl
    where
      by : (valid : Bool) → is_valid_name q ≡ valid → cond (is_valid_name q && is_some (get files q)) (get files q) other ≡ cond (is_valid_name q || bytes_eq q cache) (get files q) None
      by true is = ap (λ (v : Bool). cond (v && is_some (get files q)) (get files q) other) is ∙ there_or (get files q) other other_none ∙ sym (ap (λ (v : Bool). cond (v || bytes_eq q cache) (get files q) None) is)
      by false is = ap (λ (v : Bool). cond (v && is_some (get files q)) (get files q) other) is ∙ other_is ∙ sym (ap (λ (v : Bool). cond (v || bytes_eq q cache) (get files q) None) is)

-- they are the files that are kept
pub copies_kept : (files : Files) (copies entries : List File) (cached : Option (List ℕ)) → names_of copies ≡ valid_names files → each (file_of files) (valid_names files) ≡ Ok (bytes_of copies) → cached ≡ get files cache
    → map file_entry entries ≡ map file_entry copies ++ cache_entry cached → files_of entries ≡ kept files
copies_kept files copies entries cached named is cache_is entries_are = equal_files (files_of entries) (kept files) (λ q.
    get-from_entries nat_list_cmp_total (map file_entry entries) q
    ∙ ap (at q) entries_are
    ∙ found_in files q copies (valid_names files) (cache_entry cached) named is
    ∙ ap (λ (o : Option (List ℕ)). cond (is_listed q (valid_names files)) (get files q) o) (at_cache q cached ∙ ap (λ (o : Option (List ℕ)). cond (same q cache) o None) cache_is)
    ∙ found_there files q
    ∙ sym (get_kept files q))
