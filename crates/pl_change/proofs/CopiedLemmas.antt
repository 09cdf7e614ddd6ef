-- The copy of a folder, step by step, and what it is.
use Rattle.std.proofs.Common.{◌≡◌, ◌≤◌, ◌<◌, ◌+◌, ◌∙◌, ℕ, List, [], ◌∷◌, ◌++◌, Bool, true, false, cond, Option, Some, None, length, get_or, drop, map, refl, sym, ap, subst, inl, inr, arith}
use Rattle.std.proofs.lemmas.Bool.{and_from, and_parts, cases_Bool, false≢true, false_from_ne_true, lt-ltb, le-ltb}
use Rattle.std.proofs.lemmas.List.Elements.{All-cons, All-head, All-nil, All-tail}
use Rattle.std.proofs.lemmas.List.Folds.{list_all-map}
use Rattle.std.proofs.lemmas.List.Sums.{sum_by-drop_more}
use Rattle.std.proofs.lemmas.Map.Keys.{IsDistinct-head, IsDistinct-tail}
use Rattle.std.specs.Prelude.{◌||◌, ◌&&◌, if◌then◌else◌, nat_le, fold, not, Result, Ok, Err, String, Vec, All, filter, is_some, nat_lt, string_bytes, sum_by}
use Rattle.std.specs.declared.alloc.Global.{Global}
use Rattle.std.specs.FinMap.{get, get-from_entries, keys}
use Rattle.std.specs.Cmp.Lexicographic.{nat_list_cmp_total, texts_ties}
use Rattle.std.specs.List.{AllByRecursion, IsDistinct, list_all}
use Rattle.std.specs.Option.{ForSome, option_map}
use Rattle.std.specs.Str.{bytes_eq}
use Rattle.pl_base.specs.Answers.{◌>>=◌, because, unless}
use Rattle.pl_base.specs.Each.{each}
use Rattle.pl_base.specs.Files.{Files, file_entry, files_of}
use Rattle.pl_base.specs.Names.{has_name_length, is_name_byte, is_own_name, is_valid_name}
use Rattle.pl_base.proofs.AnswerLaws.{bind_ok, ok_same, unless_ok}
use Rattle.pl_base.proofs.FilesLaws.{same_name}
use Rattle.pl_cache.specs.Spelling.{cache_bytes, is_cache}
use Rattle.pl_cache.specs.declared.cache.Cache.{Cache}
use Rattle.pl_cache.proofs.CacheLaws.{read_again}
use Rattle.pl_folder.specs.Calls.{Takes}
use Rattle.pl_folder.specs.Disk.{same}
use Rattle.pl_folder.specs.Entries.{are_distinct}
use Rattle.pl_folder.specs.FileLists.{are_files, is_named}
use Rattle.pl_folder.specs.Seen.{Seen}
use Rattle.pl_folder.specs.Taken.{stored}
use Rattle.pl_folder.specs.declared.fault.FolderFault.TheVariants as folder_faults
use Rattle.pl_folder.specs.declared.TheConstants.{STORED}
use Rattle.pl_journal.specs.Meaning.{HasNoOwn}
use Rattle.pl_journal.proofs.RecoverParts.{looking}
use Rattle.pl_journal.specs.Names.{is_journal_name}
use Rattle.pl_journal.proofs.Done.{row_not_own}
use Rattle.pl_change.specs.Answers.{Finds, BatchMeansAlone}
use Rattle.pl_change.specs.Copied.{IsCopy, are_bulky, cache_entry, cache_there, copied, copied_by, kept}
use Rattle.pl_change.specs.Folder.{all_files, ascend, bad_cache, cache, cache_by, cache_file, cache_in, no_cache, valid_names}
use Rattle.pl_change.specs.Names.{are_many, file_of}
use Rattle.pl_change.specs.declared.cause.Cause.{Cause}
use Rattle.pl_change.specs.declared.cause.Cause.TheVariants.{BadCache, FolderTooLarge, TooManyFiles}
use Rattle.pl_change.specs.declared.fault.BatchFault.{BatchFault}
use Rattle.pl_change.specs.declared.fault.BatchFault.TheVariants.{NoMemory}
use Rattle.pl_change.specs.declared.fault.BatchFault.TheVariants as faults
use Rattle.pl_change.specs.declared.room.TheConstants.{FOLDER}
use Rattle.pl_change.proofs.CacheLemmas.{cache_large, cache_took, empty_spelled}
use Rattle.pl_change.proofs.CopyLemmas.{Copies, File, at, at_cache, bytes_in, bytes_of, copies_kept, name, names_of, valid_of}
use Rattle.pl_change.proofs.FindLemmas.{alone_stops, lacks_finds, other_means, passed, reads_on, refused, stops_finds, then_finds}
use Rattle.pl_change.proofs.UndoLemmas.{items, texts}
use Rattle.pl_change.proofs.OrderLemmas.{distinct_from, keys_ascend}

-- ---- how many bytes they have

abbrev size : File → ℕ
size file = length file.1.items

sum_is : (files : List File) → sum_by (λ (b : List ℕ). length b) (bytes_of files) ≡ sum_by size files
sum_is files = sum_from 0 files
  where
    sum_from : (a : ℕ) (files : List File) → fold (λ (s : ℕ) (b : List ℕ). s + length b) a (bytes_of files) ≡ fold (λ (s : ℕ) (f : File). s + size f) a files
    sum_from a [] = refl
    sum_from a (f ∷ fs) = sum_from (a + size f) fs

pub over : (left : ℕ) (files : List File) (i : ℕ) (file : File) → i < length files → file ≡ get_or files i file → left + sum_by size files ≡ FOLDER + sum_by size (drop i files) → left < length file.1.items → are_bulky (bytes_of files) ≡ true
unfolding are_bulky
over left files i file lt is left_is more =
    let here = sum_by-drop_more size files i file lt in
    let first : size (get_or files i file) ≡ size file = ap size (sym is) in
    lt-ltb FOLDER (sum_by (λ (b : List ℕ). length b) (bytes_of files)) (omega (arith, here, first, left_is, more, sum_is files))

pub within : (left : ℕ) (files : List File) → left + sum_by size files ≡ FOLDER → are_bulky (bytes_of files) ≡ false
unfolding are_bulky
within left files left_is = le-ltb FOLDER (sum_by (λ (b : List ℕ). length b) (bytes_of files)) (omega (arith, left_is, sum_is files))

-- ---- its steps

abbrev pub whole : Copies → Files
whole copies = files_of copies.items

abbrev pub cached : Option (Vec ℕ Global) → Option (List ℕ)
cached found = option_map (λ bytes. bytes.items) found

abbrev of_bytes : Files → List (List ℕ) → Result Files Cause
of_bytes files bytes = unless (are_bulky bytes) FolderTooLarge (Ok (kept files))

abbrev of_cache : Files → Option (List ℕ) → Result Files Cause
of_cache files found = all_files files (valid_names files) >>= of_bytes files

cache_is : (files : Files) (found : Option (List ℕ)) → cache_there files ≡ Ok found → found ≡ get files cache
cache_is files found is =
    let first = bind_ok (cache_file files) (λ old. cache_in old >>= λ slots. Ok (get files cache)) found is in
    let second = bind_ok (cache_in first.0) (λ slots. Ok (get files cache)) found first.2 in
    sym (ok_same (get files cache) found second.2)

-- ---- the cache

abbrev of_file : Files → List ℕ → Result (Option (List ℕ)) Cause
of_file files old = cache_in old >>= λ slots. Ok (get files cache)

file_there : (file : Option (List ℕ)) (bytes : List ℕ) → stored file ≡ Ok bytes → file ≡ Some bytes
file_there None bytes is = let no : ⊥ = cc in absurd no
file_there (Some found) bytes is = by (nat_le (length found) STORED) is
  where
    by : (small : Bool) → (if small then Ok found else Err folder_faults.TooLarge) ≡ Ok bytes → Some found ≡ Some bytes
    by true is = let same_bytes : found ≡ bytes = cc in ap (λ (b : List ℕ). Some b) same_bytes
    by false is = let no : ⊥ = cc in absurd no

none_there : (file : Option (List ℕ)) → stored file ≡ Err folder_faults.NotThere → file ≡ None
none_there None is = refl
none_there (Some found) is = by (nat_le (length found) STORED) is
  where
    by : (small : Bool) → (if small then Ok found else Err folder_faults.TooLarge) ≡ Err folder_faults.NotThere → Some found ≡ None
    by true is = let no : ⊥ = cc in absurd no
    by false is = let no : ⊥ = cc in absurd no

-- a folder without the file has an empty cache, which is in its grammar
empty_says : cache_in (cache_bytes no_cache) ≡ Ok no_cache
unfolding cache_in
empty_says = ap (because bad_cache) (read_again no_cache (empty_spelled [] refl))

module _ {a b : Seen} where
  pub misspelled_cache : (file : Vec ℕ Global) → Takes cache (Ok file) a b → (fault : BatchFault) → BatchMeansAlone (cache_in file.items) (Err fault) → Finds (cache_there a.files) cached (Err fault) a b
  misspelled_cache file takes fault alone = then_finds (cache_file a.files) items file of_file cached (Err fault) (cache_took file takes) (alone_stops (cache_in file.items) (λ slots. Ok (get b.files cache)) cached fault b alone)

  pub cache_copied : (file : Vec ℕ Global) → Takes cache (Ok file) a b → (slots : Cache) → cache_in file.items ≡ Ok slots → Finds (cache_there a.files) cached (Ok (Some file)) a b
  cache_copied file takes slots says =
      let found = cache_took file takes in
      record {
        means = λ t. ap (λ (m : Result (List ℕ) Cause). m >>= of_file a.files) (found.means t) ∙ ap (λ (m : Result Cache Cause). m >>= λ slots. Ok (get a.files cache)) says
            ∙ ap (λ (o : Option (List ℕ)). Ok o) (file_there (get a.files cache) file.items (takes.bytes t));
        calls = found.calls;
      }

  pub no_cache_copied : Takes cache (Err folder_faults.NotThere) a b → Finds (cache_there a.files) cached (Ok None) a b
  unfolding cache_file
  no_cache_copied takes = record {
    means = λ t.
        let none = none_there (get a.files cache) (takes.explained t) in
        ap (λ (o : Option (List ℕ)). cache_by o >>= of_file a.files) none ∙ ap (λ (m : Result Cache Cause). m >>= λ slots. Ok (get a.files cache)) empty_says
        ∙ ap (λ (o : Option (List ℕ)). Ok o) none;
    calls = looking refl takes.calls;
  }

  pub large_cache : Takes cache (Err folder_faults.TooLarge) a b → Finds (cache_there a.files) cached (Err (faults.Cause BadCache)) a b
  large_cache takes = stops_finds (cache_file a.files) items (of_file a.files) cached (faults.Cause BadCache) (cache_large takes)

abbrev of_names : Files → List (List ℕ) → Result Files Cause
of_names files ns = unless (are_many ns) TooManyFiles (copied_by files)

module _ {a b : Seen} where
  pub uncached : (fault : BatchFault) → Finds (cache_there a.files) cached (Err fault) a b → Finds (copied_by a.files) whole (Err fault) a b
  unfolding copied_by
  uncached fault found = stops_finds (cache_there a.files) cached (of_cache a.files) whole fault found

  module _ (found : Option (Vec ℕ Global)) (there : Finds (cache_there a.files) cached (Ok found) a b) where
    on : {c : Seen} (r : Result Copies BatchFault) → Finds (of_cache b.files (cached found)) whole r b c → Finds (copied_by a.files) whole r a c
    unfolding copied_by
    on r next = then_finds (cache_there a.files) cached found of_cache whole r there next

    module _ (ns : List (List ℕ)) (listed : a.tells ≡ true → ns ≡ keys a.files) where
      keys_are : b.tells ≡ true → ns ≡ keys b.files
      keys_are t =
          let told = sym there.calls.tells ∙ t in
          listed told ∙ ap keys (sym (there.calls.files told))

      renamed : {d : Seen} (r : Result Copies BatchFault) → Finds (all_files b.files (valid_of ns)) bytes_in r b d → Finds (all_files b.files (valid_names b.files)) bytes_in r b d
      renamed r next = record {
        means = other_means _ _ (all_files b.files (valid_names b.files)) (all_files b.files (valid_of ns)) bytes_in r (λ t. t) (λ t. ap (λ (ks : List (List ℕ)). all_files b.files (valid_of ks)) (sym (keys_are t))) next.means;
        calls = next.calls;
      }

      pub untaken : {d : Seen} (fault : BatchFault) → Finds (all_files b.files (valid_of ns)) bytes_in (Err fault) b d → Finds (copied_by a.files) whole (Err fault) a d
      untaken fault next = on (Err fault) (stops_finds (all_files b.files (valid_names b.files)) bytes_in (of_bytes b.files) whole fault (renamed (Err fault) next))

      module _ {d : Seen} (copies : Copies) (next : Finds (all_files b.files (valid_of ns)) bytes_in (Ok copies) b d) where
        pub bulky : are_bulky (bytes_of copies.items) ≡ true → Finds (copied_by a.files) whole (Err (faults.Cause FolderTooLarge)) a d
        bulky is = on (Err (faults.Cause FolderTooLarge)) (record {
          means = λ t. ap (λ (m : Result (List (List ℕ)) Cause). m >>= of_bytes b.files) ((renamed (Ok copies) next).means t) ∙ ap (λ (v : Bool). unless v FolderTooLarge (Ok (kept b.files))) is;
          calls = next.calls;
        })

        pub unkept : Finds (copied_by a.files) whole (Err NoMemory) a d
        unkept = lacks_finds (copied_by a.files) whole (reads_on there.calls next.calls)

        kept_are : (entries : Copies) → names_of copies.items ≡ valid_of ns → map file_entry entries.items ≡ map file_entry copies.items ++ cache_entry (cached found) → b.tells ≡ true → files_of entries.items ≡ kept b.files
        unfolding all_files
        kept_are entries named are t =
            let told = sym there.calls.tells ∙ t in
            copies_kept b.files copies.items entries.items (cached found) (named ∙ ap valid_of (keys_are t)) ((renamed (Ok copies) next).means t)
            (cache_is a.files (cached found) (there.means told) ∙ ap (λ (files : Files). get files cache) (sym (there.calls.files told))) are

        pub small : (entries : Copies) → are_bulky (bytes_of copies.items) ≡ false → names_of copies.items ≡ valid_of ns → map file_entry entries.items ≡ map file_entry copies.items ++ cache_entry (cached found) → Finds (copied_by a.files) whole (Ok entries) a d
        small entries is named are = on (Ok entries) (record {
          means = λ t. ap (λ (m : Result (List (List ℕ)) Cause). m >>= of_bytes b.files) ((renamed (Ok copies) next).means t)
              ∙ ap (λ (v : Bool). unless v FolderTooLarge (Ok (kept b.files))) is
              ∙ ap (λ (files : Files). Ok files) (sym (kept_are entries named are t));
          calls = next.calls;
        })

  -- ---- the names

  pub unlisted_copy : (fault : BatchFault) → Finds (Ok (keys a.files)) texts (Err fault) a b → Finds (copied a.files) whole (Err fault) a b
  unfolding copied
  unlisted_copy fault found = stops_finds (Ok (keys a.files)) texts (of_names a.files) whole fault found

  module _ (names : Vec (String Global) Global) (listed : Finds (Ok (keys a.files)) texts (Ok names) a b) where
    by_names : {c : Seen} (r : Result Copies BatchFault) → Finds (of_names b.files (texts names)) whole r b c → Finds (copied a.files) whole r a c
    unfolding copied
    by_names r found = then_finds (Ok (keys a.files)) texts names of_names whole r listed found

    keys_listed : a.tells ≡ true → keys a.files ≡ texts names
    keys_listed t = let e = listed.means t in cc

    pub names_listed : b.tells ≡ true → texts names ≡ keys b.files
    names_listed t =
        let told = sym listed.calls.tells ∙ t in
        sym (keys_listed told) ∙ ap keys (sym (listed.calls.files told))

    pub many : are_many (texts names) ≡ true → Finds (copied a.files) whole (Err (faults.Cause TooManyFiles)) a b
    many is = by_names (Err (faults.Cause TooManyFiles)) (refused (are_many (texts names)) TooManyFiles (copied_by b.files) whole b is)

    -- a folder that tells its files lists names that ascend
    pub mixed : ascend (texts names) ≡ false → Finds (copied a.files) whole (Err (faults.Cause TooManyFiles)) a b
    mixed is = record { means = λ t. absurd (false≢true (sym is ∙ sym (ap ascend (keys_listed t)) ∙ keys_ascend a.files)); calls = listed.calls }

    pub few : {c : Seen} (r : Result Copies BatchFault) → are_many (texts names) ≡ false → Finds (copied_by b.files) whole r b c → Finds (copied a.files) whole r a c
    few r is found = by_names r (passed (are_many (texts names)) TooManyFiles (copied_by b.files) whole r is found)

-- ---- what a copy is

abbrev AreValid : List (List ℕ) → Type 0
AreValid ks = AllByRecursion (λ k. is_valid_name k ≡ true) ks

all_valid : (ks : List (List ℕ)) → AreValid (valid_of ks)
all_valid [] = tt
all_valid (k ∷ ks) = by (is_valid_name k) refl (all_valid ks)
  where
    by : (valid : Bool) → is_valid_name k ≡ valid → AreValid (valid_of ks) → AreValid (cond valid (k ∷ valid_of ks) (valid_of ks))
    by true is rest = (is, rest)
    by false is rest = rest

-- a valid name is none of the journal's own, nor is the cache's
valid_other : (k : List ℕ) → is_valid_name k ≡ true → is_journal_name k ≡ false
valid_other k valid = row_not_own k (ap (λ (b : Bool). b || same k cache) valid)

cache_not_valid : false ≡ is_valid_name cache
unfolding is_valid_name is_name_byte is_own_name
cache_not_valid = refl

not_cache : (k : List ℕ) → is_valid_name k ≡ true → same k cache ≡ false
not_cache k valid = elim (cases_Bool (same k cache)) [
  | inl hit ↦ absurd (false≢true (cache_not_valid ∙ ap is_valid_name (sym (same_name k cache hit)) ∙ valid))
  | inr miss ↦ miss
]

has_length : (k : List ℕ) → is_valid_name k ≡ true → has_name_length k ≡ true
unfolding is_valid_name
has_length k valid = (and_parts (has_name_length k) _ (and_parts _ _ (and_parts _ _ valid).0).0).0

module _ (found : Option (List ℕ)) where
  -- a name that none of these files has is found in what follows them
  at_rest : (q : List ℕ) (copies : List File) → AllByRecursion (λ k. same q k ≡ false) (names_of copies) → at q (map file_entry copies ++ cache_entry found) ≡ at q (cache_entry found)
  at_rest q [] apart = refl
  at_rest q (c ∷ cs) apart = ap (λ (b : Bool). cond b (Some c.1.items) (at q (map file_entry cs ++ cache_entry found))) apart.0 ∙ at_rest q cs apart.1

  no_cache_at : (q : List ℕ) → same q cache ≡ false → at q (cache_entry found) ≡ None
  no_cache_at q miss = at_cache q found ∙ ap (λ (b : Bool). cond b found None) miss

  by_same : (k : List ℕ) (ks : List (List ℕ)) → AllByRecursion (λ y. bytes_eq k y ≡ false) ks → AllByRecursion (λ y. same k y ≡ false) ks
  by_same k [] apart = tt
  by_same k (y ∷ ys) apart = (sym (texts_ties k y) ∙ apart.0, by_same k ys apart.1)

  distinct_copies : (copies : List File) → IsDistinct bytes_eq (names_of copies) → AreValid (names_of copies) → are_distinct (map file_entry copies ++ cache_entry found) ≡ true
  distinct_copies [] distinct valid = by found
    where
      by : (o : Option (List ℕ)) → are_distinct (cache_entry o) ≡ true
      by None = refl
      by (Some bytes) = refl
  distinct_copies (c ∷ cs) distinct valid =
      ap (λ (o : Option (List ℕ)). not (is_some o) && are_distinct (map file_entry cs ++ cache_entry found)) (at_rest (name c) cs (by_same (name c) (names_of cs) (IsDistinct-head bytes_eq (name c) (names_of cs) distinct)) ∙ no_cache_at (name c) (not_cache (name c) valid.0))
      ∙ distinct_copies cs (IsDistinct-tail bytes_eq (name c) (names_of cs) distinct) valid.1

  named_copies : (copies : List File) → AreValid (names_of copies) → list_all (λ (e : List ℕ × List ℕ). has_name_length e.0) (map file_entry copies ++ cache_entry found) ≡ true
  named_copies [] valid = by found
    where
      by : (o : Option (List ℕ)) → list_all (λ (e : List ℕ × List ℕ). has_name_length e.0) (cache_entry o) ≡ true
      by None = refl
      by (Some bytes) = refl
  named_copies (c ∷ cs) valid = and_from (has_name_length (name c)) (list_all (λ (e : List ℕ × List ℕ). has_name_length e.0) (map file_entry cs ++ cache_entry found)) (has_length (name c) valid.0) (named_copies cs valid.1)

  -- none of the files has a name of the journal's own
  apart_from : (q : List ℕ) (ks : List (List ℕ)) → is_journal_name q ≡ true → AreValid ks → AllByRecursion (λ k. same q k ≡ false) ks
  apart_from q [] own valid = tt
  apart_from q (k ∷ ks) own valid = (
    elim (cases_Bool (same q k)) [
      | inl hit ↦ absurd (false≢true (sym (valid_other k valid.0) ∙ ap is_journal_name (sym (same_name q k hit)) ∙ own))
      | inr miss ↦ miss
    ],
    apart_from q ks own valid.1,
  )

  cache_not_own : false ≡ is_journal_name cache
  cache_not_own = refl

  own_not_cache : (q : List ℕ) → is_journal_name q ≡ true → same q cache ≡ false
  own_not_cache q own = elim (cases_Bool (same q cache)) [
    | inl hit ↦ absurd (false≢true (cache_not_own ∙ ap is_journal_name (sym (same_name q cache hit)) ∙ own))
    | inr miss ↦ miss
  ]

  no_own_at : (q : List ℕ) (copies : List File) → is_journal_name q ≡ true → AreValid (names_of copies) → at q (map file_entry copies ++ cache_entry found) ≡ None
  no_own_at q copies own valid = at_rest q copies (apart_from q (names_of copies) own valid) ∙ no_cache_at q (own_not_cache q own)

abbrev AreSmall : List (List ℕ × List ℕ) → Type 0
AreSmall es = AllByRecursion (λ (e : List ℕ × List ℕ). length e.1 ≤ STORED) es

small_entries : (files : List File) → All (λ (file : File). length file.1.items ≤ STORED) files → AreSmall (map file_entry files)
small_entries [] all = tt
small_entries (f ∷ fs) all = (All-head (λ (file : File). length file.1.items ≤ STORED) f fs all, small_entries fs (All-tail (λ (file : File). length file.1.items ≤ STORED) f fs all))

small_files : (files : List File) → AreSmall (map file_entry files) → All (λ (file : File). length file.1.items ≤ STORED) files
small_files [] small = All-nil (λ (file : File). length file.1.items ≤ STORED)
small_files (f ∷ fs) small = All-cons (λ (file : File). length file.1.items ≤ STORED) f fs small.0 (small_files fs small.1)

small_on : (es fs : List (List ℕ × List ℕ)) → AreSmall es → AreSmall fs → AreSmall (es ++ fs)
small_on [] fs small more = more
small_on (e ∷ es) fs small more = (small.0, small_on es fs small.1 more)

small_cache : (found : Option (Vec ℕ Global)) → ForSome found (λ bytes. length bytes.items ≤ STORED) → AreSmall (cache_entry (cached found))
small_cache None stored = tt
small_cache (Some bytes) stored = (stored bytes refl, tt)

pub is_copy : (copies entries : Copies) (found : Option (Vec ℕ Global)) (ns : List (List ℕ)) → names_of copies.items ≡ valid_of ns → ascend ns ≡ true → map file_entry entries.items ≡ map file_entry copies.items ++ cache_entry (cached found)
    → All (λ (file : File). length file.1.items ≤ STORED) copies.items → ForSome found (λ bytes. length bytes.items ≤ STORED) → IsCopy entries.items
is_copy copies entries found ns named rise are stored small =
    let valid : AreValid (names_of copies.items) = subst AreValid (sym named) (all_valid ns) in
    let distinct : IsDistinct bytes_eq (names_of copies.items) = subst (IsDistinct bytes_eq) (sym named) (distinct_from is_valid_name ns rise) in
    let found_as = cached found in
    record {
      files_are = and_from (list_all is_named entries.items) (are_distinct (map file_entry entries.items))
          (sym (list_all-map (λ (e : List ℕ × List ℕ). has_name_length e.0) file_entry entries.items) ∙ ap (list_all (λ (e : List ℕ × List ℕ). has_name_length e.0)) are ∙ named_copies found_as copies.items valid)
          (ap are_distinct are ∙ distinct_copies found_as copies.items distinct valid);
      no_own = λ q own. get-from_entries nat_list_cmp_total (map file_entry entries.items) q ∙ ap (at q) are ∙ no_own_at found_as q copies.items own valid;
      stored = small_files entries.items (subst AreSmall (sym are) (small_on (map file_entry copies.items) (cache_entry found_as) (small_entries copies.items stored) (small_cache found small)));
    }
