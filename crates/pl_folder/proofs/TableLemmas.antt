-- The files of a folder in memory: what a look-up finds, and what a file that is put in or taken out makes.
use Rattle.std.proofs.Common.{◌≡◌, ℕ, zero, suc, ◌+◌, ◌<◌, List, [], ◌∷◌, ◌++◌, map, length, take, drop, get_or, cond, Bool, true, false, not, Option, Some, None, refl, sym, ap, subst, ◌∙◌, arith, inl, inr}
use Rattle.std.specs.Prelude.{is_some, is_ok, unwrap_or, position, Result, Ok, Err, OnOk, OnErr, if◌then◌else◌}
use Rattle.std.specs.List.{remove, position_from}
use Rattle.std.specs.Str.{bytes_eq}
use Rattle.std.specs.Ordering.{nat_cmp}
use Rattle.std.specs.Cmp.{eq_by_cmp_equiv}
use Rattle.std.specs.Cmp.Lexicographic.{slice_cmp, texts_ties, nat_list_cmp_total, bytes_decides}
use Rattle.std.specs.FinMap.{get, insert, from_entries, get-remove, get-from_entries, from_entries_push, slice_cmp-IsAntisymmetric, nat_cmp-IsAntisymmetric}
use Rattle.std.specs.FinMap as finite
use Rattle.std.specs.FinMap.Entries.{find, find-append}
use Rattle.std.proofs.lemmas.Bool.{and_parts, cases_Bool, false≢true}
use Rattle.std.proofs.lemmas.List.{take_more, append-nil, map-append, take-map, drop-map, get_or-map}
use Rattle.std.proofs.lemmas.List.Quantifiers.{position-Some}
use Rattle.std.proofs.lemmas.Iterator.Adapters.{position_from-zero}
use Rattle.pl_base.specs.Files.{Files}
use Rattle.pl_base.proofs.FilesLaws.{same, same_name, equal_files, insert-removed, insert_same}
use Rattle.pl_folder.specs.declared.file.File.{File}
use Rattle.pl_folder.specs.Entries.{name_bytes, entry_of, entries_of, are_distinct}
use Rattle.pl_folder.specs.Effects.{files_after_append, files_after_rename}

abbrev pub Entry : Type 0
Entry = List ℕ × List ℕ

abbrev pub at : List ℕ → List Entry → Option (List ℕ)
at q es = find (slice_cmp nat_cmp) q es

same_sym : (q k : List ℕ) → same q k ≡ same k q
same_sym q k = (eq_by_cmp_equiv nat_list_cmp_total).symm q k

-- that a look-up finds nothing
is_none : (o : Option (List ℕ)) → not (is_some o) ≡ true → o ≡ None
is_none None e = refl
is_none (Some x) e = absurd (false≢true e)

is_not_some : (o : Option (List ℕ)) → o ≡ None → not (is_some o) ≡ true
is_not_some o e = rw e refl

-- a name that is not found is no entry's
absent_at : (es : List Entry) (q : List ℕ) (i : ℕ) (d : Entry) → at q es ≡ None → i < length es → same q (get_or es i d).0 ≡ false
absent_at [] q i d none within = absurd (omega (arith, within))
absent_at (e ∷ es) q zero d none within = elim (cases_Bool (same q e.0)) [
  | inl hit ↦ absurd (false≢true (ap (λ (o : Option (List ℕ)). is_some o) (sym none ∙ ap (λ b. cond b (Some e.1) (at q es)) hit)))
  | inr miss ↦ miss
]
absent_at (e ∷ es) q (suc i) d none within = elim (cases_Bool (same q e.0)) [
  | inl hit ↦ absurd (false≢true (ap (λ (o : Option (List ℕ)). is_some o) (sym none ∙ ap (λ b. cond b (Some e.1) (at q es)) hit)))
  | inr miss ↦ absent_at es q i d (ap (λ b. cond b (Some e.1) (at q es)) (sym miss) ∙ none) (omega (arith, within))
]

-- an entry less: nothing else changes
pub find_without : (es : List Entry) (i : ℕ) (d : Entry) → are_distinct es ≡ true → i < length es → (q : List ℕ) → at q (remove es i) ≡ cond (same q (get_or es i d).0) None (at q es)
find_without [] i d distinct within q = absurd (omega (arith, within))
find_without (e ∷ es) zero d distinct within q =
    let parts = and_parts (not (is_some (at e.0 es))) (are_distinct es) distinct in
    elim (cases_Bool (same q e.0)) [
      | inl hit ↦
          let none : at q es ≡ None = ap (λ k. at k es) (same_name q e.0 hit) ∙ is_none (at e.0 es) parts.0 in
          none ∙ sym (ap (λ b. cond b None (at q (e ∷ es))) hit)
      | inr miss ↦ sym (ap (λ b. cond b None (cond b (Some e.1) (at q es))) miss)
    ]
find_without (e ∷ es) (suc i) d distinct within q =
    let parts = and_parts (not (is_some (at e.0 es))) (are_distinct es) distinct in
    let inside : i < length es = omega (arith, within) in
    let k = (get_or es i d).0 in
    let rest : at q (remove es i) ≡ cond (same q k) None (at q es) = find_without es i d parts.1 inside q in
    elim (cases_Bool (same q e.0)) [
      | inl hit ↦
          let other : same q k ≡ false = ap (λ n. same n k) (same_name q e.0 hit) ∙ absent_at es e.0 i d (is_none (at e.0 es) parts.0) inside in
          ap (λ b. cond b (Some e.1) (at q (remove es i))) hit ∙ sym (ap (λ b. cond b None (at q (e ∷ es))) other ∙ ap (λ b. cond b (Some e.1) (at q es)) hit)
      | inr miss ↦ ap (λ b. cond b (Some e.1) (at q (remove es i))) miss ∙ rest ∙ ap (λ o. cond (same q k) None o) (sym (ap (λ b. cond b (Some e.1) (at q es)) miss))
    ]

either_none : (b : Bool) (o : Option (List ℕ)) → o ≡ None → cond b None o ≡ None
either_none true o e = refl
either_none false o e = e

pub distinct_without : (es : List Entry) (i : ℕ) → are_distinct es ≡ true → i < length es → are_distinct (remove es i) ≡ true
distinct_without [] i distinct within = absurd (omega (arith, within))
distinct_without (e ∷ es) zero distinct within = (and_parts (not (is_some (at e.0 es))) (are_distinct es) distinct).1
distinct_without (e ∷ es) (suc i) distinct within =
    let parts = and_parts (not (is_some (at e.0 es))) (are_distinct es) distinct in
    let inside : i < length es = omega (arith, within) in
    let none : at e.0 (remove es i) ≡ None = find_without es i e parts.1 inside e.0 ∙ either_none _ _ (is_none (at e.0 es) parts.0) in
    rw (is_not_some (at e.0 (remove es i)) none) (distinct_without es i parts.1 inside)

-- an entry more, of a name that is not there
pub distinct_push : (es : List Entry) (k v : List ℕ) → are_distinct es ≡ true → at k es ≡ None → are_distinct (es ++ (k, v) ∷ []) ≡ true
distinct_push [] k v distinct new = refl
distinct_push (e ∷ es) k v distinct new =
    let parts = and_parts (not (is_some (at e.0 es))) (are_distinct es) distinct in
    let differs : same k e.0 ≡ false = absent_at (e ∷ es) k 0 e new (omega arith) in
    let rest : at k es ≡ None = ap (λ b. cond b (Some e.1) (at k es)) (sym differs) ∙ new in
    let gone : at e.0 es ≡ None = is_none (at e.0 es) parts.0 in
    let none : at e.0 (es ++ (k, v) ∷ []) ≡ None = find-append (slice_cmp nat_cmp) nat_list_cmp_total es k v e.0 rest ∙ ap (λ b. cond b (Some v) (at e.0 es)) (same_sym e.0 k ∙ differs) ∙ gone in
    rw (is_not_some (at e.0 (es ++ (k, v) ∷ [])) none) (distinct_push es k v parts.1 rest)

-- ---- a look-up by the first index of a name

abbrev pub named : List ℕ → File → Bool
named name file = bytes_eq name (name_bytes file.name)

none_after : (files : List File) (name : List ℕ) (k : ℕ) → position_from (named name) k files ≡ None → at name (entries_of files) ≡ None
none_after [] name k none = refl
none_after (file ∷ files) name k none = elim (cases_Bool (named name file)) [
  | inl hit ↦ absurd (false≢true (ap (λ (o : Option ℕ). is_some o) (sym none ∙ ap (λ b. cond b (Some k) (position_from (named name) (k + 1) files)) hit)))
  | inr miss ↦
      let rest : position_from (named name) (k + 1) files ≡ None = ap (λ b. cond b (Some k) (position_from (named name) (k + 1) files)) (sym miss) ∙ none in
      ap (λ b. cond b (Some file.bytes.items) (at name (entries_of files))) (sym (texts_ties name (name_bytes file.name)) ∙ miss) ∙ none_after files name (k + 1) rest
]

pub missed : (files : List File) (name : List ℕ) → position (named name) files ≡ None → at name (entries_of files) ≡ None
missed files name none = none_after files name 0 (sym (position_from-zero (named name) files) ∙ none)

first_at : (files : List File) (name : List ℕ) (i : ℕ) (d : File) → i < length files → named name (get_or files i d) ≡ true → ((k : ℕ) → k < i → named name (get_or files k d) ≡ false) → at name (entries_of files) ≡ Some (get_or files i d).bytes.items
first_at [] name i d within hit before = absurd (omega (arith, within))
first_at (file ∷ files) name zero d within hit before =
    ap (λ b. cond b (Some file.bytes.items) (at name (entries_of files))) (sym (texts_ties name (name_bytes file.name)) ∙ hit)
first_at (file ∷ files) name (suc i) d within hit before =
    ap (λ b. cond b (Some file.bytes.items) (at name (entries_of files))) (sym (texts_ties name (name_bytes file.name)) ∙ before 0 (omega arith))
    ∙ first_at files name i d (omega (arith, within)) hit (λ k lt. before (suc k) (omega (arith, lt)))

pub record FoundAt (files : List File) (name : List ℕ) (i : ℕ) (d : File) : Type 0 where
  pub within : i < length files
  pub name_is : name_bytes (get_or files i d).name ≡ name
  pub bytes_are : at name (entries_of files) ≡ Some (get_or files i d).bytes.items

pub found_at : (files : List File) (name : List ℕ) (i : ℕ) (d : File) → position (named name) files ≡ Some i → FoundAt files name i d
found_at files name i d is =
    let h = position-Some (named name) files i d is in
    record {
      within = h.0;
      name_is = sym ((bytes_decides name (name_bytes (get_or files i d).name)).0 h.1);
      bytes_are = first_at files name i d h.0 h.1 h.2;
    }

-- ---- the files as a finite map

abbrev pub files_in : List File → Files
files_in files = from_entries (entries_of files)

pub get-files_in : (files : List File) (name : List ℕ) → get (files_in files) name ≡ at name (entries_of files)
get-files_in files name = get-from_entries nat_list_cmp_total (entries_of files) name

length-entries : (files : List File) → length (entries_of files) ≡ length files
length-entries [] = refl
length-entries (file ∷ files) = ap suc (length-entries files)

entries_without : (files : List File) (i : ℕ) → entries_of (remove files i) ≡ remove (entries_of files) i
entries_without files i = map-append entry_of (take i files) (drop (suc i) files) ∙ ap (λ xs. xs ++ map entry_of (drop (suc i) files)) (sym (take-map entry_of i files)) ∙ ap (λ ys. take i (entries_of files) ++ ys) (sym (drop-map entry_of (suc i) files))

-- a file that is taken out
pub distinct_files_without : (files : List File) (i : ℕ) → are_distinct (entries_of files) ≡ true → i < length files → are_distinct (entries_of (remove files i)) ≡ true
distinct_files_without files i distinct within = ap are_distinct (entries_without files i) ∙ distinct_without (entries_of files) i distinct (subst (λ n. i < n) (sym (length-entries files)) within)

pub taken_out : (files : List File) (name : List ℕ) (i : ℕ) (d : File) → are_distinct (entries_of files) ≡ true → FoundAt files name i d → files_in (remove files i) ≡ finite.remove (files_in files) name
taken_out files name i d distinct found = equal_files _ _ (λ q.
    get-files_in (remove files i) q
    ∙ ap (at q) (entries_without files i)
    ∙ find_without (entries_of files) i (entry_of d) distinct (subst (λ n. i < n) (sym (length-entries files)) found.within) q
    ∙ ap (λ (e : Entry). cond (same q e.0) None (at q (entries_of files))) (get_or-map entry_of files i d (entry_of d) found.within)
    ∙ ap (λ n. cond (same q n) None (at q (entries_of files))) found.name_is
    ∙ ap (λ o. cond (same q name) None o) (sym (get-files_in files q))
    ∙ sym (get-remove nat_list_cmp_total (files_in files) name q))

-- a file that is put in
pub put_in : (files : List File) (file : File) → get (files_in files) (name_bytes file.name) ≡ None → files_in (files ++ file ∷ []) ≡ insert (files_in files) (name_bytes file.name) file.bytes.items
put_in files file new =
    ap (λ (es : List Entry). from_entries es) (map-append entry_of files (file ∷ []))
    ∙ from_entries_push nat_list_cmp_total (slice_cmp-IsAntisymmetric nat_cmp-IsAntisymmetric) (entries_of files) (name_bytes file.name) file.bytes.items (sym (get-files_in files (name_bytes file.name)) ∙ new)

pub distinct_files_push : (files : List File) (file : File) → are_distinct (entries_of files) ≡ true → get (files_in files) (name_bytes file.name) ≡ None → are_distinct (entries_of (files ++ file ∷ [])) ≡ true
distinct_files_push files file distinct new =
    ap are_distinct (map-append entry_of files (file ∷ []))
    ∙ distinct_push (entries_of files) (name_bytes file.name) file.bytes.items distinct (sym (get-files_in files (name_bytes file.name)) ∙ new)

-- ---- the calls

-- a file of a name moved to another, in place of the one that had it
pub moved : (files : Files) (from to bytes : List ℕ) → get files from ≡ Some bytes → insert (finite.remove (finite.remove files from) to) to bytes ≡ files_after_rename files from to
moved files from to bytes is =
    insert-removed (finite.remove files from) to bytes
    ∙ ap (λ (o : Option (List ℕ)). insert (finite.remove files from) to (unwrap_or o [])) (sym is)

-- bytes more at the end of a file
pub grown : (files : Files) (name bytes more : List ℕ) → get files name ≡ Some bytes → insert (finite.remove files name) name (bytes ++ more) ≡ files_after_append files name more
grown files name bytes more is =
    insert-removed files name (bytes ++ more)
    ∙ ap (λ (o : Option (List ℕ)). insert files name (unwrap_or o [] ++ more)) (sym is)

-- no bytes more
pub none_more : (files : Files) (name bytes : List ℕ) → is_some (get files name) ≡ true → files_after_append files name (take 0 bytes) ≡ files
none_more files name bytes there = by_case (get files name) refl there
  where
    by_case : (o : Option (List ℕ)) → get files name ≡ o → is_some o ≡ true → files_after_append files name (take 0 bytes) ≡ files
    by_case None is there = absurd (false≢true there)
    by_case (Some old) is there =
        ap (λ (o : Option (List ℕ)). insert files name (unwrap_or o [] ++ [])) is
        ∙ ap (λ (xs : List ℕ). insert files name xs) (append-nil old)
        ∙ insert_same files name old is

-- a vector that was to grow, and did or did not
pub extended : {T E : Type 0} (r : Result T E) (old more new : List ℕ) → new ≡ (if is_ok r then old ++ more else old) → OnOk r (new ≡ old ++ more) × OnErr r (new ≡ old)
extended (Ok x) old more new is = (is, tt)
extended (Err e) old more new is = (tt, is)

-- a copy more of the files of a table
pub file_more : (files : List File) (i : ℕ) (d : File) (copies : List File) (copy : File) → i < length files → name_bytes copy.name ≡ name_bytes (get_or files i d).name → copy.bytes.items ≡ (get_or files i d).bytes.items
    → entries_of copies ≡ entries_of (take i files) → entries_of (copies ++ copy ∷ []) ≡ entries_of (take (i + 1) files)
file_more files i d copies copy within name_is bytes_are so_far =
    map-append entry_of copies (copy ∷ [])
    ∙ ap (λ (es : List Entry). es ++ entry_of copy ∷ []) so_far
    ∙ ap (λ (name : List ℕ). entries_of (take i files) ++ (name, copy.bytes.items) ∷ []) name_is
    ∙ ap (λ (bytes : List ℕ). entries_of (take i files) ++ (name_bytes (get_or files i d).name, bytes) ∷ []) bytes_are
    ∙ sym (ap entries_of (take_more files i d within) ∙ map-append entry_of (take i files) (get_or files i d ∷ []))
