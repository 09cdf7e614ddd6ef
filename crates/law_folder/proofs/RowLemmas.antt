-- What each row of a command is.
use Rattle.std.proofs.Common.{◌≡◌, ℕ, Bool, true, false, List, [], ◌∷◌, ◌++◌, Option, Some, None, Result, Ok, Err, refl, sym, ap, subst, ◌∙◌}
use Rattle.std.specs.Prelude.{not, length, nat_le, if◌then◌else◌}
use Rattle.std.specs.FinMap.{get, keys}
use Rattle.std.specs.List.{AllByRecursion}
use Rattle.std.specs.Option.{IfSome, option_map}
use Rattle.pl_base.specs.Answers.{◌>>=◌, unless}
use Rattle.pl_base.specs.Each.{run}
use Rattle.pl_base.specs.Files.{Files}
use Rattle.pl_base.specs.Names.{is_valid_name}
use Rattle.pl_base.proofs.AnswerLaws.{bind_ok, ok_same, refuse_ok, unless_ok}
use Rattle.pl_conflict.specs.Format.{mark_in, mark_of}
use Rattle.pl_conflict.proofs.FormatLaws.{format_kept}
use Rattle.pl_folder.specs.declared.TheConstants.{STORED}
use Rattle.pl_form.specs.Files.{file_by, file_in, marked_in, original_or_file, original_in}
use Rattle.pl_form.specs.Marks.{as_file, has_mark}
use Rattle.pl_form.specs.declared.fault.FileFault.{FileFault}
use Rattle.pl_form.specs.declared.fault.FileFault.TheVariants as file_faults
use Rattle.pl_form.specs.declared.file.File.{File}
use Rattle.pl_form.specs.declared.file.File.TheVariants.{Plain}
use Rattle.pl_form.specs.declared.file.File.TheVariants as files
use Rattle.pl_form.specs.declared.file.Marked.{Marked}
use Rattle.pl_journal.specs.Meaning.{rows_for}
use Rattle.pl_journal.specs.Spelling.{are_rows}
use Rattle.pl_journal.specs.declared.change.Change.{Change}
use Rattle.pl_journal.specs.declared.change.Change.TheVariants.{Put, Drop}
use Rattle.pl_object.specs.Reads.{reads}
use Rattle.pl_object.specs.declared.object.Object.{Object}
use Rattle.pl_object.specs.declared.refusal.Refusal.{Refusal}
use Rattle.pl_change.specs.Changes.{fitting}
use Rattle.pl_change.specs.Names.{are_many, file_of, has_name, is_full, of_file}
use Rattle.pl_change.specs.Store.{installed, put, removed, stored_as}
use Rattle.pl_change.specs.Undo.{added, all_pass, all_undone, asked_row, form_row, if_asked, if_valid, rows_of, undo_any, undo_asked, undone, with_row}
use Rattle.pl_change.specs.declared.cause.Cause.{Cause}
use Rattle.pl_change.specs.declared.cause.Cause.TheVariants as causes
use Rattle.pl_rewrite.specs.Skipped.{skip_causes}
use Rattle.law_sound.specs.Rule.{Mark}

-- ---- files

-- what is read of a file, and whether it is a form
by_reading : (bytes : List ℕ) (r : Result Object Refusal) (m : Marked) → as_file r ≡ Ok (files.Marked m) → ⊥
by_reading bytes (Ok x) m is = absurd cc
by_reading bytes (Err refusal) m is = absurd cc

marked_same : (m k : Marked) → ◌≡◌ {A = Result File FileFault} (Ok (files.Marked m)) (Ok (files.Marked k)) → m ≡ k
marked_same m k is = cc

marked_by : (bytes : List ℕ) (o : Option Marked) (m : Marked) → file_by bytes o ≡ Ok (files.Marked m) → o ≡ Some m
marked_by bytes None m is = absurd (by_reading bytes (reads bytes) m (unless_ok (has_mark bytes) file_faults.BadMark (as_file (reads bytes)) (files.Marked m) is).1)
marked_by bytes (Some k) m is = ap (λ (x : Marked). Some x) (marked_same k m is)

-- a file that is read as a prelinked one has its original
pub marked_original : (bytes : List ℕ) (m : Marked) → file_in bytes ≡ Ok (files.Marked m) → original_in bytes ≡ m.original
unfolding file_in original_in
marked_original bytes m is = ap (original_or_file bytes) (marked_by bytes (marked_in bytes) m is)

-- an original has no mark, and is its own original
pub original_bare : (bytes : List ℕ) → mark_in (original_in bytes) ≡ None
original_bare bytes = (format_kept skip_causes).bare bytes

unmarked_by : (bytes : List ℕ) (o : Option Marked) → ((m : Marked) → file_by bytes o ≡ Ok (files.Marked m) → ⊥) → original_or_file bytes o ≡ bytes
unmarked_by bytes None none = refl
unmarked_by bytes (Some m) none = absurd (none m refl)

-- any file but a prelinked one is its own original
unmarked : (bytes : List ℕ) → ((m : Marked) → file_in bytes ≡ Ok (files.Marked m) → ⊥) → original_in bytes ≡ bytes
unfolding file_in original_in
unmarked bytes none = unmarked_by bytes (marked_in bytes) none

bare_by : (bytes : List ℕ) (o : Option Marked) → marked_in bytes ≡ o → mark_in bytes ≡ None → original_or_file bytes o ≡ bytes
unfolding mark_in
bare_by bytes None is bare = refl
bare_by bytes (Some m) is bare = absurd (differ m (sym (ap (option_map mark_of) is) ∙ bare))
  where
    differ : (m : Marked) → ◌≡◌ {A = Option Mark} (Some (mark_of m)) None → ⊥
    differ m is = cc

pub bare_original : (bytes : List ℕ) → mark_in bytes ≡ None → original_in bytes ≡ bytes
unfolding original_in
bare_original bytes bare = bare_by bytes (marked_in bytes) refl bare

-- ---- undoing

-- a property of changes has this of a file that is undone
abbrev pub OfUndone : (Change → Type 0) → Files → Type 0
OfUndone P fs = (name bytes : List ℕ) (m : Marked) → is_valid_name name ≡ true → get fs name ≡ Some bytes → file_in bytes ≡ Ok (files.Marked m) → P (Put name m.original)

stored_same : (b : Bool) (name bytes old : List ℕ) → (if b then Ok old else Err (causes.FileTooLarge name)) ≡ Ok bytes → ◌≡◌ {A = Option (List ℕ)} (Some old) (Some bytes)
stored_same true name bytes old is = ap (λ (x : List ℕ). Some x) (ok_same old bytes is)
stored_same false name bytes old is = absurd cc

file_there : (o : Option (List ℕ)) (name bytes : List ℕ) → of_file name o ≡ Ok bytes → o ≡ Some bytes
file_there None name bytes is = absurd cc
file_there (Some old) name bytes is = stored_same (nat_le (length old) STORED) name bytes old is

found : (fs : Files) (name bytes : List ℕ) → file_of fs name ≡ Ok bytes → get fs name ≡ Some bytes
unfolding file_of
found fs name bytes is = file_there (get fs name) name bytes is

module _ (P : Change → Type 0) where
  added_all : (rows : List Change) (o : Option Change) → AllByRecursion P rows → IfSome o P → AllByRecursion P (added rows o)
  added_all rows None all more = all
  added_all rows (Some row) all more = last rows all
    where
      last : (xs : List Change) → AllByRecursion P xs → AllByRecursion P (xs ++ row ∷ [])
      last [] all = (more, tt)
      last (x ∷ xs) all = (all.0, last xs all.1)

  run_all : (f : List ℕ → Result (Option Change) Cause) → ((name : List ℕ) (o : Option Change) → f name ≡ Ok o → IfSome o P) → (names : List (List ℕ)) (rows out : List Change) → AllByRecursion P rows → run (with_row f) rows names ≡ Ok out → AllByRecursion P out
  unfolding run
  run_all f each [] rows out all is = subst (AllByRecursion P) (ok_same rows out is) all
  run_all f each (name ∷ names) rows out all is =
      let a = bind_ok (with_row f rows name) (λ t. run (with_row f) t names) out is in
      let b = bind_ok (f name) (λ more. Ok (added rows more)) a.0 a.1 in
      run_all f each names a.0 out (subst (AllByRecursion P) (ok_same (added rows b.0) a.0 b.2) (added_all rows b.0 all (each name b.0 b.1))) a.2

  rows_all : (f : List ℕ → Result (Option Change) Cause) → ((name : List ℕ) (o : Option Change) → f name ≡ Ok o → IfSome o P) → (names : List (List ℕ)) (out : List Change) → rows_of f names ≡ Ok out → AllByRecursion P out
  unfolding rows_of
  rows_all f each names out is = run_all f each names [] out tt is

  module _ (fs : Files) (undone_has : OfUndone P fs) where
    form_has : (name bytes : List ℕ) (r : Result File FileFault) → is_valid_name name ≡ true → get fs name ≡ Some bytes → file_in bytes ≡ r → IfSome (form_row name r) P
    form_has name bytes (Ok (Plain x)) valid there is = tt
    form_has name bytes (Ok (files.Marked m)) valid there is = undone_has name bytes m valid there is
    form_has name bytes (Err fault) valid there is = tt

    asked_has : (name bytes : List ℕ) (r : Result File FileFault) (o : Option Change) → is_valid_name name ≡ true → get fs name ≡ Some bytes → file_in bytes ≡ r → asked_row name r ≡ Ok o → IfSome o P
    asked_has name bytes (Ok file) o valid there read is = subst (λ (x : Option Change). IfSome x P) (ok_same (form_row name (Ok file)) o is) (form_has name bytes (Ok file) valid there read)
    asked_has name bytes (Err file_faults.BadMark) o valid there read is = absurd cc
    asked_has name bytes (Err (file_faults.Refused refusal)) o valid there read is = subst (λ (x : Option Change). IfSome x P) (ok_same None o is) tt

    any_each : (name : List ℕ) (o : Option Change) → is_valid_name name ≡ true → undo_any fs name ≡ Ok o → IfSome o P
    unfolding undo_any
    any_each name o valid is =
        let a = bind_ok (file_of fs name) (λ bytes. Ok (form_row name (file_in bytes))) o is in
        subst (λ (x : Option Change). IfSome x P) (ok_same (form_row name (file_in a.0)) o a.2) (form_has name a.0 (file_in a.0) valid (found fs name a.0 a.1) refl)

    asked_each : (name : List ℕ) (o : Option Change) → undo_asked fs name ≡ Ok o → IfSome o P
    unfolding undo_asked
    asked_each name o is =
        let valid = refuse_ok (is_valid_name name) causes.BadName (file_of fs name >>= λ bytes. asked_row name (file_in bytes)) o is in
        let a = bind_ok (file_of fs name) (λ bytes. asked_row name (file_in bytes)) o valid.1 in
        asked_has name a.0 (file_in a.0) o valid.0 (found fs name a.0 a.1) refl a.2

    none_has : (o : Option Change) → ◌≡◌ {A = Result (Option Change) Cause} (Ok None) (Ok o) → IfSome o P
    none_has o is = subst (λ (x : Option Change). IfSome x P) (ok_same None o is) tt

    valid_by : (b : Bool) (name : List ℕ) (o : Option Change) → is_valid_name name ≡ b → (if b then undo_any fs name else Ok None) ≡ Ok o → IfSome o P
    valid_by true name o valid is = any_each name o valid is
    valid_by false name o valid is = none_has o is

    listed_by : (b : Bool) (name : List ℕ) (o : Option Change) → (if b then undo_asked fs name else Ok None) ≡ Ok o → IfSome o P
    listed_by true name o is = asked_each name o is
    listed_by false name o is = none_has o is

    pub all_undone_has : (rows : List Change) → all_undone fs ≡ Ok rows → AllByRecursion P rows
    unfolding all_undone
    all_undone_has rows is = rows_all (if_valid fs) (λ name o made. valid_by (is_valid_name name) name o refl made) (keys fs) rows (unless_ok (are_many (keys fs)) causes.TooManyFiles (rows_of (if_valid fs) (keys fs)) rows is).1

    pub undone_rows_have : (names : List (List ℕ)) (rows : List Change) → undone fs names ≡ Ok rows → AllByRecursion P rows
    unfolding undone
    undone_rows_have names rows is =
        let few = unless_ok (are_many (keys fs)) causes.TooManyFiles (all_pass (undo_asked fs) names >>= λ u. rows_of (if_asked names fs) (keys fs)) rows is in
        let pass = bind_ok (all_pass (undo_asked fs) names) (λ u. rows_of (if_asked names fs) (keys fs)) rows few.1 in
        rows_all (if_asked names fs) (λ name o made. listed_by (has_name name names) name o made) (keys fs) rows pass.2

-- ---- storing and removing

-- what is stored has no mark, and is the original of the bytes
stored_original : (name bytes kept : List ℕ) (r : Result File FileFault) → file_in bytes ≡ r → stored_as name bytes r ≡ Ok kept → kept ≡ original_in bytes
stored_original name bytes kept (Ok (Plain x)) read is = sym (ok_same bytes kept is) ∙ sym (unmarked bytes (λ m marked. plain_not x m (sym read ∙ marked)))
  where
    plain_not : (x : Object) (m : Marked) → ◌≡◌ {A = Result File FileFault} (Ok (Plain x)) (Ok (files.Marked m)) → ⊥
    plain_not x m is = cc
stored_original name bytes kept (Ok (files.Marked m)) read is = sym (ok_same m.original kept is) ∙ sym (marked_original bytes m read)
stored_original name bytes kept (Err file_faults.BadMark) read is = absurd cc
stored_original name bytes kept (Err (file_faults.Refused refusal)) read is = sym (ok_same bytes kept is) ∙ sym (unmarked bytes (λ m marked. fault_not refusal m (sym read ∙ marked)))
  where
    fault_not : (refusal : Refusal) (m : Marked) → ◌≡◌ {A = Result File FileFault} (Err (file_faults.Refused refusal)) (Ok (files.Marked m)) → ⊥
    fault_not refusal m is = cc

-- the rows of an installation: the name is valid, and gets its original where it has other bytes
pub installed_is : (fs : Files) (name bytes : List ℕ) (rows : List Change) → installed fs name bytes ≡ Ok rows → (is_valid_name name ≡ true) × (rows ≡ put fs name (original_in bytes))
unfolding installed
installed_is fs name bytes rows is =
    let valid = refuse_ok (is_valid_name name) causes.BadName (stored_as name bytes (file_in bytes) >>= λ original. unless (is_full (keys fs) name) causes.TooManyFiles (Ok (put fs name original))) rows is in
    let a = bind_ok (stored_as name bytes (file_in bytes)) (λ original. unless (is_full (keys fs) name) causes.TooManyFiles (Ok (put fs name original))) rows valid.1 in
    let room = unless_ok (is_full (keys fs) name) causes.TooManyFiles (Ok (put fs name a.0)) rows a.2 in
    (valid.0, sym (ok_same (put fs name a.0) rows room.1) ∙ ap (put fs name) (stored_original name bytes a.0 (file_in bytes) refl a.1))

pub removed_is : (fs : Files) (name : List ℕ) (rows : List Change) → removed fs name ≡ Ok rows → (is_valid_name name ≡ true) × (rows ≡ Drop name ∷ [])
unfolding removed
removed_is fs name rows is =
    let valid = refuse_ok (is_valid_name name) causes.BadName (unless (not (has_name name (keys fs))) (causes.NotThere name) (Ok (Drop name ∷ []))) rows is in
    let there = unless_ok (not (has_name name (keys fs))) (causes.NotThere name) (Ok (Drop name ∷ [])) rows valid.1 in
    (valid.0, sym (ok_same (Drop name ∷ []) rows there.1))

-- ---- commands

-- the rows are those that are found, and a journal can have them
pub fitted : (r : Result (List Change) Cause) (rows : List Change) → (r >>= fitting) ≡ Ok rows → (r ≡ Ok rows) × (are_rows (rows_for rows) ≡ true)
fitted r rows is =
    let a = bind_ok r fitting rows is in
    let b = refuse_ok (are_rows (rows_for a.0)) causes.TooManyFiles (Ok a.0) rows a.2 in
    let same : a.0 ≡ rows = ok_same a.0 rows b.1 in
    (a.1 ∙ ap (λ (xs : List Change). Ok xs) same, subst (λ (xs : List Change). are_rows (rows_for xs) ≡ true) same b.0)
