-- What undoing one name comes to.
use Rattle.std.proofs.Common.{◌≡◌, ℕ, List, Bool, true, false, Option, None, ap}
use Rattle.std.specs.Prelude.{Result, Ok, Err, Vec, not, if◌then◌else◌, map, String, string_bytes}
use Rattle.std.specs.declared.alloc.Global.{Global}
use Rattle.std.specs.FinMap.{keys}
use Rattle.pl_base.specs.Answers.{◌>>=◌, unless}
use Rattle.pl_base.specs.Files.{Files}
use Rattle.pl_base.specs.Names.{is_valid_name}
use Rattle.pl_folder.specs.Seen.{Seen}
use Rattle.pl_form.specs.Files.{file_in}
use Rattle.pl_journal.specs.declared.change.Change.{Change}
use Rattle.pl_change.specs.Answers.{Finds, BatchMeansAlone}
use Rattle.pl_change.specs.Names.{are_many, file_of}
use Rattle.pl_change.specs.Undo.{all_pass, all_undone, asked_row, form_row, if_asked, if_valid, rows_of, undo_any, undo_asked, undone}
use Rattle.pl_change.specs.declared.cause.Cause.{Cause}
use Rattle.pl_change.specs.declared.cause.Cause.TheVariants as causes
use Rattle.pl_change.specs.declared.fault.BatchFault.{BatchFault}
use Rattle.pl_change.specs.declared.fault.BatchFault.TheVariants as faults
use Rattle.pl_change.proofs.FindLemmas.{no_asking, passed, refused, same_found, stops_finds, then_alone, then_finds}

abbrev Row : Type 0
Row = Option Change

abbrev pub row : Row → Row
row r = r

abbrev pub rows : List Change → List Change
rows rs = rs

abbrev pub items : Vec ℕ Global → List ℕ
items bytes = bytes.items

abbrev pub texts : Vec (String Global) Global → List (List ℕ)
texts names = map string_bytes names.items

abbrev asked_of : List ℕ → List ℕ → Result Row Cause
asked_of name bytes = asked_row name (file_in bytes)

abbrev any_of : List ℕ → List ℕ → Result Row Cause
any_of name bytes = Ok (form_row name (file_in bytes))

module _ (name : List ℕ) where
  pub bad_name : (a : Seen) → is_valid_name name ≡ false → Finds (undo_asked a.files name) row (Err (faults.Cause causes.BadName)) a a
  unfolding undo_asked
  bad_name a invalid = refused (not (is_valid_name name)) causes.BadName (file_of a.files name >>= asked_of name) row a (ap not invalid)

  module _ {a b : Seen} where
    pub asked_untaken : (fault : BatchFault) → is_valid_name name ≡ true → Finds (file_of a.files name) items (Err fault) a b → Finds (undo_asked a.files name) row (Err fault) a b
    unfolding undo_asked
    asked_untaken fault valid found = passed (not (is_valid_name name)) causes.BadName (file_of a.files name >>= asked_of name) row (Err fault) (ap not valid) (stops_finds (file_of a.files name) items (asked_of name) row fault found)

    pub asked_taken : (bytes : Vec ℕ Global) (r : Result Row BatchFault) → is_valid_name name ≡ true → Finds (file_of a.files name) items (Ok bytes) a b → BatchMeansAlone (asked_row name (file_in bytes.items)) r → Finds (undo_asked a.files name) row r a b
    unfolding undo_asked
    asked_taken bytes r valid found alone = passed (not (is_valid_name name)) causes.BadName (file_of a.files name >>= asked_of name) row r (ap not valid) (then_alone (file_of a.files name) items bytes (asked_of name) r found alone)

    pub any_untaken : (fault : BatchFault) → Finds (file_of a.files name) items (Err fault) a b → Finds (undo_any a.files name) row (Err fault) a b
    unfolding undo_any
    any_untaken fault found = stops_finds (file_of a.files name) items (any_of name) row fault found

    pub any_taken : (bytes : Vec ℕ Global) (r : Result Row BatchFault) → Finds (file_of a.files name) items (Ok bytes) a b → BatchMeansAlone (Ok (form_row name (file_in bytes.items))) r → Finds (undo_any a.files name) row r a b
    unfolding undo_any
    any_taken bytes r found alone = then_alone (file_of a.files name) items bytes (any_of name) r found alone

    pub is_valid : (r : Result Row BatchFault) → is_valid_name name ≡ true → Finds (undo_any a.files name) row r a b → Finds (if_valid a.files name) row r a b
    is_valid r valid found = same_found (if_valid a.files name) (undo_any a.files name) row r (ap (λ (b : Bool). if b then undo_any a.files name else Ok None) valid) found

  pub not_valid : (a : Seen) → is_valid_name name ≡ false → Finds (if_valid a.files name) row (Ok None) a a
  not_valid a invalid = record { means = λ t. ap (λ (b : Bool). if b then undo_any a.files name else Ok None) invalid; calls = no_asking a }

-- ---- whole commands

abbrev pub those : List (List ℕ) → Files → Result (List Change) Cause
those asked files = all_pass (undo_asked files) asked >>= λ u. rows_of (if_asked asked files) (keys files)

abbrev undone_of : List (List ℕ) → Files → List (List ℕ) → Result (List Change) Cause
undone_of asked files names = unless (are_many names) causes.TooManyFiles (all_pass (undo_asked files) asked >>= λ u. rows_of (if_asked asked files) names)

abbrev all_of : Files → List (List ℕ) → Result (List Change) Cause
all_of files names = unless (are_many names) causes.TooManyFiles (rows_of (if_valid files) names)

module _ (asked : List (List ℕ)) {a b : Seen} where
  pub undone_unlisted : (fault : BatchFault) → Finds (Ok (keys a.files)) texts (Err fault) a b → Finds (undone a.files asked) rows (Err fault) a b
  unfolding undone
  undone_unlisted fault found = stops_finds (Ok (keys a.files)) texts (undone_of asked a.files) rows fault found

  module _ (names : Vec (String Global) Global) (listed : Finds (Ok (keys a.files)) texts (Ok names) a b) where
    pub undone_listed : {c : Seen} (r : Result (List Change) BatchFault) → Finds (undone_of asked b.files (texts names)) rows r b c → Finds (undone a.files asked) rows r a c
    unfolding undone
    undone_listed r found = then_finds (Ok (keys a.files)) texts names (undone_of asked) rows r listed found

    pub undone_many : are_many (texts names) ≡ true → Finds (undone a.files asked) rows (Err (faults.Cause causes.TooManyFiles)) a b
    undone_many many = undone_listed (Err (faults.Cause causes.TooManyFiles)) (refused (are_many (texts names)) causes.TooManyFiles (all_pass (undo_asked b.files) asked >>= λ u. rows_of (if_asked asked b.files) (texts names)) rows b many)

    module _ (few : are_many (texts names) ≡ false) {c : Seen} where
      pub undone_stops : (fault : BatchFault) → Finds (all_pass (undo_asked b.files) asked) (λ (u : Unit {0}). u) (Err fault) b c → Finds (undone a.files asked) rows (Err fault) a c
      undone_stops fault found = undone_listed (Err fault) (passed (are_many (texts names)) causes.TooManyFiles (all_pass (undo_asked b.files) asked >>= λ u. rows_of (if_asked asked b.files) (texts names)) rows (Err fault) few
          (stops_finds (all_pass (undo_asked b.files) asked) (λ (u : Unit {0}). u) (λ u. rows_of (if_asked asked b.files) (texts names)) rows fault found))

      pub undone_rows : {d : Seen} (r : Result (List Change) BatchFault) → Finds (all_pass (undo_asked b.files) asked) (λ (u : Unit {0}). u) (Ok tt) b c → Finds (rows_of (if_asked asked c.files) (texts names)) rows r c d → Finds (undone a.files asked) rows r a d
      undone_rows r pass found = undone_listed r (passed (are_many (texts names)) causes.TooManyFiles (all_pass (undo_asked b.files) asked >>= λ u. rows_of (if_asked asked b.files) (texts names)) rows r few
          (then_finds (all_pass (undo_asked b.files) asked) (λ (u : Unit {0}). u) tt (λ (f : Files) (u : Unit {0}). rows_of (if_asked asked f) (texts names)) rows r pass found))

module _ {a b : Seen} where
  pub all_unlisted : (fault : BatchFault) → Finds (Ok (keys a.files)) texts (Err fault) a b → Finds (all_undone a.files) rows (Err fault) a b
  unfolding all_undone
  all_unlisted fault found = stops_finds (Ok (keys a.files)) texts (all_of a.files) rows fault found

  module _ (names : Vec (String Global) Global) (listed : Finds (Ok (keys a.files)) texts (Ok names) a b) where
    all_listed : {c : Seen} (r : Result (List Change) BatchFault) → Finds (all_of b.files (texts names)) rows r b c → Finds (all_undone a.files) rows r a c
    unfolding all_undone
    all_listed r found = then_finds (Ok (keys a.files)) texts names all_of rows r listed found

    pub all_many : are_many (texts names) ≡ true → Finds (all_undone a.files) rows (Err (faults.Cause causes.TooManyFiles)) a b
    all_many many = all_listed (Err (faults.Cause causes.TooManyFiles)) (refused (are_many (texts names)) causes.TooManyFiles (rows_of (if_valid b.files) (texts names)) rows b many)

    pub all_rows : {c : Seen} (r : Result (List Change) BatchFault) → are_many (texts names) ≡ false → Finds (rows_of (if_valid b.files) (texts names)) rows r b c → Finds (all_undone a.files) rows r a c
    all_rows r few found = all_listed r (passed (are_many (texts names)) causes.TooManyFiles (rows_of (if_valid b.files) (texts names)) rows r few found)
