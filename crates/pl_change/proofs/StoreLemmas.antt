-- What storing a file and removing one come to.
use Rattle.std.proofs.Common.{◌≡◌, ℕ, List, [], ◌∷◌, Bool, true, false, sym, ◌∙◌, ap}
use Rattle.std.specs.Prelude.{Result, Ok, Err, Vec, not, if◌then◌else◌, String}
use Rattle.std.specs.declared.alloc.Global.{Global}
use Rattle.std.specs.FinMap.{keys}
use Rattle.pl_base.specs.Answers.{◌>>=◌, unless}
use Rattle.pl_base.specs.Files.{Files}
use Rattle.pl_base.specs.Names.{is_valid_name}
use Rattle.pl_folder.specs.Seen.{Seen}
use Rattle.pl_folder.specs.Taken.{taken}
use Rattle.pl_form.specs.Files.{file_in}
use Rattle.pl_journal.specs.declared.change.Change.{Change}
use Rattle.pl_journal.specs.declared.change.Change.TheVariants.{Drop, Put}
use Rattle.pl_change.specs.Answers.{Finds, BatchMeansAlone}
use Rattle.pl_change.specs.Names.{has_name, is_full}
use Rattle.pl_change.specs.Store.{installed, is_file, put, removed, stored_as}
use Rattle.pl_change.specs.declared.cause.Cause.{Cause}
use Rattle.pl_change.specs.declared.cause.Cause.TheVariants as causes
use Rattle.pl_change.specs.declared.fault.BatchFault.{BatchFault}
use Rattle.pl_change.specs.declared.fault.BatchFault.TheVariants.{NoMemory}
use Rattle.pl_change.specs.declared.fault.BatchFault.TheVariants as faults
use Rattle.pl_change.proofs.FindLemmas.{alone_stops, lacks_finds, passed, refused, same_found, stops_finds, then_alone, then_finds}
use Rattle.pl_change.proofs.UndoLemmas.{rows, texts}

abbrev pub has_it : Bool → Bool
has_it has = has

-- ---- one row

abbrev rows_from : List ℕ → List ℕ → Bool → Result (List Change) Cause
rows_from name bytes has = Ok (if has then [] else Put name bytes ∷ [])

module _ (name bytes : List ℕ) {a b : Seen} where
  pub put_stops : (fault : BatchFault) → Finds (Ok (is_file (taken a.files name) bytes)) has_it (Err fault) a b → Finds (Ok (put a.files name bytes)) rows (Err fault) a b
  put_stops fault found = stops_finds (Ok (is_file (taken a.files name) bytes)) has_it (rows_from name bytes) rows fault found

  module _ (has : Bool) (found : Finds (Ok (is_file (taken a.files name) bytes)) has_it (Ok has) a b) where
    pub put_none : (none : List Change) → none ≡ [] → has ≡ true → Finds (Ok (put a.files name bytes)) rows (Ok none) a b
    put_none none is has_is = then_alone (Ok (is_file (taken a.files name) bytes)) has_it has (rows_from name bytes) (Ok none) found (ap (rows_from name bytes) has_is ∙ ap Ok (sym is))

    pub put_one : (one : List Change) → one ≡ Put name bytes ∷ [] → has ≡ false → Finds (Ok (put a.files name bytes)) rows (Ok one) a b
    put_one one is has_is = then_alone (Ok (is_file (taken a.files name) bytes)) has_it has (rows_from name bytes) (Ok one) found (ap (rows_from name bytes) has_is ∙ ap Ok (sym is))

    pub put_lacks : Finds (Ok (put a.files name bytes)) rows (Err NoMemory) a b
    put_lacks = lacks_finds (Ok (put a.files name bytes)) rows found.calls

-- ---- a file that is stored

module _ (name bytes : List ℕ) where
  abbrev placed : List ℕ → Files → List (List ℕ) → Result (List Change) Cause
  placed original files names = unless (is_full names name) causes.TooManyFiles (Ok (put files name original))

  abbrev place : Files → List ℕ → Result (List Change) Cause
  place files original = placed original files (keys files)

  pub not_valid : (a : Seen) → is_valid_name name ≡ false → Finds (installed a.files name bytes) rows (Err (faults.Cause causes.BadName)) a a
  unfolding installed
  not_valid a invalid = refused (not (is_valid_name name)) causes.BadName (stored_as name bytes (file_in bytes) >>= place a.files) rows a (ap not invalid)

  module _ (valid : is_valid_name name ≡ true) where
    stored : {a c : Seen} (r : Result (List Change) BatchFault) → Finds (stored_as name bytes (file_in bytes) >>= place a.files) rows r a c → Finds (installed a.files name bytes) rows r a c
    unfolding installed
    stored {a = a} r found = passed (not (is_valid_name name)) causes.BadName (stored_as name bytes (file_in bytes) >>= place a.files) rows r (ap not valid) found

    pub unstored : (a : Seen) (fault : BatchFault) → BatchMeansAlone (stored_as name bytes (file_in bytes)) (Err fault) → Finds (installed a.files name bytes) rows (Err fault) a a
    unstored a fault alone = stored (Err fault) (alone_stops (stored_as name bytes (file_in bytes)) (place a.files) rows fault a alone)

    module _ (original : List ℕ) (is : stored_as name bytes (file_in bytes) ≡ Ok original) {a : Seen} where
      placing : {c : Seen} (r : Result (List Change) BatchFault) → Finds (placed original a.files (keys a.files)) rows r a c → Finds (installed a.files name bytes) rows r a c
      placing r found = stored r (same_found (stored_as name bytes (file_in bytes) >>= place a.files) (place a.files original) rows r (ap (λ (m : Result (List ℕ) Cause). m >>= place a.files) is) found)

      pub store_unlisted : {b : Seen} (fault : BatchFault) → Finds (Ok (keys a.files)) texts (Err fault) a b → Finds (installed a.files name bytes) rows (Err fault) a b
      store_unlisted fault found = placing (Err fault) (stops_finds (Ok (keys a.files)) texts (placed original a.files) rows fault found)

      module _ {b : Seen} (names : Vec (String Global) Global) (listed : Finds (Ok (keys a.files)) texts (Ok names) a b) where
        pub store_full : is_full (texts names) name ≡ true → Finds (installed a.files name bytes) rows (Err (faults.Cause causes.TooManyFiles)) a b
        store_full full = placing (Err (faults.Cause causes.TooManyFiles)) (then_finds (Ok (keys a.files)) texts names (placed original) rows (Err (faults.Cause causes.TooManyFiles)) listed
            (refused (is_full (texts names) name) causes.TooManyFiles (Ok (put b.files name original)) rows b full))

        pub store_put : {c : Seen} (r : Result (List Change) BatchFault) → is_full (texts names) name ≡ false → Finds (Ok (put b.files name original)) rows r b c → Finds (installed a.files name bytes) rows r a c
        store_put r room found = placing r (then_finds (Ok (keys a.files)) texts names (placed original) rows r listed
            (passed (is_full (texts names) name) causes.TooManyFiles (Ok (put b.files name original)) rows r room found))

-- ---- a file that is removed

module _ (name : List ℕ) where
  abbrev gone : Files → List (List ℕ) → Result (List Change) Cause
  gone files names = unless (not (has_name name names)) (causes.NotThere name) (Ok (Drop name ∷ []))

  pub remove_invalid : (a : Seen) → is_valid_name name ≡ false → Finds (removed a.files name) rows (Err (faults.Cause causes.BadName)) a a
  unfolding removed
  remove_invalid a invalid = refused (not (is_valid_name name)) causes.BadName (gone a.files (keys a.files)) rows a (ap not invalid)

  module _ (valid : is_valid_name name ≡ true) {a : Seen} where
    removing : {c : Seen} (r : Result (List Change) BatchFault) → Finds (gone a.files (keys a.files)) rows r a c → Finds (removed a.files name) rows r a c
    unfolding removed
    removing r found = passed (not (is_valid_name name)) causes.BadName (gone a.files (keys a.files)) rows r (ap not valid) found

    pub remove_unlisted : {b : Seen} (fault : BatchFault) → Finds (Ok (keys a.files)) texts (Err fault) a b → Finds (removed a.files name) rows (Err fault) a b
    remove_unlisted fault found = removing (Err fault) (stops_finds (Ok (keys a.files)) texts (gone a.files) rows fault found)

    module _ {b : Seen} (names : Vec (String Global) Global) (listed : Finds (Ok (keys a.files)) texts (Ok names) a b) where
      removing_of : (r : Result (List Change) BatchFault) → BatchMeansAlone (gone b.files (texts names)) r → Finds (removed a.files name) rows r a b
      removing_of r alone = removing r (then_alone (Ok (keys a.files)) texts names (gone a.files) r listed alone)

      pub remove_absent : has_name name (texts names) ≡ false → Finds (removed a.files name) rows (Err (faults.Cause (causes.NotThere name))) a b
      remove_absent has = removing_of (Err (faults.Cause (causes.NotThere name))) (ap (λ (b : Bool). unless (not b) (causes.NotThere name) (Ok (Drop name ∷ []))) has)

      pub remove_one : (one : List Change) → one ≡ Drop name ∷ [] → has_name name (texts names) ≡ true → Finds (removed a.files name) rows (Ok one) a b
      remove_one one is has = removing_of (Ok one) (ap (λ (b : Bool). unless (not b) (causes.NotThere name) (Ok (Drop name ∷ []))) has ∙ ap Ok (sym is))

      pub remove_lacks : Finds (removed a.files name) rows (Err NoMemory) a b
      remove_lacks = lacks_finds (removed a.files name) rows listed.calls
