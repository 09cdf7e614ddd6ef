-- What replacing the file of a name by what is made of its original comes to.
use Rattle.std.proofs.Common.{◌≡◌, ◌<◌, ◌^◌, ℕ, List, length, Bool, true, false, Option, Some, None, refl, sym, ◌∙◌, ap, subst}
use Rattle.std.specs.Prelude.{Result, Ok, Err, Vec, not}
use Rattle.std.specs.declared.alloc.Global.{Global}
use Rattle.std.specs.FinMap.{get}
use Rattle.pl_base.specs.Answers.{◌>>=◌, unless}
use Rattle.pl_base.specs.Files.{Files}
use Rattle.pl_base.specs.Names.{is_valid_name}
use Rattle.pl_base.proofs.AnswerLaws.{ok_same}
use Rattle.pl_folder.specs.Calls.{Calls}
use Rattle.pl_folder.specs.Seen.{Seen, Done}
use Rattle.pl_form.specs.Files.{file_by, file_in, marked_in}
use Rattle.pl_form.specs.Marks.{as_file, has_mark}
use Rattle.pl_form.specs.declared.fault.FileFault.TheVariants as file_faults
use Rattle.pl_form.specs.declared.file.Marked.{Marked}
use Rattle.pl_form.proofs.FilesLaws.{nothing_else_is_read}
use Rattle.pl_journal.specs.Parts.{Looking}
use Rattle.pl_journal.specs.declared.change.Change.{Change}
use Rattle.pl_object.specs.Reads.{reads}
use Rattle.pl_object.specs.declared.object.Object.{Object}
use Rattle.pl_object.specs.declared.refusal.Refusal.{Refusal}
use Rattle.pl_place.specs.Policy.{Choice}
use Rattle.pl_change.specs.Answers.{Finds, BatchMeansAlone, fault_ending}
use Rattle.pl_change.specs.Changes.{fitting}
use Rattle.pl_change.specs.Commands.{Made, Meaning}
use Rattle.pl_change.specs.Names.{file_of}
use Rattle.pl_change.specs.Replace.{IsAlone, TellsAddress, address_of, fixed_as, fixed_of, original_of, put_fitting, replacement_of}
use Rattle.pl_change.specs.Starts.{Starts}
use Rattle.pl_change.specs.Store.{put, stored_as}
use Rattle.pl_change.specs.declared.cause.Cause.{Cause}
use Rattle.pl_change.specs.declared.cause.Cause.TheVariants as causes
use Rattle.pl_change.specs.declared.fault.BatchFault.{BatchFault}
use Rattle.pl_change.specs.declared.fault.BatchFault.TheVariants.{DiskFailed, NoMemory}
use Rattle.pl_change.specs.declared.fault.BatchFault.TheVariants as faults
use Rattle.pl_change.specs.declared.fixing.FixedFile.{FixedFile}
use Rattle.pl_change.specs.declared.fixing.FixMade.{FixMade}
use Rattle.pl_change.proofs.FindLemmas.{alone_stops, lacks, passed, refused, same_found, stops_finds, then_alone, then_finds}
use Rattle.pl_change.proofs.StartLemmas.{before_is}
use Rattle.pl_change.proofs.UndoLemmas.{items, rows}

abbrev pub as_bytes : List ℕ → List ℕ
as_bytes bytes = bytes

-- ---- the original of a name's file

-- it is a file's size
pub original_small : (name bytes original : List ℕ) → length bytes < 2 ^ 32 → stored_as name bytes (file_in bytes) ≡ Ok original → length original < 2 ^ 32
unfolding file_in
original_small name bytes original few is = by_mark (marked_in bytes) refl is
  where
    plain : (b : Bool) (r : Result Object Refusal) → stored_as name bytes (unless b file_faults.BadMark (as_file r)) ≡ Ok original → length original < 2 ^ 32
    plain true r h = absurd cc
    plain false (Ok x) h = subst (λ (o : List ℕ). length o < 2 ^ 32) (ok_same bytes original h) few
    plain false (Err refusal) h = subst (λ (o : List ℕ). length o < 2 ^ 32) (ok_same bytes original h) few

    by_mark : (m : Option Marked) → marked_in bytes ≡ m → stored_as name bytes (file_by bytes m) ≡ Ok original → length original < 2 ^ 32
    by_mark None e h = plain (has_mark bytes) (reads bytes) h
    by_mark (Some m) e h = subst (λ (o : List ℕ). length o < 2 ^ 32) (ok_same m.original original h) (nothing_else_is_read bytes m e).firm.few

module _ (name : List ℕ) where
  abbrev stored_of : List ℕ → Result (List ℕ) Cause
  stored_of bytes = stored_as name bytes (file_in bytes)

  pub original_bad : (a : Seen) → is_valid_name name ≡ false → Finds (original_of a.files name) as_bytes (Err (faults.Cause causes.BadName)) a a
  unfolding original_of
  original_bad a invalid = refused (not (is_valid_name name)) causes.BadName (file_of a.files name >>= stored_of) as_bytes a (ap not invalid)

  module _ {a b : Seen} where
    pub original_untaken : (fault : BatchFault) → is_valid_name name ≡ true → Finds (file_of a.files name) items (Err fault) a b → Finds (original_of a.files name) as_bytes (Err fault) a b
    unfolding original_of
    original_untaken fault valid found = passed (not (is_valid_name name)) causes.BadName (file_of a.files name >>= stored_of) as_bytes (Err fault) (ap not valid) (stops_finds (file_of a.files name) items stored_of as_bytes fault found)

    pub original_taken : (file : Vec ℕ Global) (r : Result (List ℕ) BatchFault) → is_valid_name name ≡ true → Finds (file_of a.files name) items (Ok file) a b → BatchMeansAlone (stored_as name file.items (file_in file.items)) r → Finds (original_of a.files name) as_bytes r a b
    unfolding original_of
    original_taken file r valid found alone = passed (not (is_valid_name name)) causes.BadName (file_of a.files name >>= stored_of) as_bytes r (ap not valid) (then_alone (file_of a.files name) items file stored_of r found alone)

-- ---- what is made of it

module _ (make : List ℕ → Result (List ℕ) Cause) (name : List ℕ) where
  abbrev put_of : Files → List ℕ → Result (List Change) Cause
  put_of files bytes = put_fitting files name bytes

  abbrev made_of : Files → List ℕ → Result (List Change) Cause
  made_of files original = make original >>= put_of files

  module _ {a b : Seen} where
    pub no_original : (fault : BatchFault) → Finds (original_of a.files name) as_bytes (Err fault) a b → Finds (replacement_of make a.files name) rows (Err fault) a b
    unfolding replacement_of
    no_original fault found = stops_finds (original_of a.files name) as_bytes (made_of a.files) rows fault found

    module _ (original : List ℕ) (found : Finds (original_of a.files name) as_bytes (Ok original) a b) where
      goes_on : {c : Seen} (r : Result (List Change) BatchFault) → Finds (made_of b.files original) rows r b c → Finds (replacement_of make a.files name) rows r a c
      unfolding replacement_of
      goes_on r next = then_finds (original_of a.files name) as_bytes original made_of rows r found next

      -- nothing is made of it
      pub unmade : (fault : BatchFault) → BatchMeansAlone (make original) (Err fault) → Finds (replacement_of make a.files name) rows (Err fault) a b
      unmade fault alone = goes_on (Err fault) (alone_stops (make original) (put_of b.files) rows fault b alone)

      -- it is put
      pub made_put : (bytes : List ℕ) → make original ≡ Ok bytes → {c : Seen} (r : Result (List Change) BatchFault) → Finds (put_fitting b.files name bytes) rows r b c → Finds (replacement_of make a.files name) rows r a c
      made_put bytes is r next = goes_on r (same_found (made_of b.files original) (put_of b.files bytes) rows r (ap (λ (m : Result (List ℕ) Cause). m >>= put_of b.files) is) next)

-- ---- the row

module _ (name bytes : List ℕ) {a b : Seen} where
  pub unput : (fault : BatchFault) → Finds (Ok (put a.files name bytes)) rows (Err fault) a b → Finds (put_fitting a.files name bytes) rows (Err fault) a b
  unput fault found = stops_finds (Ok (put a.files name bytes)) rows fitting rows fault found

  pub put_fits : (found : List Change) (r : Result (List Change) BatchFault) → Finds (Ok (put a.files name bytes)) rows (Ok found) a b → BatchMeansAlone (fitting found) r → Finds (put_fitting a.files name bytes) rows r a b
  put_fits found r put_it alone = then_alone (Ok (put a.files name bytes)) rows found fitting r put_it alone

-- ---- fixing

-- a fault of no folder leaves what was looked at
pub still : (fault : BatchFault) {a b : Seen} → IsAlone fault → Calls Done Looking a b → Calls (fault_ending fault) Looking a b
still DiskFailed alone call = absurd alone
still NoMemory alone call = lacks call
still (faults.Cause cause) alone call = call

abbrev bytes_in : FixedFile → Result (List ℕ) Cause
bytes_in fixed = Ok fixed.bytes

abbrev address_in : FixedFile → Result ℕ Cause
address_in fixed = Ok fixed.address

module _ (choose : Choice) (name original : List ℕ) where
  pub not_fixed : (fault : BatchFault) → BatchMeansAlone (fixed_of choose name original) (Err fault) → BatchMeansAlone (fixed_as choose name original) (Err fault)
  unfolding fixed_as
  not_fixed DiskFailed alone = absurd alone
  not_fixed NoMemory alone = tt
  not_fixed (faults.Cause cause) alone = ap (λ (m : Result FixedFile Cause). m >>= bytes_in) alone

  module _ (fixed : FixedFile) (is : fixed_of choose name original ≡ Ok fixed) where
    pub is_fixed : fixed_as choose name original ≡ Ok fixed.bytes
    unfolding fixed_as
    is_fixed = ap (λ (m : Result FixedFile Cause). m >>= bytes_in) is

    pub told_address : (files : Files) → original_of files name ≡ Ok original → address_of choose files name ≡ Ok fixed.address
    unfolding address_of
    told_address files there = ap (λ (m : Result (List ℕ) Cause). m >>= λ o. fixed_of choose name o >>= address_in) there ∙ ap (λ (m : Result FixedFile Cause). m >>= address_in) is

abbrev pub rows_in : FixMade → List Change
rows_in made = made.rows

module _ {meant : Result (List Change) Cause} {a b : Seen} where
  pub by_made : (made : FixMade) → Finds meant rows (Ok made.rows) a b → Finds meant rows_in (Ok made) a b
  by_made made found = record { means = found.means; calls = found.calls }

  pub by_made_err : (fault : BatchFault) → Finds meant rows (Err fault) a b → Finds meant rows_in (Err fault) a b
  by_made_err fault found = record { means = found.means; calls = found.calls }

  pub of_made : (made : FixMade) → Finds meant rows_in (Ok made) a b → Finds meant rows (Ok made.rows) a b
  of_made made found = record { means = found.means; calls = found.calls }

  pub of_made_err : (fault : BatchFault) → Finds meant rows_in (Err fault) a b → Finds meant rows (Err fault) a b
  of_made_err fault found = record { means = found.means; calls = found.calls }

-- what is told of the recovered files is of those that the folder stood for
pub tells : (choose : Choice) (name : List ℕ) (first : Meaning Cause) {a b : Seen} (at : ℕ) → Calls Done (Starts first Made) a b → (b.tells ≡ true → address_of choose b.files name ≡ Ok at) → TellsAddress choose name at a
tells choose name first {a = a} {b = b} at start is told before stands =
    ap (λ (f : Files). address_of choose f name) (before_is (get a.files) before b.files stands (start.files told).0.2) ∙ is (start.tells ∙ told)
