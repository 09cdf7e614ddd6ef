-- What is found under one name.
use Rattle.std.proofs.Common.{◌≡◌, ◌≢◌, ℕ, List, length, Bool, true, false, Option, Some, None, refl, sym, ap, ◌∙◌, ⊎_elim, inl, inr, arith}
use Rattle.std.specs.Prelude.{Result, Ok, Err, Vec, nat_lt, nat_le, if◌then◌else◌}
use Rattle.std.specs.declared.alloc.Global.{Global}
use Rattle.std.specs.FinMap.{get}
use Rattle.std.proofs.lemmas.Bool.{cases_Bool, false≢true}
use Rattle.std.proofs.lemmas.Bool.Decides.{nat_tests}
use Rattle.pl_base.specs.Answers.{unless}
use Rattle.pl_base.specs.Files.{Files}
use Rattle.pl_base.specs.Names.{is_valid_name}
use Rattle.pl_folder.specs.Calls.{Calls, Takes}
use Rattle.pl_folder.specs.Disk.{waited}
use Rattle.pl_folder.specs.Effects.{Asks, Idles}
use Rattle.pl_folder.specs.Seen.{Seen, Done, Broken, Undone}
use Rattle.pl_folder.specs.Taken.{taken, stored}
use Rattle.pl_folder.specs.declared.TheConstants.{STORED}
use Rattle.pl_folder.specs.declared.fault.FolderFault.{FolderFault}
use Rattle.pl_folder.specs.declared.fault.FolderFault.TheVariants as folder_faults
use Rattle.pl_loader.specs.declared.fault.LoadFault.TheVariants.{NotThere}
use Rattle.pl_texts.specs.declared.cause.Cause.{Cause}
use Rattle.pl_texts.specs.declared.cause.Cause.TheVariants as causes
use Rattle.pl_texts.specs.declared.stop.Stop.TheVariants as stops
use Rattle.pl_texts.specs.Finds.{HasTaken}
use Rattle.pl_texts.specs.Files.{of_file, file_in}
use Rattle.pl_texts.specs.Stops.{of_take}
use Rattle.pl_texts.proofs.CallLemmas.{as_calls}
use Rattle.pl_texts.proofs.LookLemmas.{lacks_early, no_call, one_if_not, one_if_so, one_if_valid}

-- ---- one file

of_valid : (files : Files) (name : List ℕ) → is_valid_name name ≡ true → file_in files name ≡ of_file name (get files name)
unfolding file_in
of_valid files name valid = ap (λ (b : Bool). of_file name (if b then get files name else None)) valid

-- a file that is no longer than a folder gives, and one that is
fits_file : (name found : List ℕ) → nat_le (length found) STORED ≡ true → of_file name (Some found) ≡ Ok found
fits_file name found fits =
    let test : nat_lt STORED (length found) ≡ false = grind (arith, nat_tests) in
    ap (λ (b : Bool). unless b (causes.FileTooLarge name) (Ok found)) test

longer_file : (name found : List ℕ) → nat_le (length found) STORED ≡ false → of_file name (Some found) ≡ Err (causes.FileTooLarge name)
longer_file name found longer =
    let test : nat_lt STORED (length found) ≡ true = grind (arith, nat_tests) in
    ap (λ (b : Bool). unless b (causes.FileTooLarge name) (Ok found)) test

-- what a folder gives of a file that was looked up
of_stored : List ℕ → Result (List ℕ) FolderFault → Result (List ℕ) Cause
of_stored name (Ok bytes) = Ok bytes
of_stored name (Err folder_faults.NotThere) = Err (causes.Load (NotThere name))
of_stored name (Err folder_faults.TooLarge) = Err (causes.FileTooLarge name)
of_stored name (Err folder_faults.Failed) = Err causes.BadName
of_stored name (Err folder_faults.NoMemory) = Err causes.BadName

stored_file : (name : List ℕ) (file : Option (List ℕ)) → of_file name file ≡ of_stored name (stored file)
unfolding of_stored
stored_file name None = refl
stored_file name (Some found) = elim (cases_Bool (nat_le (length found) STORED)) [
  | inl fits ↦ rw fits (fits_file name found fits)
  | inr longer ↦ rw longer (longer_file name found longer)
]

valid_stored : (files : Files) (name : List ℕ) → is_valid_name name ≡ true → file_in files name ≡ of_stored name (taken files name)
valid_stored files name valid = of_valid files name valid ∙ stored_file name (get files name)

-- the folder gave the file
pub taken_file : (files : Files) (name bytes : List ℕ) → is_valid_name name ≡ true → taken files name ≡ Ok bytes → file_in files name ≡ Ok bytes
unfolding of_stored
taken_file files name bytes valid is = valid_stored files name valid ∙ ap (of_stored name) is

-- no other name has one
pub invalid_file : (files : Files) (name : List ℕ) → is_valid_name name ≡ false → file_in files name ≡ Err (causes.Load (NotThere name))
unfolding file_in
invalid_file files name invalid = ap (λ (b : Bool). of_file name (if b then get files name else None)) invalid

-- ---- one call

module _ {a b : Seen} (n : ℕ) (one : n ≡ 1) where
  pub once : Calls Done Idles a b → Calls Done (Asks n) a b
  once call = as_calls Done Done refl call (λ told same. same) (λ told made. made ∙ ap (λ (k : ℕ). waited k a.disk) (sym one))

  -- the folder failed: the call was made or not
  pub failed_once : Calls Broken Idles a b → Calls Broken (Asks n) a b
  failed_once call = as_calls Broken Broken refl call (λ told same. same) (λ told. ⊎_elim (λ none. (0, omega (arith, one), none)) (λ made. (1, omega (arith, one), made)))

  -- memory lacked after the call
  pub lacked_once : Calls Done Idles a b → Calls Undone (Asks n) a b
  lacked_once call = as_calls Done Undone refl call (λ told same. same) (λ told made. (1, omega (arith, one), made))

-- or in it
pub lacked : {a b : Seen} (n : ℕ) → Calls Undone Idles a b → Calls Undone (Asks n) a b
lacked n call = as_calls Undone Undone refl call (λ told same. same) (λ told none. (0, omega arith, none))

module _ (name : List ℕ) where
  -- the folder gave the file
  pub taken_once : {a b : Seen} (bytes : Vec ℕ Global) → is_valid_name name ≡ true → Takes name (Ok bytes) a b → HasTaken name (Ok bytes) a b
  taken_once {a = a} {b = b} bytes valid took = record {
    means = λ told. taken_file a.files name bytes.items valid (took.bytes (told valid));
    reads = refl;
    fails = λ _. valid;
    calls = once (one_if_valid name) (one_if_so name valid) took.calls;
  }

  -- it gave none
  pub untaken : {a b : Seen} (fault : FolderFault) → is_valid_name name ≡ true → Takes name (Err fault) a b → HasTaken name (Err (of_take name fault)) a b
  unfolding of_stored
  untaken {a = a} {b = b} folder_faults.Failed valid took = record { means = tt; reads = refl; fails = λ _. valid; calls = failed_once (one_if_valid name) (one_if_so name valid) took.calls }
  untaken {a = a} {b = b} folder_faults.NotThere valid took = record {
    means = λ told. valid_stored a.files name valid ∙ ap (of_stored name) (took.explained (told valid));
    reads = refl;
    fails = λ _. valid;
    calls = once (one_if_valid name) (one_if_so name valid) took.calls;
  }
  untaken {a = a} {b = b} folder_faults.TooLarge valid took = record {
    means = λ told. valid_stored a.files name valid ∙ ap (of_stored name) (took.explained (told valid));
    reads = refl;
    fails = λ _. valid;
    calls = once (one_if_valid name) (one_if_so name valid) took.calls;
  }
  untaken {a = a} {b = b} folder_faults.NoMemory valid took = record { means = tt; reads = refl; fails = λ _. valid; calls = lacked (one_if_valid name) took.calls }

  -- and there was no memory to tell that
  pub untold : {a b : Seen} (fault : FolderFault) → fault ≢ folder_faults.Failed → is_valid_name name ≡ true → Takes name (Err fault) a b → HasTaken name (Err stops.NoMemory) a b
  untold folder_faults.Failed other valid took = absurd (other refl)
  untold {a = a} {b = b} folder_faults.NotThere other valid took = record { means = tt; reads = refl; fails = λ _. valid; calls = lacked_once (one_if_valid name) (one_if_so name valid) took.calls }
  untold {a = a} {b = b} folder_faults.TooLarge other valid took = record { means = tt; reads = refl; fails = λ _. valid; calls = lacked_once (one_if_valid name) (one_if_so name valid) took.calls }
  untold {a = a} {b = b} folder_faults.NoMemory other valid took = record { means = tt; reads = refl; fails = λ _. valid; calls = lacked (one_if_valid name) took.calls }

  -- no other name has a file, and the folder is not asked for it
  pub unasked : (a : Seen) → is_valid_name name ≡ false → HasTaken name (Err (of_take name folder_faults.NotThere)) a a
  unasked a invalid = record { means = λ _. invalid_file a.files name invalid; reads = refl; fails = λ e. absurd (false≢true e); calls = no_call a (one_if_valid name) (one_if_not name invalid) }

  pub unasked_untold : (a : Seen) → HasTaken name (Err stops.NoMemory) a a
  unasked_untold a = record { means = tt; reads = refl; fails = λ e. absurd (false≢true e); calls = lacks_early a (one_if_valid name) }
