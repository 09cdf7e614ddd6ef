-- What `-y` finds, from what pl_batch finds.
use Rattle.std.proofs.Common.{◌≡◌, ℕ, List, Bool, true, false, Option, None, refl, sym, ap, ◌∙◌}
use Rattle.std.specs.Prelude.{Result, Ok, Err, Vec, not, option_map}
use Rattle.std.specs.declared.alloc.Global.{Global}
use Rattle.pl_base.specs.Answers.{because, unless, ◌>>=◌}
use Rattle.pl_base.specs.Files.{Files}
use Rattle.pl_base.specs.Names.{is_valid_name}
use Rattle.pl_folder.specs.Seen.{Seen}
use Rattle.pl_change.specs.Answers as batch
use Rattle.pl_batch.specs.Folder.{named}
use Rattle.pl_batch.specs.Verify.{original_if_verified, verified, walked}
use Rattle.pl_change.specs.declared.cause.Cause as causes
use Rattle.pl_change.specs.declared.cause.Cause.TheVariants.{BadName}
use Rattle.pl_change.specs.declared.fault.BatchFault.{BatchFault}
use Rattle.pl_change.specs.declared.fault.BatchFault.TheVariants as batch_faults
use Rattle.pl_cli.specs.Came.{HasVerified}
use Rattle.pl_texts.specs.Stops.{of_batch_fault}
use Rattle.pl_cli.specs.Verified.{verifies}
use Rattle.pl_texts.specs.Stops.{of_batch}

abbrev pub Verifying : Type 0
Verifying = Result (Option (Vec ℕ Global)) BatchFault

-- bytes of a vector, if there is one
abbrev pub bytes_if : Option (Vec ℕ Global) → Option (List ℕ)
bytes_if found = option_map (λ (v : Vec ℕ Global). v.items) found

-- the answer for a name that is not valid
abbrev pub IsBadName : Verifying → Type 0
IsBadName result = result ≡ Err (batch_faults.Cause BadName)

-- what an answer found; a fault found nothing
abbrev pub found_in : Verifying → Result (Option (List ℕ)) causes.Cause
found_in (Ok original) = Ok (bytes_if original)
found_in (Err batch_faults.DiskFailed) = Ok None
found_in (Err batch_faults.NoMemory) = Ok None
found_in (Err (batch_faults.Cause cause)) = Err cause

-- of a name that is not valid there is one cause
bad_name : (name : List ℕ) (files : Files) → is_valid_name name ≡ false → verified files name ≡ Err BadName
unfolding verified
bad_name name files invalid = ap (λ (valid : Bool). unless (not valid) BadName (walked files name >>= λ ws. Ok (original_if_verified (named files) name))) invalid

-- what is found of a valid name, and what of any other
verifies_by : (name : List ℕ) (files : Files) (told : Type 0) (result : Verifying) (valid : Bool) → is_valid_name name ≡ valid → (is_valid_name name ≡ true → told)
    → (told → verified files name ≡ found_in result) → (is_valid_name name ≡ false → IsBadName result) → verifies name files ≡ because of_batch (found_in result)
unfolding verifies
verifies_by name files told result true is tells means bad = ap (because of_batch) (means (tells is))
verifies_by name files told result false is tells means bad = ap (because of_batch) (bad_name name files is ∙ sym (ap found_in (bad is)))

-- a folder that failed was asked
asked_by : (name : List ℕ) (valid : Bool) → is_valid_name name ≡ valid → (is_valid_name name ≡ false → IsBadName (Err batch_faults.DiskFailed)) → is_valid_name name ≡ true
asked_by name true is bad = is
asked_by name false is bad = let e = bad is in cc

module _ (name : List ℕ) {a b : Seen} where
  pub verify_stopped : (fault : BatchFault) → batch.Finds (verified a.files name) bytes_if (Err fault) a b → (is_valid_name name ≡ false → IsBadName (Err fault)) → HasVerified name (Err (of_batch_fault fault)) a b
  verify_stopped batch_faults.DiskFailed found bad = record { means = tt; reads = refl; fails = λ broken. asked_by name (is_valid_name name) refl bad; calls = found.calls }
  verify_stopped batch_faults.NoMemory found bad = record { means = tt; reads = refl; fails = λ broken. cc; calls = found.calls }
  verify_stopped (batch_faults.Cause cause) found bad = record { means = λ told. verifies_by name a.files (a.tells ≡ true) (Err (batch_faults.Cause cause)) (is_valid_name name) refl told found.means bad; reads = refl; fails = λ broken. cc; calls = found.calls }

  pub was_verified : (original : Option (Vec ℕ Global)) → batch.Finds (verified a.files name) bytes_if (Ok original) a b → (is_valid_name name ≡ false → IsBadName (Ok original)) → HasVerified name (Ok original) a b
  was_verified original found bad = record { means = λ told. verifies_by name a.files (a.tells ≡ true) (Ok original) (is_valid_name name) refl told found.means bad; reads = refl; fails = λ broken. cc; calls = found.calls }
