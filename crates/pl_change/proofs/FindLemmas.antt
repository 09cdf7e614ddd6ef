-- How what is found in a folder goes on, and how it stops.
use Rattle.std.proofs.Common.{◌≡◌, ℕ, List, map, Bool, true, false, Option, Some, None, refl, sym, ◌∙◌, ap, subst}
use Rattle.std.specs.Prelude.{Result, Ok, Err, IsErrAnd, Vec, String, string_bytes, length, nat_le, if◌then◌else◌}
use Rattle.std.specs.declared.alloc.Global.{Global}
use Rattle.std.specs.FinMap.{get, keys}
use Rattle.pl_base.specs.Answers.{◌>>=◌, unless}
use Rattle.pl_base.specs.Files.{Files}
use Rattle.pl_folder.specs.Calls.{Calls, GivesNames, Takes}
use Rattle.pl_folder.specs.Seen.{Seen, Ending, Done, Undone}
use Rattle.pl_folder.specs.Taken.{taken, stored}
use Rattle.pl_folder.specs.declared.TheConstants.{STORED}
use Rattle.pl_folder.specs.declared.fault.FolderFault.{FolderFault}
use Rattle.pl_folder.specs.declared.fault.FolderFault.TheVariants as folder_faults
use Rattle.pl_journal.specs.Parts.{Looking}
use Rattle.pl_journal.proofs.Endings.{makes_told, no_calls, then_told}
use Rattle.pl_journal.proofs.RecoverLemmas.{looks_on, no_look}
use Rattle.pl_journal.proofs.RecoverParts.{looking}
use Rattle.pl_change.specs.Answers.{Finds, BatchMeans, BatchMeansAlone, of_folder, of_take}
use Rattle.pl_change.specs.Names.{file_of, of_file}
use Rattle.pl_change.specs.Store.{is_file}
use Rattle.pl_change.specs.declared.cause.Cause.{Cause}
use Rattle.pl_change.specs.declared.cause.Cause.TheVariants as causes
use Rattle.pl_change.specs.declared.fault.BatchFault.{BatchFault}
use Rattle.pl_change.specs.declared.fault.BatchFault.TheVariants.{DiskFailed, NoMemory}
use Rattle.pl_change.specs.declared.fault.BatchFault.TheVariants as faults

pub at_err : {X E : Type 0} (P : Result X E → Type 0) (r : Result X E) (e : E) → IsErrAnd r (λ f. f ≡ e) → P (Err e) → P r
at_err P (Ok x) e is p = absurd is
at_err {E = E} P (Err f) e is p = subst (λ (g : E). P (Err g)) (sym is) p

-- ---- calls that only read

pub reads_on : {e : Ending} {a b c : Seen} → Calls Done Looking a b → Calls e Looking b c → Calls e Looking a c
reads_on {a = a} {b = b} {c = c} first second = then_told first second (λ told one two. two ∙ one) (λ told one two. looks_on a.disk b.disk c.disk one two)

-- nothing is asked
pub no_asking : (a : Seen) → Calls Done Looking a a
no_asking a = no_calls Done a refl (λ told. refl) (λ told. no_look a.disk a.disk refl)

-- and then memory lacks
pub lacks : {a b : Seen} → Calls Done Looking a b → Calls Undone Looking a b
lacks call = makes_told refl call (λ told files. files) (λ told looks. looks)

-- ---- meanings in other words

pub other_means : {X Y : Type 0} (told now : Type 0) (meant other : Result X Cause) (view : Y → X) (r : Result Y BatchFault) → (told → now) → (told → meant ≡ other) → BatchMeans now other view r → BatchMeans told meant view r
other_means told now meant other view (Ok y) to is means = λ t. is t ∙ means (to t)
other_means told now meant other view (Err DiskFailed) to is means = tt
other_means told now meant other view (Err NoMemory) to is means = tt
other_means told now meant other view (Err (faults.Cause cause)) to is means = λ t. is t ∙ means (to t)

-- the same found
pub same_found : {X Y : Type 0} (meant other : Result X Cause) (view : Y → X) (r : Result Y BatchFault) {a b : Seen} → meant ≡ other → Finds other view r a b → Finds meant view r a b
same_found meant other view r {a = a} is found = record { means = other_means _ _ meant other view r (λ t. t) (λ t. is) found.means; calls = found.calls }

-- ---- one after another

pub then_finds : {X Y Z W : Type 0} (first : Result X Cause) (view : Y → X) (y : Y) (next : Files → X → Result Z Cause) (last : W → Z) (r : Result W BatchFault) {a b c : Seen}
    → Finds first view (Ok y) a b → Finds (next b.files (view y)) last r b c → Finds (first >>= next a.files) last r a c
then_finds first view y next last r {a = a} {b = b} one two = record {
  means = other_means _ _ (first >>= next a.files) (next b.files (view y)) last r (λ t. one.calls.tells ∙ t) (λ t. ap (λ m. m >>= next a.files) (one.means t) ∙ ap (λ f. next f (view y)) (sym (one.calls.files t))) two.means;
  calls = reads_on one.calls two.calls;
}

pub stops_finds : {X Y Z W : Type 0} (first : Result X Cause) (view : Y → X) (next : X → Result Z Cause) (last : W → Z) (fault : BatchFault) {a b : Seen}
    → Finds first view (Err fault) a b → Finds (first >>= next) last (Err fault) a b
stops_finds first view next last DiskFailed one = record { means = tt; calls = one.calls }
stops_finds first view next last NoMemory one = record { means = tt; calls = one.calls }
stops_finds first view next last (faults.Cause cause) one = record { means = λ t. ap (λ m. m >>= next) (one.means t); calls = one.calls }

-- where memory lacks nothing is meant
pub lacks_finds : {X Y : Type 0} (meant : Result X Cause) (view : Y → X) {a b : Seen} → Calls Done Looking a b → Finds meant view (Err NoMemory) a b
lacks_finds meant view call = record { means = tt; calls = lacks call }

-- what needs no folder
pub alone_finds : {X : Type 0} (pure : Result X Cause) (r : Result X BatchFault) {a b : Seen} (meant : Result X Cause) → (a.tells ≡ true → meant ≡ pure) → BatchMeansAlone pure r → Calls Done Looking a b → Finds meant (λ x. x) r a b
alone_finds pure (Ok x) meant is alone call = record { means = λ t. is t ∙ alone; calls = call }
alone_finds pure (Err DiskFailed) meant is alone call = absurd alone
alone_finds pure (Err NoMemory) meant is alone call = record { means = tt; calls = lacks call }
alone_finds pure (Err (faults.Cause cause)) meant is alone call = record { means = λ t. is t ∙ alone; calls = call }

-- after something that was found
pub then_alone : {X Y Z : Type 0} (first : Result X Cause) (view : Y → X) (y : Y) (next : X → Result Z Cause) (r : Result Z BatchFault) {a b : Seen}
    → Finds first view (Ok y) a b → BatchMeansAlone (next (view y)) r → Finds (first >>= next) (λ z. z) r a b
then_alone first view y next r one alone = alone_finds (next (view y)) r (first >>= next) (λ t. ap (λ m. m >>= next) (one.means t)) alone one.calls

-- what needs no folder stops
pub alone_stops : {X Z W : Type 0} (pure : Result X Cause) (next : X → Result Z Cause) (last : W → Z) (fault : BatchFault) (a : Seen) → BatchMeansAlone pure (Err fault) → Finds (pure >>= next) last (Err fault) a a
alone_stops pure next last DiskFailed a alone = absurd alone
alone_stops pure next last NoMemory a alone = record { means = tt; calls = lacks (no_asking a) }
alone_stops pure next last (faults.Cause cause) a alone = record { means = λ t. ap (λ m. m >>= next) alone; calls = no_asking a }

-- a test
pub refused : {X Y : Type 0} (b : Bool) (cause : Cause) (next : Result X Cause) (view : Y → X) (a : Seen) → b ≡ true → Finds (unless b cause next) view (Err (faults.Cause cause)) a a
refused b cause next view a is = record { means = λ t. ap (λ (x : Bool). unless x cause next) is; calls = no_asking a }

pub passed : {X Y : Type 0} (b : Bool) (cause : Cause) (next : Result X Cause) (view : Y → X) (r : Result Y BatchFault) {a c : Seen} → b ≡ false → Finds next view r a c → Finds (unless b cause next) view r a c
passed b cause next view r is found = same_found (unless b cause next) next view r (ap (λ (x : Bool). unless x cause next) is) found

-- ---- one call

pub listed : {a b : Seen} (names : Vec (String Global) Global) → GivesNames (Ok names) a b → Finds (Ok (keys a.files)) (λ (names : Vec (String Global) Global). map string_bytes names.items) (Ok names) a b
listed names gives = record { means = λ t. ap Ok (sym (gives.names t)); calls = looking refl gives.calls }

pub unlisted : {a b : Seen} (fault : FolderFault) → GivesNames (Err fault) a b → Finds (Ok (keys a.files)) (λ (names : Vec (String Global) Global). map string_bytes names.items) (Err (of_folder fault)) a b
unlisted folder_faults.Failed gives = record { means = tt; calls = looking refl gives.calls }
unlisted folder_faults.NotThere gives = absurd gives.plain
unlisted folder_faults.TooLarge gives = absurd gives.plain
unlisted folder_faults.NoMemory gives = record { means = tt; calls = looking refl gives.calls }

-- what a folder gives of a file that was looked up
abbrev of_stored : List ℕ → Result (List ℕ) FolderFault → Result (List ℕ) Cause
of_stored name (Ok bytes) = Ok bytes
of_stored name (Err folder_faults.NotThere) = Err (causes.NotThere name)
of_stored name (Err folder_faults.TooLarge) = Err (causes.FileTooLarge name)
of_stored name (Err folder_faults.Failed) = Err causes.BadName
of_stored name (Err folder_faults.NoMemory) = Err causes.BadName

by_size : (name found : List ℕ) (b : Bool) → (if b then Ok found else Err (causes.FileTooLarge name)) ≡ of_stored name (if b then Ok found else Err folder_faults.TooLarge)
by_size name found true = refl
by_size name found false = refl

stored_file : (name : List ℕ) (file : Option (List ℕ)) → of_file name file ≡ of_stored name (stored file)
stored_file name None = refl
stored_file name (Some found) = by_size name found (nat_le (length found) STORED)

files_stored : (files : Files) (name : List ℕ) → file_of files name ≡ of_stored name (taken files name)
unfolding file_of
files_stored files name = stored_file name (get files name)

module _ {a b : Seen} (name : List ℕ) where
  pub took : (bytes : Vec ℕ Global) → Takes name (Ok bytes) a b → Finds (file_of a.files name) (λ (bytes : Vec ℕ Global). bytes.items) (Ok bytes) a b
  took bytes takes = record { means = λ t. files_stored a.files name ∙ ap (of_stored name) (takes.bytes t); calls = looking refl takes.calls }

  pub untaken : (fault : FolderFault) → Takes name (Err fault) a b → Finds (file_of a.files name) (λ (bytes : Vec ℕ Global). bytes.items) (Err (of_take name fault)) a b
  untaken folder_faults.Failed takes = record { means = tt; calls = looking refl takes.calls }
  untaken folder_faults.NotThere takes = record { means = λ t. files_stored a.files name ∙ ap (of_stored name) (takes.explained t); calls = looking refl takes.calls }
  untaken folder_faults.TooLarge takes = record { means = λ t. files_stored a.files name ∙ ap (of_stored name) (takes.explained t); calls = looking refl takes.calls }
  untaken folder_faults.NoMemory takes = record { means = tt; calls = looking refl takes.calls }

  -- there was no memory to tell why
  pub untold : (fault : FolderFault) → (fault ≡ folder_faults.Failed → ⊥) → Takes name (Err fault) a b → Finds (file_of a.files name) (λ (bytes : Vec ℕ Global). bytes.items) (Err NoMemory) a b
  untold folder_faults.Failed other takes = absurd (other refl)
  untold folder_faults.NotThere other takes = record { means = tt; calls = looking refl takes.calls }
  untold folder_faults.TooLarge other takes = record { means = tt; calls = looking refl takes.calls }
  untold folder_faults.NoMemory other takes = record { means = tt; calls = looking refl takes.calls }

  -- whether it has these bytes
  pub compared : (bytes : List ℕ) (file : Vec ℕ Global) (has : Bool) → has ≡ is_file (Ok file.items) bytes → Takes name (Ok file) a b → Finds (Ok (is_file (taken a.files name) bytes)) (λ (has : Bool). has) (Ok has) a b
  compared bytes file has is takes = record { means = λ t. ap (λ (o : Result (List ℕ) FolderFault). Ok (is_file o bytes)) (takes.bytes t) ∙ ap Ok (sym is); calls = looking refl takes.calls }

  pub not_there : (bytes : List ℕ) → Takes name (Err folder_faults.NotThere) a b → Finds (Ok (is_file (taken a.files name) bytes)) (λ (has : Bool). has) (Ok false) a b
  not_there bytes takes = record { means = λ t. ap (λ (o : Result (List ℕ) FolderFault). Ok (is_file o bytes)) (takes.explained t); calls = looking refl takes.calls }

  pub too_large : (bytes : List ℕ) → Takes name (Err folder_faults.TooLarge) a b → Finds (Ok (is_file (taken a.files name) bytes)) (λ (has : Bool). has) (Ok false) a b
  too_large bytes takes = record { means = λ t. ap (λ (o : Result (List ℕ) FolderFault). Ok (is_file o bytes)) (takes.explained t); calls = looking refl takes.calls }

  pub bytes_failed : (bytes : List ℕ) → Takes name (Err folder_faults.Failed) a b → Finds (Ok (is_file (taken a.files name) bytes)) (λ (has : Bool). has) (Err DiskFailed) a b
  bytes_failed bytes takes = record { means = tt; calls = looking refl takes.calls }

  pub bytes_lack : (bytes : List ℕ) → Takes name (Err folder_faults.NoMemory) a b → Finds (Ok (is_file (taken a.files name) bytes)) (λ (has : Bool). has) (Err NoMemory) a b
  bytes_lack bytes takes = record { means = tt; calls = looking refl takes.calls }
