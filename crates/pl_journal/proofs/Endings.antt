-- How parts of a run go on from one another, and how their faults are passed on.
use Rattle.std.proofs.Common.{◌≡◌, ◌≤◌, ℕ, Bool, true, false, refl, sym, ap, subst, ◌∙◌, List, Result, Ok, Err, arith}
use Rattle.std.specs.Prelude.{IfErr, IsErrAnd}
use Rattle.pl_base.proofs.CountLaws.{counted_then}
use Rattle.pl_base.specs.Counts.{Counted}
use Rattle.pl_folder.specs.Calls.{Calls, IsPlain}
use Rattle.pl_folder.specs.Effects.{Effect}
use Rattle.pl_folder.specs.Seen.{Seen, Ending, Done, Broken, Undone, ends, fault_ending, is_broken}
use Rattle.pl_folder.specs.declared.fault.FolderFault.{FolderFault}
use Rattle.pl_folder.specs.declared.fault.FolderFault.TheVariants as folder
use Rattle.pl_io.specs.declared.failed.Failed.{Failed}
use Rattle.pl_journal.specs.Faults.{IsNotBad, journal_ending, of_folder, part_ending}
use Rattle.pl_journal.specs.Leaves.{fault_of}
use Rattle.pl_journal.specs.Parts.{AtDone}
use Rattle.pl_journal.specs.declared.fault.JournalFault.{JournalFault}
use Rattle.pl_journal.specs.declared.fault.JournalFault.TheVariants as faults

-- ---- endings

-- an ending that is not an answer
abbrev pub Stops : Ending → Type 0
Stops Done = ⊥
Stops Broken = Unit {0}
Stops Undone = Unit {0}

pub stopped : (X : Type 0) (e : Ending) → Stops e → AtDone e X
stopped X Done stops = absurd stops
stopped X Broken stops = tt
stopped X Undone stops = tt

pub at_done : {X Y : Type 0} (e : Ending) → (X → Y) → AtDone e X → AtDone e Y
at_done Done to x = to x
at_done Broken to x = tt
at_done Undone to x = tt

pub when_done : {X : Type 0} (e : Ending) → (e ≡ Done → X) → AtDone e X
when_done Done it = it refl
when_done Broken it = tt
when_done Undone it = tt

pub fault_stops : (fault : JournalFault) → Stops (journal_ending fault)
fault_stops faults.Failed = tt
fault_stops faults.BadJournal = tt
fault_stops faults.NoMemory = tt

pub plain_stops : (fault : FolderFault) → IsPlain fault → Stops (fault_ending fault)
plain_stops folder.Failed plain = tt
plain_stops folder.NotThere plain = absurd plain
plain_stops folder.TooLarge plain = absurd plain
plain_stops folder.NoMemory plain = tt

pub plain_ending : (fault : FolderFault) → IsPlain fault → fault_ending fault ≡ journal_ending (of_folder fault)
plain_ending folder.Failed plain = refl
plain_ending folder.NotThere plain = absurd plain
plain_ending folder.TooLarge plain = absurd plain
plain_ending folder.NoMemory plain = refl

-- ---- faults that are passed on

pub passed_with : {X : Type 0} {P : Effect} {a b : Seen} (r : Result X JournalFault) (fault : JournalFault) → IsErrAnd r (λ f. f ≡ fault) → Calls (journal_ending fault) P a b → Calls (part_ending r) P a b
passed_with (Ok x) fault is call = absurd is
passed_with {P = P} {a = a} {b = b} (Err f) fault is call = subst (λ g. Calls (journal_ending g) P a b) (sym is) call

pub passed_folder : {X : Type 0} {P : Effect} {a b : Seen} (r : Result X JournalFault) (fault : FolderFault) → IsErrAnd r (λ f. f ≡ of_folder fault) → IsPlain fault → Calls (fault_ending fault) P a b → Calls (part_ending r) P a b
passed_folder {P = P} {a = a} {b = b} r fault is plain call = passed_with r (of_folder fault) is (subst (λ e. Calls e P a b) (plain_ending fault plain) call)

pub passed_failed : {X : Type 0} {P : Effect} {a b : Seen} (Q : Failed → Type 0) (r : Result X Failed) → IsErrAnd r Q → Calls Broken P a b → Calls (ends r) P a b
passed_failed Q (Ok x) is call = absurd is
passed_failed Q (Err f) is call = call

-- what depends on the fault
pub passed_by : {X : Type 0} (P : Rattle.std.proofs.Common.Option JournalFault → Effect) {a b : Seen} (r : Result X JournalFault) (fault : JournalFault) → IsErrAnd r (λ f. f ≡ fault)
    → Calls (journal_ending fault) (P (Rattle.std.proofs.Common.Some fault)) a b → Calls (part_ending r) (P (fault_of r)) a b
passed_by P (Ok x) fault is call = absurd is
passed_by P {a = a} {b = b} (Err f) fault is call = subst (λ g. Calls (journal_ending g) (P (Rattle.std.proofs.Common.Some g)) a b) (sym is) call

-- none of them is a bad journal
pub failed_not_bad : IsNotBad faults.Failed
failed_not_bad bad = let no : ⊥ = cc in no

pub memory_not_bad : IsNotBad faults.NoMemory
memory_not_bad bad = let no : ⊥ = cc in no

folder_not_bad : (fault : FolderFault) → IsNotBad (of_folder fault)
folder_not_bad folder.Failed = failed_not_bad
folder_not_bad folder.NotThere = failed_not_bad
folder_not_bad folder.TooLarge = failed_not_bad
folder_not_bad folder.NoMemory = memory_not_bad

pub not_bad_with : {X : Type 0} (r : Result X JournalFault) (fault : JournalFault) → IsErrAnd r (λ f. f ≡ fault) → IsNotBad fault → IfErr r IsNotBad
not_bad_with (Ok x) fault is plain = tt
not_bad_with (Err f) fault is plain = λ bad. plain (sym is ∙ bad)

pub not_bad_of : {X : Type 0} (r : Result X JournalFault) (fault : FolderFault) → IsErrAnd r (λ f. f ≡ of_folder fault) → IfErr r IsNotBad
not_bad_of r fault is = not_bad_with r (of_folder fault) is (folder_not_bad fault)

-- ---- calls

-- a part that was done, and another: what both make of the files and of the disk, where the folder tells them
pub then_told : {M N P : Effect} {e : Ending} {a b c : Seen} → Calls Done M a b → Calls e N b c
    → (a.tells ≡ true → M.files Done a.files b.files → N.files e b.files c.files → P.files e a.files c.files)
    → (a.records ≡ true → M.disk Done a.disk b.disk → N.disk e b.disk c.disk → P.disk e a.disk c.disk) → Calls e P a c
then_told {e = e} {a = a} {b = b} {c = c} first second both together = record {
  tells = second.tells ∙ first.tells;
  records = second.records ∙ first.records;
  referent = second.referent ∙ first.referent;
  files = λ told. both told (first.files told) (second.files (first.tells ∙ told));
  disk = λ told. together told (first.disk told) (second.disk (first.records ∙ told));
  count = counted_then (is_broken e) a.faults b.faults c.faults first.count second.count;
}

-- one part, in other words
pub makes_told : {M P : Effect} {e f : Ending} {a b : Seen} → is_broken e ≡ is_broken f → Calls e M a b → (a.tells ≡ true → M.files e a.files b.files → P.files f a.files b.files) → (a.records ≡ true → M.disk e a.disk b.disk → P.disk f a.disk b.disk) → Calls f P a b
makes_told {a = a} {b = b} same_end call other along = record {
  tells = call.tells;
  records = call.records;
  referent = call.referent;
  files = λ told. other told (call.files told);
  disk = λ told. along told (call.disk told);
  count = subst (λ broken. Counted broken a.faults b.faults) same_end call.count;
}

no_faults : (n : ℕ) → Counted false n n
no_faults n = record { later = omega arith; rose = λ is. absurd (let no : ⊥ = cc in no); quiet = λ is. refl }

-- nothing was called
pub no_calls : {P : Effect} (e : Ending) (a : Seen) → is_broken e ≡ false → (a.tells ≡ true → P.files e a.files a.files) → (a.records ≡ true → P.disk e a.disk a.disk) → Calls e P a a
no_calls e a quiet same_files same_disk = record {
  tells = refl;
  records = refl;
  referent = refl;
  files = same_files;
  disk = same_disk;
  count = subst (λ broken. Counted broken a.faults a.faults) (sym quiet) (no_faults a.faults);
}
