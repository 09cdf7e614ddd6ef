-- How a command starts.
use Rattle.std.proofs.Common.{◌≡◌, inl, inr, ⊎_elim, ℕ, List, [], Bool, true, false, Option, Some, None, is_some, refl, sym, ◌∙◌, ap, subst}
use Rattle.std.specs.Prelude.{Ok, Err, Result, not}
use Rattle.std.proofs.lemmas.Bool.{true≢false}
use Rattle.std.specs.FinMap.{get, same_map, slice_cmp-IsAntisymmetric, nat_cmp-IsAntisymmetric}
use Rattle.std.specs.Cmp.Lexicographic.{nat_list_cmp_total}
use Rattle.pl_base.specs.Answers.{unless}
use Rattle.pl_base.specs.Files.{Files}
use Rattle.pl_base.specs.Names.{is_valid_name}
use Rattle.pl_folder.specs.Calls.{Calls}
use Rattle.pl_folder.specs.Disk.{View, read}
use Rattle.pl_folder.specs.Seen.{Seen, Ending, Done, Broken, Undone, IsFolder}
use Rattle.pl_journal.specs.Meaning.{HasNoOwn, Same, StandsFor}
use Rattle.pl_journal.specs.Names.{journal}
use Rattle.pl_journal.specs.Parts.{IsQuiet, Recovers}
use Rattle.pl_journal.specs.RealDisk.{RunsFirmly}
use Rattle.pl_journal.specs.Rows.{all_done, recovered, rows_in}
use Rattle.pl_journal.specs.declared.fault.JournalFault.TheVariants as journal_faults
use Rattle.pl_journal.specs.declared.row.Row.{Row}
use Rattle.pl_journal.proofs.Endings.{makes_told}
use Rattle.pl_journal.proofs.Meanings.{recovered_no_own, stands_self}
use Rattle.pl_journal.proofs.Moments.{weaker}
use Rattle.pl_journal.proofs.RealLemmas.{on_any}
use Rattle.pl_change.specs.Answers.{ending, fault_ending}
use Rattle.pl_change.specs.Commands.{Failed, IsBefore, Lacked, Made, Meaning, Outcome, Refused, outcome, ready, ready_for, stopped}
use Rattle.pl_change.specs.Starts.{Named, Starts, bad_name}
use Rattle.pl_change.specs.declared.cause.Cause.{Cause}
use Rattle.pl_change.specs.declared.cause.Cause.TheVariants as causes
use Rattle.pl_change.specs.declared.fault.BatchFault.{BatchFault}
use Rattle.pl_change.specs.declared.fault.BatchFault.TheVariants.{DiskFailed, NoMemory}
use Rattle.pl_change.specs.declared.fault.BatchFault.TheVariants as faults
use Rattle.pl_change.proofs.QuietLemmas.{recovers_quiet}

one_map : (m n : Files) → Same (get m) (get n) → m ≡ n
one_map m n is = same_map nat_list_cmp_total (slice_cmp-IsAntisymmetric nat_cmp-IsAntisymmetric) m n is

-- the files that a folder stands for are one map
pub before_is : (old : View) (before now : Files) → IsBefore old before → Same (get now) (recovered old) → before ≡ now
before_is old before now is same = one_map before now (λ n. is n ∙ sym (same n))

-- ---- a journal in its grammar

no_journal_ready : (files : Files) → get files journal ≡ None → ready files ≡ Ok []
unfolding ready
no_journal_ready files none = ap (λ (o : Option (List ℕ)). unless (not (is_some (rows_in o))) causes.BadJournal (Ok [])) none

ready_recovered : (old : View) (rows : List Row) → rows_in (old journal) ≡ Some rows → (before : Files) → IsBefore old before → ready before ≡ Ok []
ready_recovered old rows is before stands = no_journal_ready before (stands journal ∙ recovered_no_own old rows is journal refl)

pub started : {a b : Seen} → IsFolder a → IsQuiet a b → Calls Done (Recovers None) a b → RunsFirmly Done a b → Calls Done (Starts ready Made) a b
started {a = a} {b = b} law quiet call real = makes_told refl call
    (λ told files. (files, λ before is. ready_recovered (get a.files) files.0 files.1 before is))
    (λ told disk. ((disk, (λ before is. ready_recovered (read a.disk.now) disk.1.rows disk.1.spelled before is), recovers_quiet a b law quiet told), real.disk told))

-- ---- outside it

recovered_bad : (v : View) → rows_in (v journal) ≡ None → Same (recovered v) v
unfolding recovered
recovered_bad v bad n = ap (λ o. all_done o v n) bad

bad_ready : (files : Files) → rows_in (get files journal) ≡ None → ready files ≡ Err causes.BadJournal
unfolding ready
bad_ready files bad = ap (λ (o : Option (List Row)). unless (not (is_some o)) causes.BadJournal (Ok [])) bad

-- there is none where no own name is there
no_bad_journal : (v : View) → HasNoOwn v → rows_in (v journal) ≡ None → ⊥
no_bad_journal v no_own bad = let none : rows_in None ≡ None = ap rows_in (sym (no_own journal refl)) ∙ bad in absurd cc

pub started_bad : {a b : Seen} → Calls Undone (Recovers (Some journal_faults.BadJournal)) a b → RunsFirmly Done a b → Calls Done (Starts ready (Refused causes.BadJournal)) a b
started_bad {a = a} {b = b} call real = makes_told refl call
    (λ told files before is.
    let same : before ≡ a.files = one_map before a.files (λ n. is n ∙ recovered_bad (get a.files) files.0 n) in
    record { means = ap ready same ∙ bad_ready a.files files.0; files = files.1 ∙ sym same })
    (λ told disk. (
      λ before is. ⊎_elim
          (λ keeps. record {
            means = bad_ready before (ap rows_in (is journal ∙ recovered_bad (read a.disk.now) keeps.1 journal) ∙ keeps.1);
            only = λ w image n. is n ∙ recovered_bad (read a.disk.now) keeps.1 n ∙ keeps.0.now w image n;
            on_the_way = weaker a.disk b.disk (Same (read a.disk.now)) (StandsFor (read a.disk.now)) (λ w same. stands_self (read a.disk.now) w (λ n. sym (same n))) keeps.0;
            quiet = λ no_own. absurd (no_bad_journal (read a.disk.now) no_own keeps.1);
          })
          (λ looks. let no : ⊥ = cc in absurd no)
          disk,
      real.disk told,
    ))

-- ---- faults

pub start_failed : (meant : Meaning Cause) {a b : Seen} → Calls Broken (Recovers (Some journal_faults.Failed)) a b → RunsFirmly Done a b → Calls Broken (Starts meant Failed) a b
start_failed meant call real = makes_told refl call (λ told files. files) (λ told disk. (⊎_elim (λ keeps. inr keeps) (λ looks. inl looks.1) disk, on_any Broken (real.disk told)))

pub start_lacked : (meant : Meaning Cause) {a b : Seen} → Calls Undone (Recovers (Some journal_faults.NoMemory)) a b → RunsFirmly Done a b → Calls Undone (Starts meant Lacked) a b
start_lacked meant {a = a} {b = b} call real = makes_told refl call
    (λ told files. stands_self (get a.files) (get b.files) (λ n. ap (λ f. get f n) files))
    (λ told disk. (⊎_elim inr (λ looks. let no : ⊥ = cc in absurd no) disk, on_any Undone (real.disk told)))

-- ---- for a name

valid_ready : (name : List ℕ) → is_valid_name name ≡ true → (files : Files) → ready files ≡ ready_for name files
unfolding ready_for
valid_ready name valid files = sym (ap (λ (b : Bool). unless (not b) causes.BadName (ready files)) valid)

pub invalid_ready : (name : List ℕ) → is_valid_name name ≡ false → (files : Files) → ready_for name files ≡ Err causes.BadName
unfolding ready_for
invalid_ready name invalid files = ap (λ (b : Bool). unless (not b) causes.BadName (ready files)) invalid

module _ (name : List ℕ) where
  pub valid_start : {e : Ending} {a b : Seen} (o : Outcome Cause) → is_valid_name name ≡ true → Calls e (Starts ready o) a b → Calls e (Starts (ready_for name) o) a b
  valid_start {e = e} {a = a} {b = b} o valid call =
      let one : ready ≡ ready_for name = λ i files. valid_ready name valid files i in
      subst (λ (m : Meaning Cause). Calls e (Starts m o) a b) one call

  pub invalid_start : {a b : Seen} → is_valid_name name ≡ false → Calls Done (Starts ready Made) a b → Calls Done (Starts (ready_for name) (Refused causes.BadName)) a b
  invalid_start {a = a} {b = b} invalid call = makes_told refl call
      (λ told files before is. record { means = invalid_ready name invalid before; files = sym (before_is (get a.files) before b.files is files.0.2) })
      (λ told disk. (λ before is. record { means = invalid_ready name invalid before; only = λ w image n. is n ∙ disk.0.0.1.settled.only w image n; on_the_way = disk.0.0.0; quiet = disk.0.2 }, disk.1))

  pub invalid_stop : {a b : Seen} (cause : Cause) → is_valid_name name ≡ false → Calls Done (Starts ready (Refused cause)) a b → Calls Done (Starts (ready_for name) (Refused causes.BadName)) a b
  invalid_stop cause invalid call = makes_told refl call
      (λ told files before is. record { means = invalid_ready name invalid before; files = (files before is).files })
      (λ told disk. (λ before is. record { means = invalid_ready name invalid before; only = (disk.0 before is).only; on_the_way = (disk.0 before is).on_the_way; quiet = (disk.0 before is).quiet }, disk.1))

  pub failed_stop : {a b : Seen} → Calls Broken (Starts ready Failed) a b → Calls Broken (Starts (ready_for name) Failed) a b
  failed_stop call = makes_told refl call (λ told files. files) (λ told disk. disk)

  pub lacked_stop : {a b : Seen} → Calls Undone (Starts ready Lacked) a b → Calls Undone (Starts (ready_for name) Lacked) a b
  lacked_stop call = makes_told refl call (λ told files. files) (λ told disk. disk)

  pub invalid_by : {a b : Seen} (r : Result (Unit {0}) BatchFault) → is_valid_name name ≡ false → Calls (ending r) (Starts ready (outcome r)) a b → Calls (fault_ending (bad_name r)) (Starts (ready_for name) (stopped (bad_name r))) a b
  invalid_by (Ok u) invalid call = invalid_start invalid call
  invalid_by (Err DiskFailed) invalid call = failed_stop call
  invalid_by (Err NoMemory) invalid call = lacked_stop call
  invalid_by (Err (faults.Cause cause)) invalid call = invalid_stop cause invalid call

  pub named_valid : {X : Type 0} (r : Result X BatchFault) → is_valid_name name ≡ true → Named name r
  named_valid (Ok x) valid = valid
  named_valid (Err DiskFailed) valid = tt
  named_valid (Err NoMemory) valid = tt
  named_valid (Err (faults.Cause cause)) valid = λ invalid. absurd (true≢false (sym valid ∙ invalid))

  pub named_bad : (X : Type 0) (r : Result (Unit {0}) BatchFault) → Named {X = X} name (Err (bad_name r))
  named_bad X (Ok u) = λ invalid. refl
  named_bad X (Err DiskFailed) = tt
  named_bad X (Err NoMemory) = tt
  named_bad X (Err (faults.Cause cause)) = λ invalid. refl
