-- The files after a run, from what pl_batch makes of a folder.
use Rattle.std.proofs.Common.{◌≡◌, ℕ, ◌+◌, List, [], ◌∷◌, true, cond, Option, Some, None, refl, sym, ap, ◌∙◌}
use Rattle.std.specs.Prelude.{Result, OnOk}
use Rattle.std.specs.FinMap.{get, get-insert, get-remove}
use Rattle.std.specs.Cmp.Lexicographic.{nat_list_cmp_total}
use Rattle.std.proofs.lemmas.Bool.{false≢true}
use Rattle.pl_base.specs.Files.{Files}
use Rattle.pl_base.proofs.FilesLaws.{equal_files}
use Rattle.pl_folder.specs.Disk.{Name, same}
use Rattle.pl_folder.specs.Seen.{Done}
use Rattle.pl_journal.specs.Meaning.{mixed}
use Rattle.pl_journal.specs.declared.change.Change.{Change}
use Rattle.pl_journal.specs.declared.change.Change.TheVariants.{Put, Drop}
use Rattle.pl_change.specs.Answers.{fault_ending}
use Rattle.pl_batch.specs.Changes.{run_meant}
use Rattle.pl_change.specs.Commands.{CommandsFiles, Made, Meaning, Refused, stopped}
use Rattle.pl_change.specs.Restored.{restored}
use Rattle.pl_change.specs.declared.cause.Cause.{Cause}
use Rattle.pl_change.specs.declared.fault.BatchFault.{BatchFault}
use Rattle.pl_change.specs.declared.fault.BatchFault.TheVariants as batch_faults
use Rattle.pl_batch.specs.declared.run.Run.TheVariants as runs
use Rattle.pl_change.proofs.RestoredLemmas.{restored_before}
use Rattle.pl_demo.specs.Prelinked.{after, is_refused, prelinked, with_rows}
use Rattle.pl_demo.proofs.AnswerLemmas.{on_ok}
use Rattle.pl_demo.specs.declared.prelinking.TheConstants.{ASKED}

-- changes that are all made
pub rows_get : (i : ℕ) (rows : List Change) (files : Files) (n : Name) → get (with_rows rows files) n ≡ mixed i rows (λ _. true) (get files) n
rows_get i [] files n = refl
rows_get i (Put name bytes ∷ rows) files n = get-insert nat_list_cmp_total (with_rows rows files) name bytes n ∙ ap (λ (o : Option (List ℕ)). cond (same n name) (Some bytes) o) (rows_get (i + 1) rows files n)
rows_get i (Drop name ∷ rows) files n = get-remove nat_list_cmp_total (with_rows rows files) name n ∙ ap (λ (o : Option (List ℕ)). cond (same n name) None o) (rows_get (i + 1) rows files n)

module _ (meant : Meaning Cause) (a b : Files) where
  made_after : CommandsFiles meant Made Done a b → b ≡ after (meant (restored a)) (restored a)
  made_after files =
      let made = files (restored a) (restored_before a) in
      equal_files b (with_rows made.0 (restored a)) (λ n. made.1.files n ∙ sym (rows_get 0 made.0 (restored a) n))
      ∙ sym (ap (λ (r : Result (List Change) Cause). after r (restored a)) made.1.means)

  refused_after : (cause : Cause) → CommandsFiles meant (Refused cause) Done a b → b ≡ after (meant (restored a)) (restored a)
  refused_after cause files =
      let left = files (restored a) (restored_before a) in
      left.files ∙ sym (ap (λ (r : Result (List Change) Cause). after r (restored a)) left.means)

module _ (a b : Files) where
  -- the changes are made
  pub was_prelinked : CommandsFiles (run_meant (runs.All ASKED)) Made Done a b → b ≡ prelinked a
  unfolding prelinked
  was_prelinked files = made_after (run_meant (runs.All ASKED)) a b files

  was_refused : (cause : Cause) → CommandsFiles (run_meant (runs.All ASKED)) (Refused cause) Done a b → b ≡ prelinked a
  unfolding prelinked
  was_refused cause files = refused_after (run_meant (runs.All ASKED)) a b cause files

  -- the run stopped: where that is for a cause, it was refused
  pub was_stopped : {X E : Type 0} (fault : BatchFault) (r : Result X E) → OnOk r (is_refused fault ≡ true) → CommandsFiles (run_meant (runs.All ASKED)) (stopped fault) (fault_ending fault) a b → OnOk r (b ≡ prelinked a)
  was_stopped batch_faults.DiskFailed r refused files = on_ok r (λ e. absurd (false≢true e)) refused
  was_stopped batch_faults.NoMemory r refused files = on_ok r (λ e. absurd (false≢true e)) refused
  was_stopped (batch_faults.Cause cause) r refused files = on_ok r (λ e. was_refused cause files) refused
