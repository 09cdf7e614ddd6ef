-- What `-a -n` finds, from what pl_batch finds.
use Rattle.std.proofs.Common.{◌≡◌, ℕ, refl, sym, ap, ◌∙◌}
use Rattle.std.specs.Prelude.{Result, Ok, Err, Vec}
use Rattle.std.specs.declared.alloc.Global.{Global}
use Rattle.pl_base.specs.Answers.{because, ◌>>=◌}
use Rattle.pl_base.specs.Files.{Files}
use Rattle.pl_folder.specs.Seen.{Seen}
use Rattle.pl_texts.specs.Report.{Report}
use Rattle.pl_batch.specs.All.{all_reported}
use Rattle.pl_change.specs.Answers as batch
use Rattle.pl_change.specs.declared.cause.Cause as causes
use Rattle.pl_change.specs.declared.fault.BatchFault.{BatchFault}
use Rattle.pl_change.specs.declared.fault.BatchFault.TheVariants as batch_faults
use Rattle.pl_batch.specs.declared.prelinking.Prelinking.{Prelinking}
use Rattle.pl_texts.specs.declared.detail.Detail.{Detail}
use Rattle.pl_texts.specs.declared.stop.Stop.TheVariants as stops
use Rattle.pl_cli.specs.Came.{HasPreviewed}
use Rattle.pl_cli.specs.Reports.{previewed}
use Rattle.pl_texts.specs.Reports.{report_text}
use Rattle.pl_texts.specs.Stops.{of_batch_fault}
use Rattle.pl_texts.specs.Stops.{of_batch}
use Rattle.pl_texts.proofs.CallLemmas.{looked_all}

-- what is found, as a text or a cause
previewed_by : (asked : Prelinking) (detail : Detail) (files : Files) (found : Result Report causes.Cause) → all_reported files asked ≡ found → previewed detail asked files ≡ (because of_batch found >>= λ report. Ok (report_text detail report))
unfolding previewed
previewed_by asked detail files found is = ap (λ (r : Result Report causes.Cause). because of_batch r >>= λ report. Ok (report_text detail report)) is

module _ (asked : Prelinking) (detail : Detail) {a b : Seen} where
  pub preview_stopped : (fault : BatchFault) → batch.Finds {Y = Report} (all_reported a.files asked) (λ report. report) (Err fault) a b → HasPreviewed asked detail (Err (of_batch_fault fault)) a b
  preview_stopped batch_faults.DiskFailed found = record { means = tt; reads = refl; fails = λ broken. refl; calls = found.calls }
  preview_stopped batch_faults.NoMemory found = record { means = tt; reads = refl; fails = λ broken. refl; calls = found.calls }
  preview_stopped (batch_faults.Cause cause) found = record { means = λ told. previewed_by asked detail a.files (Err cause) (found.means (told refl)); reads = refl; fails = λ broken. refl; calls = found.calls }

  module _ (report : Report) (found : batch.Finds (all_reported a.files asked) (λ (r : Report). r) (Ok report) a b) where
    -- there was no memory for the text
    pub preview_lacks : HasPreviewed asked detail (Err stops.NoMemory) a b
    preview_lacks = record { means = tt; reads = refl; fails = λ broken. refl; calls = looked_all found.calls }

    pub was_previewed : (text : Vec ℕ Global) → text.items ≡ report_text detail report → HasPreviewed asked detail (Ok text) a b
    was_previewed text is = record { means = λ told. previewed_by asked detail a.files (Ok report) (found.means (told refl)) ∙ ap Ok (sym is); reads = refl; fails = λ broken. refl; calls = found.calls }
