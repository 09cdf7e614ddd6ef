-- The text of a run that prelinks everything, or of what one would do.
use Rattle.std.specs.Prelude.{ℕ, List, Result, Ok}
use Rattle.pl_base.specs.Answers.{◌>>=◌, because}
use Rattle.pl_base.specs.Files.{Files}
use Rattle.pl_batch.specs.All.{all_reported}
use Rattle.pl_batch.specs.declared.prelinking.Prelinking.{Prelinking}
use Rattle.pl_texts.specs.declared.cause.Cause.{Cause}
use Rattle.pl_texts.specs.declared.detail.Detail.{Detail}
use Rattle.pl_texts.specs.Stops.{of_batch}
use Rattle.pl_cli.specs.Writes.{prelinks}
use Rattle.pl_texts.specs.Reports.{report_text}

-- `-a -n`: of the files as they stand
unfoldable pub previewed : Detail → Prelinking → Files → Result (List ℕ) Cause
previewed detail asked files = because of_batch (all_reported files asked) >>= λ report. Ok (report_text detail report)

-- `-a`: of the files that a folder stands for, where the changes can be made
unfoldable pub reported : Detail → Prelinking → Files → Result (List ℕ) Cause
reported detail asked files = prelinks asked files >>= λ rows. previewed detail asked files
