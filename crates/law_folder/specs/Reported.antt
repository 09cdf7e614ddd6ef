-- What the report of a run that prelinks everything says of each name: what may be prelinked is said to be prelinked, unless it is a program whose file would be longer than a folder stores.
use Rattle.std.specs.Prelude.{◌≡◌, ◌⊎◌, ℕ, ⊤, true, List, Some, Ok}
use Rattle.std.specs.FinMap.{get}
use Rattle.std.specs.List.{All}
use Rattle.pl_base.specs.Bytes.{IsBytes}
use Rattle.pl_base.specs.Files.{Files}
use Rattle.pl_batch.specs.All.{all_reported}
use Rattle.pl_batch.specs.Folder.{named}
use Rattle.pl_batch.specs.declared.prelinking.Prelinking.{Prelinking}
use Rattle.pl_rewrite.specs.Skip.TheVariants.{Form}
use Rattle.pl_elf.specs.declared.range.Range.{Range}
use Rattle.pl_rewrite.specs.Plans.{is_candidate}
use Rattle.pl_rewrite.specs.Plans.{RunPlan}
use Rattle.pl_rewrite.specs.declared.rewriting.Report.{Report}
use Rattle.pl_rewrite.specs.declared.rewriting.ReportRow.{ReportRow}
use Rattle.pl_rewrite.specs.declared.rewriting.RowState.{RowState}
use Rattle.pl_rewrite.specs.declared.rewriting.RowState.TheVariants.{Library, Program, Skipped}
use Rattle.law_sound.specs.Rule as sound
use Rattle.law_folder.specs.Candidates.{HasPlan, IsTooLong}
use Rattle.law_folder.specs.Causes.{IsAsked}

-- the name is said to be prelinked, in this run or before it
abbrev pub SaysPrelinked : RowState → Type 0
SaysPrelinked (Library current slot stamp) = ⊤
SaysPrelinked (Program current conflicts) = ⊤
SaysPrelinked (Skipped cause) = ⊥

-- the name is skipped as the program whose file is too long that it is
pub record SaysTooLong (files : sound.Files) (region : Range) (plan : RunPlan) (row : ReportRow) : Type 0 where
  pub says : row.state ≡ Skipped (Form row.name 6)
  pub is : IsTooLong files region plan row.name

-- a name that may be prelinked is said to be prelinked, or too long; and of no other name is the sixth form fault said
pub record TellsName (files : sound.Files) (region : Range) (plan : RunPlan) (row : ReportRow) : Type 0 where
  pub candidate : is_candidate files region row.name ≡ true → SaysPrelinked row.state ⊎ SaysTooLong files region plan row
  pub sixth : (m : List ℕ) → row.state ≡ Skipped (Form m 6) → SaysTooLong files region plan row

-- by the plan of the run
pub record TellsNames (files : Files) (p : Prelinking) (report : Report) : Type 0 where
  pub plan : RunPlan
  pub planned : HasPlan files p plan
  pub each : All (TellsName (named files) p.region plan) report.rows

-- so is each row of the report of a run over files that are bytes
abbrev pub ReportsTellNames : Type 0
ReportsTellNames =
    (files : Files) (p : Prelinking) (report : Report) → ((n file : List ℕ) → get files n ≡ Some file → IsBytes file) → IsAsked p → all_reported files p ≡ Ok report → TellsNames files p report
