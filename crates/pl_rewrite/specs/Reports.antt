-- What a run that prelinks everything reports of each name.
use Rattle.std.specs.Prelude.{ℕ, Bool, List, map, length, Option, Some, None, Result, Ok, Err, if◌then◌else◌}
use Rattle.pl_cone.specs.declared.skip.Skip.{Skip}
use Rattle.pl_cone.specs.declared.skip.Skip.TheVariants as skips
use Rattle.pl_elf.specs.Kinds.{is_library}
use Rattle.pl_elf.specs.declared.range.Range.{Range}
use Rattle.pl_form.specs.Files.{marked_in}
use Rattle.pl_form.specs.declared.file.Marked.{Marked}
use Rattle.pl_cone.specs.Plans.{is_current}
use Rattle.pl_cone.specs.Skipped.{skip_of}
use Rattle.pl_cone.specs.Plans.{RunPlan}
use Rattle.law_sound.specs.Rule.{Files}
use Rattle.pl_rewrite.specs.Changes.{next}
use Rattle.pl_rewrite.specs.declared.rewriting.Report.{Report}
use Rattle.pl_rewrite.specs.declared.rewriting.ReportRow.{ReportRow}
use Rattle.pl_rewrite.specs.declared.rewriting.RowState.{RowState}
use Rattle.pl_rewrite.specs.declared.rewriting.RowState.TheVariants.{Library, Program, Skipped}

-- a prelinked file: a library's slot and stamp, a program's number of conflict rows
abbrev pub state_of : Bool → Marked → RowState
state_of current m = if is_library m.object.kind then Library current m.slot m.stamp else Program current (length m.conflicts)

-- what a file is made of, if it is there and prelinked
abbrev pub marked_at : Option (List ℕ) → Option Marked
marked_at None = None
marked_at (Some file) = marked_in file

-- the file of a name that is a candidate: where its form is too large it is not prelinked
abbrev pub state_in : List ℕ → Bool → Option Marked → RowState
state_in n current (Some m) = state_of current m
state_in n current None = Skipped (skips.Form n 6)

-- by the first cause why it is no candidate, and by its file after the run
abbrev pub state_by : List ℕ → Bool → Result (Unit {0}) Skip → Option Marked → RowState
state_by n current (Err cause) after = Skipped cause
state_by n current (Ok u) after = state_in n current after

unfoldable pub state_after : Files → Range → RunPlan → List ℕ → RowState
state_after files region p n = state_by n (is_current files region p.slots n) (skip_of files region n) (marked_at (next files region p n))

abbrev pub row_of : Files → Range → RunPlan → List ℕ → ReportRow
row_of files region p n = record { name = n; state = state_after files region p n }

-- one row for each of these names, in their order
unfoldable pub report : Files → List (List ℕ) → Range → RunPlan → Report
report files ns region p = record { rows = map (row_of files region p) ns }
