-- The text of the report of a run that prelinks everything.
use Rattle.std.specs.Prelude.{ℕ, Bool, true, false, not, List, [], ◌∷◌, ◌++◌, codes, count_by, if◌then◌else◌}
use Rattle.std.specs.Fmt.{decimal}
use Rattle.std.specs.List.{flat_map}
use Rattle.pl_base.specs.Digits.{hex16, line_text}
use Rattle.pl_rewrite.specs.declared.rewriting.Report.{Report}
use Rattle.pl_rewrite.specs.declared.rewriting.ReportRow.{ReportRow}
use Rattle.pl_rewrite.specs.declared.rewriting.RowState.{RowState}
use Rattle.pl_rewrite.specs.declared.rewriting.RowState.TheVariants.{Library, Program, Skipped}
use Rattle.pl_texts.specs.declared.detail.Detail.{Detail}
use Rattle.pl_texts.specs.declared.detail.Detail.TheVariants.{Short, Full}
use Rattle.pl_texts.specs.Refusals.{skip_text}

-- ---- the line of a name

-- a file that stayed as it was is current
abbrev pub file_word : Bool → List ℕ
file_word current = if current then codes "current" else codes "prelinked"

abbrev pub state_word : RowState → List ℕ
state_word (Library current slot stamp) = file_word current
state_word (Program current conflicts) = file_word current
state_word (Skipped cause) = codes "skip"

unfoldable pub library_text : ℕ → ℕ → List ℕ
library_text slot stamp = codes "slot " ++ (hex16 slot ++ (codes " stamp " ++ decimal stamp))

unfoldable pub program_text : ℕ → List ℕ
program_text conflicts = codes "conflicts " ++ decimal conflicts

-- a library's slot and stamp, a program's number of conflict rows, or why there is neither
abbrev pub state_text : RowState → List ℕ
state_text (Library current slot stamp) = library_text slot stamp
state_text (Program current conflicts) = program_text conflicts
state_text (Skipped cause) = skip_text cause

unfoldable pub row_line : ReportRow → List ℕ
row_line row = line_text (state_word row.state ∷ codes " " ∷ row.name ∷ codes " " ∷ state_text row.state ∷ [])

-- ---- how many names the run prelinks, how many are current, and how many are not prelinked

abbrev pub is_new : RowState → Bool
is_new (Library current slot stamp) = not current
is_new (Program current conflicts) = not current
is_new (Skipped cause) = false

abbrev pub is_kept : RowState → Bool
is_kept (Library current slot stamp) = current
is_kept (Program current conflicts) = current
is_kept (Skipped cause) = false

abbrev pub is_left : RowState → Bool
is_left (Library current slot stamp) = false
is_left (Program current conflicts) = false
is_left (Skipped cause) = true

unfoldable pub is_prelinked : ReportRow → Bool
is_prelinked row = is_new row.state

unfoldable pub is_current : ReportRow → Bool
is_current row = is_kept row.state

unfoldable pub is_skipped : ReportRow → Bool
is_skipped row = is_left row.state

unfoldable pub counts_line : List ReportRow → List ℕ
counts_line rows = line_text (codes "done " ∷ decimal (count_by is_prelinked rows) ∷ codes " prelinked " ∷ decimal (count_by is_current rows) ∷ codes " current " ∷ decimal (count_by is_skipped rows) ∷ codes " skipped" ∷ [])

-- ---- the whole

abbrev pub name_lines : Detail → List ReportRow → List ℕ
name_lines Short rows = []
name_lines Full rows = flat_map row_line rows

-- the counts, and before them in full a line for each name
unfoldable pub report_text : Detail → Report → List ℕ
report_text detail report = name_lines detail report.rows ++ counts_line report.rows
