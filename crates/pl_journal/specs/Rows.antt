-- A journal of changes of files, and what a folder with one stands for.
use Rattle.std.specs.Prelude.{ℕ, ◌+◌, ltb, length, ◌&&◌, Bool, true, cond, List, [], ◌∷◌, Option, Some, None, is_some}
use Rattle.pl_folder.specs.Disk.{View, same}
use Rattle.pl_folder.specs.declared.TheConstants.{STORED}
use Rattle.pl_journal.specs.Names.{beside, is_journal_name, journal}
use Rattle.pl_journal.specs.Reading.{rows_spelled}
use Rattle.pl_journal.specs.declared.row.Row.{Row}
use Rattle.pl_journal.specs.declared.row.Row.TheVariants.{Put, Drop}

-- the rows that a journal's bytes spell, none where they are outside its grammar; a file that is too large to be taken is
unfoldable pub rows_of : List ℕ → Option (List Row)
rows_of bytes = cond (ltb STORED (length bytes)) None (rows_spelled bytes)

-- without a journal there are no rows
abbrev pub rows_in : Option (List ℕ) → Option (List Row)
rows_in None = Some []
rows_in (Some bytes) = rows_of bytes

-- these rows, the first of them being row i, those of `keep` being done
abbrev pub done_from : ℕ → List Row → (ℕ → Bool) → View → View
done_from i [] keep v n = v n
done_from i (Put name ∷ rows) keep v n =
    cond (keep i && same n (beside i)) None (cond (keep i && (same n name && is_some (v (beside i)))) (v (beside i)) (done_from (i + 1) rows keep v n))
done_from i (Drop name ∷ rows) keep v n = cond (keep i && same n name) None (done_from (i + 1) rows keep v n)

-- a folder with these rows of its journal done
abbrev pub done_by : Option (List Row) → (ℕ → Bool) → View → View
done_by None keep v = v
done_by (Some rows) keep v = done_from 0 rows keep v

unfoldable pub done : (ℕ → Bool) → View → View
done keep v = done_by (rows_in (v journal)) keep v

-- without the journal's own names
abbrev pub clean : View → View
clean v n = cond (is_journal_name n) None (v n)

abbrev pub all_done : Option (List Row) → View → View
all_done None v = v
all_done (Some rows) v = clean (done_from 0 rows (λ _. true) v)

-- what a folder stands for: all rows of its journal done, and none of the journal's own names; where the journal is outside its grammar the folder itself
unfoldable pub recovered : View → View
recovered v = all_done (rows_in (v journal)) v
