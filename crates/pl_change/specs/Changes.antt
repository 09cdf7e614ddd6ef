-- What a command changes, as the rows of a journal.
use Rattle.std.specs.Prelude.{ℕ, not, List, Result, Ok}
use Rattle.pl_base.specs.Answers.{◌>>=◌, unless}
use Rattle.pl_base.specs.Files.{Files}
use Rattle.pl_journal.specs.Meaning.{rows_for}
use Rattle.pl_journal.specs.Spelling.{are_rows}
use Rattle.pl_journal.specs.declared.change.Change.{Change}
use Rattle.pl_change.specs.Commands.{Meaning, and_then, ready_for}
use Rattle.pl_change.specs.Store.{removed}
use Rattle.pl_change.specs.declared.cause.Cause.{Cause}
use Rattle.pl_change.specs.declared.cause.Cause.TheVariants.{TooManyFiles}

-- a journal can have these rows
abbrev pub fitting : List Change → Result (List Change) Cause
fitting rows = unless (not (are_rows (rows_for rows))) TooManyFiles (Ok rows)

-- the row of a removal, or its first cause
unfoldable pub removal_of : Files → List ℕ → Result (List Change) Cause
removal_of files name = removed files name >>= fitting

-- a whole removal
abbrev pub removal_meant : List ℕ → Meaning Cause
removal_meant name = and_then (ready_for name) (λ files. removal_of files name)
