use Rattle.std.proofs.Common.{◌≡◌, List, Some, get_or, true, refl}
use Rattle.std.proofs.lemmas.List.{get_or_default}
use Rattle.pl_journal.specs.Meaning.{Edit, rows_for}
use Rattle.pl_journal.specs.Parts.{committed, journal_of}
use Rattle.pl_journal.specs.Rows.{rows_of}
use Rattle.pl_journal.specs.Spelling.{are_rows}
use Rattle.pl_journal.specs.declared.step.Step.TheVariants.{Skip}
use Rattle.pl_journal.proofs.CarryLemmas.{committing_between, finishing_between, midway_between, steps_are}
use Rattle.pl_journal.proofs.Done.{distinct_test}
use Rattle.pl_journal.proofs.GrammarLaws.{written_rows}
use Rattle.pl_journal.proofs.Meanings.{ends_applied, untouched_stands}
use Rattle.pl_journal.proofs.Phases.{row_of_first_step}
use Rattle.pl_journal.proofs.laws.each_part_stands.Goals as goal

spelled : (edits : List Edit) → are_rows (rows_for edits) ≡ true → rows_of (journal_of edits) ≡ Some (rows_for edits)
spelled edits fine = written_rows (journal_of edits) (rows_for edits) fine refl

pub returns-clause-staging : goal.returns-clause-staging
returns-clause-staging c before v no_own untouched = untouched_stands before no_own v untouched

pub returns-clause-commit : goal.returns-clause-commit
returns-clause-commit c before edits no_own fine v part = committing_between before no_own edits (journal_of edits) (spelled edits fine) v part

pub returns-clause-steps : goal.returns-clause-steps
returns-clause-steps c before edits steps no_own fine does k lt =
    row_of_first_step (committed edits before) (rows_for edits) steps k (get_or steps k Skip) (steps_are before no_own edits (journal_of edits) (spelled edits fine) steps does) lt (get_or_default steps k Skip (get_or steps k Skip) lt)

pub returns-clause-rows : goal.returns-clause-rows
returns-clause-rows c before edits no_own fine v part = midway_between before no_own edits (journal_of edits) (spelled edits fine) v part

pub returns-clause-finish : goal.returns-clause-finish
returns-clause-finish c before edits no_own fine v part = finishing_between before no_own edits (journal_of edits) (spelled edits fine) v part

pub returns-clause-end : goal.returns-clause-end
returns-clause-end c before edits no_own fine = ends_applied before no_own edits (journal_of edits) (spelled edits fine) (distinct_test (rows_for edits) fine)
