use Rattle.std.proofs.Common.{List, Result, arith, subst}
use Rattle.pl_base.specs.Answers.{Answers}
use Rattle.pl_journal.specs.declared.row.Row.{Row}
use Rattle.pl_journal.specs.declared.fault.JournalFault.{JournalFault}
use Rattle.pl_journal.specs.Reading.{is_memory}
use Rattle.pl_journal.proofs.GrammarLaws.{is_found, is_read, is_one, not_failed}
use Rattle.pl_journal.proofs.reading.read_journal.Goals as goal

pub returns-clause-found : goal.returns-clause-found
returns-clause-found c = is_found c.args.bytes.now c.read.result (λ i. omega (arith, c.type_inv.bytes i)) c.read.ensures

pub returns-clause-only : goal.returns-clause-only
returns-clause-only c = λ rows of. subst (λ (meant : Result (List Row) JournalFault). Answers is_memory c.read.result meant) (is_read c.args.bytes.now rows of) c.read.ensures

pub returns-clause-unique : goal.returns-clause-unique
returns-clause-unique c = is_one c.args.bytes.now

pub returns-clause-plain : goal.returns-clause-plain
returns-clause-plain c = not_failed c.read.result (λ rows. rows) c.args.bytes.now c.read.ensures
