use Rattle.std.proofs.Common.{arith, subst, Result, List}
use Rattle.pl_base.specs.Answers.{Answers}
use Rattle.pl_lists.specs.Reading as spec
use Rattle.pl_lists.specs.declared.fault.ListFault.{ListFault}
use Rattle.pl_lists.specs.declared.conflict_row.ConflictRow.{ConflictRow}
use Rattle.pl_lists.proofs.ConflictLaws.{answer_found, is_read, is_one}
use Rattle.pl_lists.proofs.conflicts.read_conflicts.Goals as goal

pub returns-clause-found : goal.returns-clause-found
returns-clause-found c = answer_found c.args.table.now c.conflicts_of.result (λ i. omega (arith, c.type_inv.table i)) c.conflicts_of.ensures

pub returns-clause-only : goal.returns-clause-only
returns-clause-only c = λ rows of. subst (λ (meant : Result (List ConflictRow) ListFault). Answers spec.is_memory c.conflicts_of.result meant) (is_read c.args.table.now rows of) c.conflicts_of.ensures

pub returns-clause-unique : goal.returns-clause-unique
returns-clause-unique c = is_one c.args.table.now
