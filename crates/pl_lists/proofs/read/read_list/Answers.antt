use Rattle.std.proofs.Common.{arith, subst, Result, List}
use Rattle.pl_base.specs.Answers.{Answers}
use Rattle.pl_lists.specs.Reading as spec
use Rattle.pl_lists.specs.declared.fault.ListFault.{ListFault}
use Rattle.pl_lists.specs.declared.list_row.ListRow.{ListRow}
use Rattle.pl_lists.proofs.ListLaws.{answer_found, is_read, is_one}
use Rattle.pl_lists.proofs.read.read_list.Goals as goal

pub returns-clause-found : goal.returns-clause-found
returns-clause-found c = answer_found c.args.table.now c.args.strings.now c.list_of.result (λ i. omega (arith, c.type_inv.table i)) c.list_of.ensures

pub returns-clause-only : goal.returns-clause-only
returns-clause-only c = λ rows list. subst (λ (meant : Result (List ListRow) ListFault). Answers spec.is_memory c.list_of.result meant) (is_read c.args.table.now c.args.strings.now rows list) c.list_of.ensures

pub returns-clause-unique : goal.returns-clause-unique
returns-clause-unique c = is_one c.args.table.now c.args.strings.now
