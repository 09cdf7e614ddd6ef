use Rattle.std.proofs.Common.{arith, subst, Result}
use Rattle.pl_base.specs.Answers.{Answers}
use Rattle.pl_undo.specs.Reading as spec
use Rattle.pl_undo.specs.declared.fault.UndoFault.{UndoFault}
use Rattle.pl_undo.specs.declared.undo.Undo.{Undo}
use Rattle.pl_undo.proofs.UndoLaws.{answer_found, is_read, is_one}
use Rattle.pl_undo.proofs.read.read_undo.Goals as goal

pub returns-clause-found : goal.returns-clause-found
returns-clause-found c = answer_found c.args.bytes.now c.undo_of.result (λ i. omega (arith, c.type_inv.bytes i)) c.undo_of.ensures

pub returns-clause-only : goal.returns-clause-only
returns-clause-only c = λ undo of. subst (λ (meant : Result Undo UndoFault). Answers spec.is_memory c.undo_of.result meant) (is_read c.args.bytes.now undo of) c.undo_of.ensures

pub returns-clause-unique : goal.returns-clause-unique
returns-clause-unique c = is_one c.args.bytes.now
