use Rattle.pl_build.specs.SymbolTable.{entry_bytes, entry_of}
use Rattle.pl_build.proofs.ListLaws.{rows_more, rows_done}
use Rattle.pl_build.proofs.symbol_table.symbol_table.Goals as goal

pub loop-symbol-preserved : goal.loop-symbol-preserved
loop-symbol-preserved c = rows_more (entry_of c.args.plan.now) entry_bytes _ _ _ _ c.symbol-item.result _ c.loop-symbol-test.true c.symbol-item.is (rw c.entry_of.ensures at c.in_ok-push_to-2.ensures) c.loop-symbol.invariant

pub returns : goal.returns
returns c = rows_done (entry_of c.args.plan.now) entry_bytes _ _ _ _ c.loop-symbol-test.false c.loop-symbol.invariant
