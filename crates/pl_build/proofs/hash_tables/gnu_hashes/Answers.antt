use Rattle.std.proofs.Common.{sym, ◌∙◌}
use Rattle.pl_build.specs.HashTables.{hash_of, is_defined}
use Rattle.pl_build.proofs.ListLaws.{picked_more, picked_less, picked_done}
use Rattle.pl_build.proofs.hash_tables.gnu_hashes.Goals.{then-is_defined+in_ok-push, else-is_defined}
use Rattle.pl_build.proofs.hash_tables.gnu_hashes.Goals as goal

pub loop-symbol-preserved : goal.loop-symbol-preserved
loop-symbol-preserved c = elim c.if-is_defined.branch [
  | then-is_defined+in_ok-push w ↦
      rw w.hashes-is (picked_more is_defined hash_of _ _ _ _ c.symbol-item.result _ c.loop-symbol-test.true c.symbol-item.is (sym c.is_defined.ensures ∙ w.if-is_defined.true) (rw w.hash_of.ensures at w.in_ok-push.ensures.items) c.loop-symbol.invariant)
  | else-is_defined w ↦ rw w.hashes-is (picked_less is_defined hash_of _ _ _ c.symbol-item.result _ c.loop-symbol-test.true c.symbol-item.is (sym c.is_defined.ensures ∙ w.if-is_defined.false) c.loop-symbol.invariant)
]

pub returns : goal.returns
returns c = picked_done is_defined hash_of _ _ _ _ c.loop-symbol-test.false c.loop-symbol.invariant
