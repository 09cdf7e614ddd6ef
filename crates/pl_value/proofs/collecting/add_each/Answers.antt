use Rattle.std.proofs.Common.{ap, ◌∙◌}
use Rattle.std.proofs.lemmas.Result.{err_from_is_err_and}
use Rattle.pl_base.specs.Answers.{because}
use Rattle.pl_scope.specs.Scope.{objects}
use Rattle.pl_value.specs.Meanings.{meaning}
use Rattle.pl_value.specs.declared.fault.OrdinaryFault.TheVariants.{Link}
use Rattle.pl_value.proofs.CollectingLaws.{reloc_more, reloc_stops, relocs_done}
use Rattle.pl_value.proofs.collecting.add_each.Goals as goal

pub meaning-requires-clause-reference : goal.meaning-requires-clause-reference
meaning-requires-clause-reference c = rw c.loop-reloc.invariant.same (c.requires.references c.loop-reloc.reloc-index _ c.loop-reloc-test.true)

pub returns-in_err-meaning-clause-err : goal.returns-in_err-meaning-clause-err
returns-in_err-meaning-clause-err c =
    let p = err_from_is_err_and c.from_residual.result c.from_residual.ensures.1 in
    let exact = rw c.loop-reloc.invariant.same at c.in_err-meaning.ensures.exact in
    rw (p.1, p.2) (ap (because Link) (reloc_stops (meaning (objects c.args.kept.now) c.args.places.now c.args.tls.now) c.args.member c.args.relocs.now c.loop-reloc.reloc-index _ c.loop-reloc.meanings _ _ c.loop-reloc-test.true exact c.loop-reloc.invariant.so_far))

pub loop-reloc-preserved : goal.loop-reloc-preserved
loop-reloc-preserved c =
    let exact = rw c.loop-reloc.invariant.same at c.in_ok-meaning.ensures.exact in
    record {
      so_far = reloc_more (meaning (objects c.args.kept.now) c.args.places.now c.args.tls.now) c.args.member c.args.relocs.now c.loop-reloc.reloc-index _ c.loop-reloc.meanings _ _ _ c.loop-reloc-test.true exact c.in_ok-push.ensures.ok c.loop-reloc.invariant.so_far;
      same = c.in_ok-meaning.ensures.same ∙ c.loop-reloc.invariant.same;
    }

pub returns-clause-ok : goal.returns-clause-ok
returns-clause-ok c =
    relocs_done (meaning (objects c.args.kept.now) c.args.places.now c.args.tls.now) c.args.member c.args.relocs.now c.loop-reloc.reloc-index c.loop-reloc.meanings _ c.loop-reloc-test.false c.loop-reloc.invariant.so_far
