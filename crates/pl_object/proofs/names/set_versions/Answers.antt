use Rattle.std.proofs.Common.{[], sym, ◌∙◌, arith, inl}
use Rattle.pl_object.proofs.NameLaws.{versions_begin, versions_more, versions_done}
use Rattle.pl_object.proofs.names.set_versions.Goals as goal

pub loop-index-init : goal.loop-index-init
loop-index-init c = sym (versions_begin c.args.symbols.now [])

pub loop-index-preserved : goal.loop-index-preserved
loop-index-preserved c =
    sym (rw (← c.loop-index.invariant) at (versions_more c.args.symbols.now c.args.words.now c.loop-index.index c.index-symbols-index.result (omega (arith, c.loop-index-test.true, c.loop-index.auto.symbols)) c.if-index-words.true))

pub returns-after-loop-index : goal.returns-after-loop-index
returns-after-loop-index c = c.loop-index.invariant ∙ versions_done c.args.symbols.now c.args.words.now c.loop-index.index (inl (omega (arith, c.loop-index-test.false, c.loop-index.auto.symbols)))
