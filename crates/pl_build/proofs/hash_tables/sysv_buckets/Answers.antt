use Rattle.pl_hash.specs.Hash.{sysv}
use Rattle.pl_build.specs.declared.line.SymbolLine.{SymbolLine}
use Rattle.pl_build.specs.Symbols.{bucket_of}
use Rattle.pl_build.proofs.ListLaws.{map_more, map_done}
use Rattle.pl_build.proofs.hash_tables.sysv_buckets.Goals as goal

pub loop-symbol-preserved : goal.loop-symbol-preserved
loop-symbol-preserved c = map_more (λ (s : SymbolLine). bucket_of c.args.plan.now.settings.buckets (sysv s.name)) _ _ _ _ c.symbol-item.result _ c.loop-symbol-test.true c.symbol-item.is (rw (c.bucket_of.ensures, c.sysv_hash.ensures, c.as_slice.ensures) at c.in_ok-push.ensures.items) c.loop-symbol.invariant

pub returns : goal.returns
returns c = map_done (λ (s : SymbolLine). bucket_of c.args.plan.now.settings.buckets (sysv s.name)) _ _ _ _ c.loop-symbol-test.false c.loop-symbol.invariant
