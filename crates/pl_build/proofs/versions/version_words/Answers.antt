use Rattle.pl_build.specs.declared.fields.Field.TheVariants.{Half}
use Rattle.pl_build.specs.declared.line.SymbolLine.{SymbolLine}
use Rattle.pl_build.specs.Versions.{version_word}
use Rattle.pl_build.proofs.ListLaws.{fields_more, fields_done}
use Rattle.pl_build.proofs.versions.version_words.Goals as goal

pub loop-symbol-preserved : goal.loop-symbol-preserved
loop-symbol-preserved c = fields_more (λ (s : SymbolLine). Half (version_word c.args.plan.now s)) _ _ _ _ c.symbol-item.result _ c.loop-symbol-test.true c.symbol-item.is (rw c.version_word.ensures at c.in_ok-push_fields-2.ensures) c.loop-symbol.invariant

pub returns : goal.returns
returns c = fields_done (λ (s : SymbolLine). Half (version_word c.args.plan.now s)) _ _ _ _ c.loop-symbol-test.false c.loop-symbol.invariant
