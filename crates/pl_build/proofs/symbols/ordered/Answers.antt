use Rattle.std.specs.List.{filter}
use Rattle.pl_build.specs.Symbols.{is_in, ordered}
use Rattle.pl_build.proofs.LoopLaws.{numbers_more, numbers_done}
use Rattle.pl_build.proofs.symbols.ordered.Goals as goal

pub loop-number-init : goal.loop-number-init
unfolding ordered
loop-number-init c = rw c.in_ok-to.ensures

pub loop-number-preserved : goal.loop-number-preserved
loop-number-preserved c = numbers_more (λ b. filter (is_in c.args.settings.now b) c.args.symbols.now) _ _ _ _ _ c.loop-number-test.true c.in_ok-add_bucket.ensures c.loop-number.invariant

pub returns : goal.returns
returns c = numbers_done (λ b. filter (is_in c.args.settings.now b) c.args.symbols.now) _ _ _ _ c.loop-number-test.false c.loop-number.invariant
