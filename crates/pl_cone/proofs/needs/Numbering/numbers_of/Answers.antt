use Rattle.std.proofs.Common.{◌∙◌, Some, ap, ℕ, List}
use Rattle.pl_cone.specs.Needs.{words}
use Rattle.pl_cone.proofs.NeedLaws.{goes_on_trans, tell_more}
use Rattle.pl_cone.proofs.needs.Numbering.numbers_of.Goals as goal

pub number-requires : goal.number-requires
number-requires c = record { numbers = c.loop-name.invariant.numbers; few = c.loop-name.invariant.few }

pub loop-name-preserved : goal.loop-name-preserved
loop-name-preserved c =
    let old = words c.loop-name.self.names.items in
    let new = words c.number.new.self.names.items in
    let goes = c.in_ok-number.ensures.goes_on in
    record {
      numbers = goes.is.numbers;
      goes_on = goes_on_trans (words c.args.self.now.names.items) old new c.loop-name.invariant.goes_on goes.keep;
      few = goes.is.few;
      told = tell_more old new c.args.needed.now c.loop-name.told.items c.push.new.self.items c.loop-name.name-index c.in_ok-number.field-0 c.name-item.result c.loop-name-test.true c.name-item.is goes.keep
          (c.in_ok-number.ensures.number ∙ ap (λ (m : List ℕ). Some m) c.as_str.ensures) c.in_ok-push.ensures.items c.loop-name.invariant.told;
    }

pub returns-clause-goes_on : goal.returns-clause-goes_on
returns-clause-goes_on c = record { is = record { numbers = c.loop-name.invariant.numbers; few = c.loop-name.invariant.few }; keep = c.loop-name.invariant.goes_on }
