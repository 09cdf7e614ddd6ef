use Rattle.pl_cone.proofs.NeedLaws.{names_more, next_is_new}
use Rattle.pl_cone.proofs.needs.Numbering.number_files.Goals as goal

pub number-requires : goal.number-requires
number-requires c = record { numbers = c.loop-taken.invariant.numbers; few = c.loop-taken.invariant.few }

pub loop-taken-preserved : goal.loop-taken-preserved
loop-taken-preserved c =
    let new = next_is_new c.args.files.now c.loop-taken.taken-index c.taken-item.result c.as_str.result.now c.loop-taken.self.numbers _ c.requires.files.1.distinct c.loop-taken-test.true c.taken-item.is c.as_str.ensures c.loop-taken.invariant.numbers c.loop-taken.invariant.names in
    record {
      numbers = c.in_ok-number.ensures.goes_on.is.numbers;
      names = names_more c.args.files.now c.loop-taken.taken-index c.taken-item.result c.as_str.result.now _ _ c.loop-taken-test.true c.taken-item.is c.as_str.ensures c.loop-taken.invariant.names (c.in_ok-number.ensures.adds new);
      few = c.in_ok-number.ensures.goes_on.is.few;
    }

pub returns-clause-numbering : goal.returns-clause-numbering
returns-clause-numbering c = record { numbers = c.loop-taken.invariant.numbers; few = c.loop-taken.invariant.few }
