use Rattle.std.proofs.Common.{true, false}
use Rattle.pl_scope.proofs.BlockLaws.{only_of, only_of_none}
use Rattle.pl_scope.proofs.block.only_picked.Goals as goal

pub returns-in_default : goal.returns-in_default
returns-in_default c = only_of_none c.args.block.now c.args.pick c.candidates-among.result.now c.any_picked.result c.candidates-among.ensures c.any_picked.ensures c.in_default.is

pub returns-then-has_another : goal.returns-then-has_another
returns-then-has_another c =
    only_of c.args.block.now c.args.pick c.candidates-among.result.now c.in-Some.index c.any_picked.result true c.candidates-among.ensures c.any_picked.ensures c.in-Some.is c.if-has_another.ensures

pub returns-else-has_another : goal.returns-else-has_another
returns-else-has_another c =
    only_of c.args.block.now c.args.pick c.candidates-among.result.now c.in-Some.index c.any_picked.result false c.candidates-among.ensures c.any_picked.ensures c.in-Some.is c.if-has_another.ensures
