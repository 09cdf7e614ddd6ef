use Rattle.std.proofs.Common.{◌<◌, arith}
use Rattle.std.proofs.lemmas.Option.{slice_get_within}
use Rattle.std.proofs.lemmas.Result.{on_ok_weaker}
use Rattle.pl_scope.specs.Walk.{itself}
use Rattle.pl_scope.specs.declared.constants.TheConstants.{MAX_MEMBERS}
use Rattle.pl_scope.proofs.WalkLaws.{walk_goes_on}
use Rattle.pl_scope.proofs.order.Order.give.Goals as goal

pub returns-clause-goes_on : goal.returns-clause-goes_on
returns-clause-goes_on c =
    on_ok_weaker c.enter.result
    (λ given files name walked wanted is file under_way.
    let within = slice_get_within c.args.self.now.names c.args.self.now.given wanted is in
    let few = c.enter.ensures.walking.few in
    let lt : c.args.self.now.given < MAX_MEMBERS = omega arith in
    walk_goes_on itself files name walked c.args.self.now c.enter.new.self wanted c.args.object.now lt is file given under_way)
    c.enter.ensures.ok
