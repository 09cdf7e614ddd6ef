use Rattle.std.proofs.Common.{true, false}
use Rattle.pl_sym.specs.declared.class.Class.TheVariants.{Jump}
use Rattle.pl_scope.specs.Probing.{taken, led_to}
use Rattle.pl_scope.proofs.LeastLaws.{only_is, listed}
use Rattle.pl_scope.proofs.probe.only_picked.Goals as goal

pub returns-then-has_another : goal.returns-then-has_another
returns-then-has_another c =
    let probe = c.args.probe.now in
    only_is (taken probe.object.now probe.name.now Jump c.args.pick) probe.object.now.symbols (led_to probe) c.in-Some.index true (listed probe c.args.pick c.requires) c.in-Some.ensures c.if-has_another.ensures

pub returns-else-has_another : goal.returns-else-has_another
returns-else-has_another c =
    let probe = c.args.probe.now in
    only_is (taken probe.object.now probe.name.now Jump c.args.pick) probe.object.now.symbols (led_to probe) c.in-Some.index false (listed probe c.args.pick c.requires) c.in-Some.ensures c.if-has_another.ensures
