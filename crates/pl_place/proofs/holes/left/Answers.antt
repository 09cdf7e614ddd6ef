use Rattle.std.proofs.Common.{◌∙◌, ap}
use Rattle.pl_slots.specs.Holes.{is_free}
use Rattle.std.proofs.lemmas.Result.{IfOk-weaker}
use Rattle.pl_place.proofs.LeftLaws.{free_left}
use Rattle.pl_place.proofs.holes.left.Goals as goal

pub returns-clause-free : goal.returns-clause-free
returns-clause-free c = IfOk-weaker c.holes_left.result _ _ (λ holes is address. ap (is_free address) is ∙ free_left address c.args.region c.args.busy.now) c.holes_left.ensures
