use Rattle.std.proofs.Common.{◌∙◌, ap, sym, subst}
use Rattle.std.proofs.lemmas.Result.{IfOk-weaker}
use Rattle.pl_slots.specs.Holes.{AreHoles, is_free}
use Rattle.pl_slots.proofs.HoleLaws.{region_are_holes, free_in_region}
use Rattle.pl_slots.proofs.holes.region_holes.Goals as goal

pub returns-clause-holes : goal.returns-clause-holes
returns-clause-holes c = IfOk-weaker c.whole_region.result _ _ (λ holes is. subst AreHoles (sym is) (region_are_holes c.args.region)) c.whole_region.ensures

pub returns-clause-free : goal.returns-clause-free
returns-clause-free c = IfOk-weaker c.whole_region.result _ _ (λ holes is address. ap (is_free address) is ∙ free_in_region address c.args.region) c.whole_region.ensures
