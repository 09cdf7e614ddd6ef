use Rattle.std.proofs.Common.{◌∙◌, ap, sym, subst}
use Rattle.std.proofs.lemmas.Result.{IfOk-weaker}
use Rattle.pl_slots.specs.Holes.{AreHoles, is_free}
use Rattle.pl_slots.proofs.HoleLaws.{without_are_holes, free_without}
use Rattle.pl_slots.proofs.holes.without.Goals as goal

pub returns-clause-holes : goal.returns-clause-holes
returns-clause-holes c = IfOk-weaker c.cut_each.result _ _ (λ left is some are. subst AreHoles (sym is) (without_are_holes c.args.taken c.args.holes.now some are)) c.cut_each.ensures

pub returns-clause-free : goal.returns-clause-free
returns-clause-free c = IfOk-weaker c.cut_each.result _ _ (λ left is address. ap (is_free address) is ∙ free_without address c.args.taken c.args.holes.now) c.cut_each.ensures
