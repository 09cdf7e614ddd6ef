use Rattle.std.proofs.Common.{◌≡◌, ◌∙◌, None, ap, subst, sym}
use Rattle.std.proofs.lemmas.Result.{IfOk-weaker}
use Rattle.pl_loader.specs.Started as start
use Rattle.pl_weave.specs.Opening.{Opened}
use Rattle.pl_weave.proofs.LedLaws.{unrefused}
use Rattle.pl_weave.proofs.opening.Opening.finish.Goals as goal

pub returns-in-None-clause-ok : goal.returns-in-None-clause-ok
returns-in-None-clause-ok g c =
    let same : c.self.inside.loader ≡ c.args.self.now.load = ap (λ (o : Opened _). o.load) c.self.view_is in
    let none : c.args.self.now.fault ≡ None = sym (ap (λ (o : Opened _). o.fault) c.self.view_is) ∙ c.in-None.is in
    IfOk-weaker c.start.result _ _ (λ s exact choose follows. subst (λ meant. start.Starts s meant) (sym (unrefused choose c.args.self.now none)) (exact choose follows)) (rw same at c.start.ensures.exact)
