use Rattle.std.proofs.Common.{◌≡◌, ap}
use Rattle.std.proofs.lemmas.Result.{on_ok_weaker, IfErr-weaker}
use Rattle.pl_scope.specs.Walk.{itself}
use Rattle.pl_loader.specs.Loading.{Load}
use Rattle.pl_loader.proofs.LoadLaws.{load_goes_on}
use Rattle.pl_loader.proofs.WholeLaws.{whole_stops}
use Rattle.pl_loader.proofs.loader.Loader.give.Goals as goal

pub returns-clause-goes_on : goal.returns-clause-goes_on
returns-clause-goes_on g c =
    let same : c.self.inside.walk ≡ c.args.self.now.walk = ap (λ (l : Load _). l.walk) c.self.view_is in
    on_ok_weaker c.give.result (λ given files name wanted is there way. load_goes_on itself files name wanted _ c.args.self.now.walk c.give.new.self is there given way) (rw same at c.give.ensures.ok)

pub returns-clause-stops : goal.returns-clause-stops
returns-clause-stops g c =
    let same : c.self.inside.walk ≡ c.args.self.now.walk = ap (λ (l : Load _). l.walk) c.self.view_is in
    IfErr-weaker c.give.result _ _ (λ f stops choose busy files name wanted is there way. whole_stops choose busy itself files name wanted _ c.args.self.now.walk f is there stops way) (rw same at c.give.ensures.err)
