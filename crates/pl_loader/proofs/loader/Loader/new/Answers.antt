use Rattle.std.proofs.Common.{sym, subst}
use Rattle.pl_scope.specs.Walk.{itself}
use Rattle.pl_loader.specs.Loading.{Loading}
use Rattle.pl_loader.specs.Walk.{IsUnderWay}
use Rattle.pl_loader.proofs.LoadLaws.{load_begins}
use Rattle.pl_loader.proofs.TellsLaws.{load_itself_tells}
use Rattle.pl_loader.proofs.loader.Loader.new.Goals as goal

pub returns-clause-begins : goal.returns-clause-begins
returns-clause-begins g c = λ file. subst (λ (l : Loading). IsUnderWay itself file c.args.name.now l) (sym c.in_ok-new.ensures.begun) (load_begins itself file c.args.name.now)

pub returns-in_err-new-clause-never_memory : goal.returns-in_err-new-clause-never_memory
returns-in_err-new-clause-never_memory g c = λ choose. load_itself_tells choose c.args.busy c.args.name.now

pub returns-clause-never_memory : goal.returns-clause-never_memory
returns-clause-never_memory g c = λ choose. load_itself_tells choose c.args.busy c.args.name.now
