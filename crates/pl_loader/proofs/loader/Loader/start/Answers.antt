use Rattle.std.proofs.lemmas.Result.{IfOk-weaker, IfErr-weaker}
use Rattle.pl_scope.specs.Walk.{itself}
use Rattle.pl_loader.proofs.StartLaws.{starts_chosen, fails_chosen}
use Rattle.pl_loader.proofs.WholeLaws.{whole_starts, whole_fails}
use Rattle.pl_loader.proofs.loader.Loader.start.Goals as goal

pub returns-clause-exact : goal.returns-clause-exact
returns-clause-exact g c = IfOk-weaker c.started.result _ _ (λ s starts choose follows. starts_chosen _ choose _ _ s follows starts) (rw (c.placer.ensures, c.busy.ensures, c.files.ensures.files) at c.started.ensures.ok)

pub returns-clause-exact_fault : goal.returns-clause-exact_fault
returns-clause-exact_fault g c = IfErr-weaker c.started.result _ _ (λ f fails choose follows. fails_chosen _ choose _ _ f follows fails) (rw (c.placer.ensures, c.busy.ensures, c.files.ensures.files) at c.started.ensures.err)

pub returns-clause-whole : goal.returns-clause-whole
returns-clause-whole g c =
    IfOk-weaker c.started.result _ _
    (λ s starts choose files name follows way. whole_starts choose _ itself files name c.args.self.now.walk s c.requires.given (starts_chosen _ choose _ _ s follows starts) way)
    (rw (c.placer.ensures, c.busy.ensures, c.files.ensures.files) at c.started.ensures.ok)

pub returns-clause-fails : goal.returns-clause-fails
returns-clause-fails g c =
    IfErr-weaker c.started.result _ _
    (λ f fails choose files name follows way. whole_fails choose _ itself files name c.args.self.now.walk f c.requires.given (fails_chosen _ choose _ _ f follows fails) way)
    (rw (c.placer.ensures, c.busy.ensures, c.files.ensures.files) at c.started.ensures.err)
