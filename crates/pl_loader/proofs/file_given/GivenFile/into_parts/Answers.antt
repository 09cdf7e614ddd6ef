use Rattle.std.proofs.Common.{ℕ, List, subst}
use Rattle.pl_loader.specs.Given.{IsReadIfAny}
use Rattle.pl_loader.proofs.file_given.GivenFile.into_parts.Goals as goal

pub returns-clause-known : goal.returns-clause-known
returns-clause-known c = subst (λ (xs : List ℕ). IsReadIfAny xs c.self.inside.object) c.self.view_is c.self.invariant
