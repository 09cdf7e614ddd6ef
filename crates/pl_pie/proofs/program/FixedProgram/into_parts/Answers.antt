use Rattle.std.proofs.Common.{ℕ, List, subst}
use Rattle.pl_pie.specs.ReadAs.{IsReadAs}
use Rattle.pl_pie.proofs.program.FixedProgram.into_parts.Goals as goal

pub returns-clause-read : goal.returns-clause-read
returns-clause-read c = subst (λ (xs : List ℕ). IsReadAs xs c.self.inside.object) c.self.view_is c.self.invariant
