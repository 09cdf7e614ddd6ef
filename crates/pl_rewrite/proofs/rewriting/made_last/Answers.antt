use Rattle.std.proofs.Common.{ap, subst, sym}
use Rattle.pl_rewrite.specs.Outcomes.{MayBe, made_by}
use Rattle.pl_rewrite.proofs.rewriting.made_last.Goals as goal

pub returns-in-Unchanged : goal.returns-in-Unchanged
returns-in-Unchanged c = ap (made_by c.args.taken.now) (sym c.in-Unchanged.is)

pub made_library-requires-clause-form : goal.made_library-requires-clause-form
made_library-requires-clause-form c = subst (MayBe c.args.taken.now) c.in-Library.is c.requires.may
