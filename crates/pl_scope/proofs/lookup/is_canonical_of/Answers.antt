use Rattle.std.proofs.Common.{sym}
use Rattle.pl_scope.proofs.CanonicalLaws.{not_canonical}
use Rattle.pl_scope.proofs.lookup.is_canonical_of.Goals as goal

pub returns-then-not-may_be_canonical : goal.returns-then-not-may_be_canonical
returns-then-not-may_be_canonical c = sym (not_canonical c.args.object.now c.args.name.now c.args.symbol.now (sym c.if-not-may_be_canonical.ensures))
