use Rattle.pl_scope.specs.Definers.{pair}
use Rattle.pl_scope.specs.Entries.{AreUnder}
use Rattle.std.proofs.Common.{ℕ, subst}
use Rattle.pl_scope.proofs.lookup.matching_by_short.Goals as goal

pub of_member-among-requires : goal.of_member-among-requires
of_member-among-requires c = c.requires.own.rising

pub matching_among-requires-clause-among : goal.matching_among-requires-clause-among
matching_among-requires-clause-among c =
    subst (λ (hash : ℕ). AreUnder c.args.definers.now.definers.entries.items (pair hash c.args.member) c.of_member-among.result.now) c.mixed.ensures c.of_member-among.ensures
