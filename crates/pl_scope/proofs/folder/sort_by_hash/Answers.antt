use Rattle.std.proofs.Common.{rules}
use Rattle.std.proofs.lemmas.List.Sorted.{IsNonDecreasingBy-from_sort_by_key}
use Rattle.pl_scope.specs.ShortIndex.{mixed}
use Rattle.pl_scope.specs.declared.index.Entry.{Entry}
use Rattle.pl_scope.proofs.folder.sort_by_hash.Goals as goal

pub returns-clause-rising : goal.returns-clause-rising
returns-clause-rising c =
    IsNonDecreasingBy-from_sort_by_key (λ (e : Entry). mixed e.hash) _ c.sort_unstable_by_key.ensures.sorted (λ a r q k. search rules)
