use Rattle.pl_hash.specs.Queries.{AreQueries}
use Rattle.pl_hash.proofs.jumps.all_queries.Given as goal

abbrev pub invariant-loop-index : goal.invariant-loop-index
invariant-loop-index l = AreQueries l.table l.hashes l.index l.queries.items
