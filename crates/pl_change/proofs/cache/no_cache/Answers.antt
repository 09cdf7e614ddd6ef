use Rattle.pl_change.proofs.CacheLemmas.{empty_spelled}
use Rattle.pl_change.proofs.cache.no_cache.Goals as goal

pub write_cache-requires : goal.write_cache-requires
write_cache-requires c = empty_spelled c.new.result c.new.ensures
