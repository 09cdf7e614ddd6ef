use Rattle.law_folder.proofs.CauseLemmas.{bad_cache_is}
use Rattle.law_folder.proofs.rows.bad_cache_is_of_the_cache.Goals as goal

pub returns : goal.returns
returns c = bad_cache_is
