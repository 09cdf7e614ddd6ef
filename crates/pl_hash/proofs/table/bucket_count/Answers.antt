use Rattle.std.proofs.Common.{subst}
use Rattle.pl_hash.specs.Header.{IsHeader}
use Rattle.pl_hash.specs.Table.{HashTable}
use Rattle.pl_hash.proofs.table.bucket_count.Goals as goal

pub returns : goal.returns
returns c = (subst (λ (t : HashTable). IsHeader t c.table.inside.header) c.table.view_is c.table.invariant).buckets c.requires
