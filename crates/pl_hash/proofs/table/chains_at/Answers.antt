use Rattle.std.proofs.Common.{subst}
use Rattle.pl_hash.specs.Header.{IsHeader}
use Rattle.pl_hash.specs.Table.{HashTable}
use Rattle.pl_hash.proofs.table.chains_at.Goals as goal

pub returns-clause-value : goal.returns-clause-value
returns-clause-value c = (subst (λ (t : HashTable). IsHeader t c.table.inside.header) c.table.view_is c.table.invariant).chains_at c.requires

pub returns-clause-small : goal.returns-clause-small
returns-clause-small c = c.table.invariant.chains_low
