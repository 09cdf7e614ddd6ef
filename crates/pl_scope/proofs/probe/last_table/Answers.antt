use Rattle.std.proofs.Common.{◌≡◌, ◌<◌, ◌-◌, List, length, get_or, sym, subst, arith}
use Rattle.pl_hash.specs.Table.{HashTable}
use Rattle.pl_scope.specs.Probing.{IsTable}
use Rattle.pl_scope.proofs.TableLaws.{table_is}
use Rattle.pl_scope.proofs.probe.last_table.Goals as goal

pub returns-clause-some : goal.returns-clause-some
returns-clause-some c =
    let o = c.args.object.now in
    let t = c.index-tables-count.result in
    let last = λ (ts : List HashTable). length ts - 1 < length ts → t ≡ get_or ts (length ts - 1) t → IsTable o t in
    subst last (sym c.as_slice-tables.ensures) (λ lt is. table_is o (length o.hashes - 1) t c.requires lt is) (omega arith) c.index-tables-count.is
