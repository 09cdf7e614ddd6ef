use Rattle.std.proofs.Common.{ℕ, List, false, subst}
use Rattle.pl_hash.specs.Header.{IsHeader}
use Rattle.pl_hash.proofs.table.Table.sysv.Goals as goal

pub invariant_of-result : goal.invariant_of-result
invariant_of-result c = subst (λ (words : List ℕ). IsHeader (record { words = words; gnu = false; symbols = c.args.symbols }) c.sysv_header-header.result) c.as_slice.ensures (c.sysv_header-header.ensures c.args.symbols)
