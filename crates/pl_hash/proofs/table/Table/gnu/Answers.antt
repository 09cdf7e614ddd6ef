use Rattle.std.proofs.Common.{ℕ, List, true, subst}
use Rattle.pl_hash.specs.Header.{IsHeader}
use Rattle.pl_hash.proofs.table.Table.gnu.Goals as goal

pub invariant_of-result : goal.invariant_of-result
invariant_of-result c = subst (λ (words : List ℕ). IsHeader (record { words = words; gnu = true; symbols = c.args.symbols }) c.gnu_header-header.result) c.as_slice.ensures (c.gnu_header-header.ensures c.args.symbols)
