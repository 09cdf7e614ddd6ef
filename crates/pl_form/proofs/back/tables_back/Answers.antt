use Rattle.std.proofs.Common.{◌≡◌, ℕ, List, length, subst, rules}
use Rattle.pl_base.specs.Windows.{AllIn}
use Rattle.pl_move.specs.Moves.{table_windows}
use Rattle.pl_move.specs.declared.table.Table.{Table}
use Rattle.pl_form.proofs.BackLaws.{tables_fit}
use Rattle.pl_form.proofs.back.tables_back.Goals as goal

pub put_back-requires-clause-tables : goal.put_back-requires-clause-tables
put_back-requires-clause-tables c =
    let fit = tables_fit c.len.result c.args.stored.now.header c.dynamic_in-dynamic.result c.as_slice-2.result.now c.if-not-fits_tables.ensures in
    let size : c.len.result ≡ length c.deref_mut.result.now = search rules in
    let same : c.as_slice-2.result.now ≡ c.as_slice-3.result.now = search rules in
    subst (λ (ts : List Table). AllIn (length c.deref_mut.result.now) (table_windows ts)) same (subst (λ (n : ℕ). AllIn n (table_windows c.as_slice-2.result.now)) size fit.1)
