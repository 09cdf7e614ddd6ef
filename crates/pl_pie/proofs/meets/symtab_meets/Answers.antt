use Rattle.std.proofs.Common.{length, sym, ap, subst, ◌∙◌}
use Rattle.pl_base.specs.Windows.{Window, IsIn}
use Rattle.pl_move.specs.Moves.{table_window}
use Rattle.pl_move.specs.Objects.{rows_of}
use Rattle.pl_move.specs.declared.kind.RowKind.TheVariants.{SymbolValue}
use Rattle.pl_move.specs.declared.table.Table.{Table}
use Rattle.pl_pie.proofs.meets.symtab_meets.Goals as goal

pub table_meets-requires : goal.table_meets-requires
table_meets-requires c =
    subst (λ (t : Table). IsIn (length c.args.bytes.now) (table_window t)) (sym (c.rows_of-table.ensures ∙ ap (λ (w : Window). rows_of SymbolValue w) c.range_window.ensures)) c.requires
