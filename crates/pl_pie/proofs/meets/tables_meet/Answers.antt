use Rattle.std.proofs.Common.{List, length, map, sym, subst}
use Rattle.pl_base.specs.Windows.{AllIn}
use Rattle.pl_elf.specs.declared.range.Range.{Range}
use Rattle.pl_move.specs.Moves.{table_windows}
use Rattle.pl_move.specs.Objects.{symbol_rows}
use Rattle.pl_move.specs.declared.table.Table.{Table}
use Rattle.pl_move.proofs.ObjectLaws.{main_part, symtab_part}
use Rattle.pl_pie.proofs.RowLaws.{meets_main, meets_symtab}
use Rattle.pl_pie.proofs.meets.tables_meet.Goals as goal

pub any_meets-requires : goal.any_meets-requires
any_meets-requires c = subst (λ (ts : List Table). AllIn (length c.args.bytes.now) (table_windows ts)) (sym c.main_tables.ensures) (main_part (length c.args.bytes.now) c.args.object.now c.requires)

pub any_symtab_meets-requires : goal.any_symtab_meets-requires
any_symtab_meets-requires c =
    subst (λ (rs : List Range). AllIn (length c.args.bytes.now) (table_windows (map symbol_rows rs))) (sym c.symtabs_of.ensures) (symtab_part (length c.args.bytes.now) c.args.object.now c.requires)

pub returns-then-any_meets : goal.returns-then-any_meets
returns-then-any_meets c = meets_main c.args.windows.now c.args.bytes.now c.args.object.now c.main_tables.result c.any_meets.result c.main_tables.ensures c.any_meets.ensures c.if-any_meets.true

pub returns-else-any_meets : goal.returns-else-any_meets
returns-else-any_meets c =
    meets_symtab c.args.windows.now c.args.bytes.now c.args.object.now c.main_tables.result c.symtabs_of.result.now c.any_meets.result c.any_symtab_meets.result c.main_tables.ensures c.symtabs_of.ensures c.any_meets.ensures c.if-any_meets.false
    c.any_symtab_meets.ensures
