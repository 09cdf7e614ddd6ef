use Rattle.std.proofs.Common.{◌≡◌, ◌∙◌, ap, subst, sym, length, map, List, ℕ, arith}
use Rattle.pl_base.specs.Windows.{AllIn}
use Rattle.pl_elf.specs.declared.range.Range.{Range}
use Rattle.pl_move.specs.Moves.{table_windows, all_moved, all_back}
use Rattle.pl_move.specs.Objects.{symbol_rows, tables_of}
use Rattle.pl_move.specs.declared.table.Table.{Table}
use Rattle.pl_move.proofs.MoveLaws.{back_undoes}
use Rattle.pl_move.proofs.ObjectLaws.{main_part, symtab_part, both_moved}
use Rattle.pl_move.proofs.object.move_by.Goals as goal

pub move_tables-requires : goal.move_tables-requires
move_tables-requires c = subst (λ (ts : List Table). AllIn (length c.args.bytes.now) (table_windows ts)) (sym c.main_tables.ensures) (main_part (length c.args.bytes.now) c.args.object.now c.requires.tables)

pub move_symtabs-requires : goal.move_symtabs-requires
move_symtabs-requires c =
    rw c.move_tables.auto.bytes (subst (λ (rs : List Range). AllIn (length c.args.bytes.now) (table_windows (map symbol_rows rs))) (sym c.symtabs_of.ensures) (symtab_part (length c.args.bytes.now) c.args.object.now c.requires.tables))

pub returns-clause-moved : goal.returns-clause-moved
returns-clause-moved c = both_moved c.args.slot c.args.object.now c.main_tables.result c.symtabs_of.result.now c.args.bytes.now c.move_tables.new.bytes _ c.main_tables.ensures c.symtabs_of.ensures c.move_tables.ensures c.move_symtabs.ensures

pub returns-clause-back : goal.returns-clause-back
returns-clause-back c = λ bytes.
    ap (all_back c.args.slot (tables_of c.args.object.now)) (both_moved c.args.slot c.args.object.now c.main_tables.result c.symtabs_of.result.now c.args.bytes.now c.move_tables.new.bytes c.move_symtabs.new.bytes c.main_tables.ensures c.symtabs_of.ensures c.move_tables.ensures c.move_symtabs.ensures)
    ∙ back_undoes c.args.slot (tables_of c.args.object.now) c.args.bytes.now c.requires.tables bytes (omega (arith, c.ranges.slot.fits), c.requires.even)
