use Rattle.std.proofs.Common.{◌≡◌, ◌∙◌, ap, subst, sym, length, map, List, ℕ, arith}
use Rattle.pl_base.specs.Windows.{AllIn}
use Rattle.pl_elf.specs.declared.range.Range.{Range}
use Rattle.pl_move.specs.Moves.{table_windows, all_moved, all_back}
use Rattle.pl_move.specs.Objects.{symbol_rows, tables_of}
use Rattle.pl_move.specs.declared.table.Table.{Table}
use Rattle.pl_move.proofs.MoveLaws.{forth_undoes}
use Rattle.pl_move.proofs.ObjectLaws.{main_part, symtab_part, both_back}
use Rattle.pl_move.proofs.object.move_back.Goals as goal

pub move_symtabs_back-requires : goal.move_symtabs_back-requires
move_symtabs_back-requires c = subst (λ (rs : List Range). AllIn (length c.args.bytes.now) (table_windows (map symbol_rows rs))) (sym c.symtabs_of.ensures) (symtab_part (length c.args.bytes.now) c.args.object.now c.requires.tables)

pub move_tables_back-requires : goal.move_tables_back-requires
move_tables_back-requires c =
    rw c.move_symtabs_back.auto.bytes (subst (λ (ts : List Table). AllIn (length c.args.bytes.now) (table_windows ts)) (sym c.main_tables.ensures) (main_part (length c.args.bytes.now) c.args.object.now c.requires.tables))

pub returns-clause-moved : goal.returns-clause-moved
returns-clause-moved c = both_back c.args.slot c.args.object.now c.main_tables.result c.symtabs_of.result.now c.args.bytes.now c.move_symtabs_back.new.bytes _ c.main_tables.ensures c.symtabs_of.ensures c.move_symtabs_back.ensures c.move_tables_back.ensures

pub returns-clause-forth : goal.returns-clause-forth
returns-clause-forth c = λ bytes.
    ap (all_moved c.args.slot (tables_of c.args.object.now)) (both_back c.args.slot c.args.object.now c.main_tables.result c.symtabs_of.result.now c.args.bytes.now c.move_symtabs_back.new.bytes c.move_tables_back.new.bytes c.main_tables.ensures c.symtabs_of.ensures c.move_symtabs_back.ensures c.move_tables_back.ensures)
    ∙ forth_undoes c.args.slot (tables_of c.args.object.now) c.args.bytes.now c.requires.tables bytes (omega (arith, c.ranges.slot.fits), c.requires.even)
