use Rattle.std.proofs.Common.{arith}
use Rattle.pl_form.proofs.EntryLaws.{table_within, table_length}
use Rattle.pl_form.proofs.library.library_tables.Goals as goal

pub library_table-requires : goal.library_table-requires
library_table-requires c =
    omega (
      arith,
      table_length c.args.bytes.now c.args.layout.now c.part-table.result.now c.requires.library.dynamic
          (table_within c.args.bytes.now c.part-table.result.now c.args.layout.now c.at.result c.size.result c.at.ensures c.size.ensures c.part-table.ensures.bytes),
      c.requires.library.spare,
    )
