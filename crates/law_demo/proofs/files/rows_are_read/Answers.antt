use Rattle.law_demo.proofs.RowLaws.{entries_read, relocs_read, symbols_read}
use Rattle.law_demo.proofs.files.rows_are_read.Goals as goal

pub returns-clause-entries : goal.returns-clause-entries
returns-clause-entries c = entries_read

pub returns-clause-relocs : goal.returns-clause-relocs
returns-clause-relocs c = relocs_read

pub returns-clause-symbols : goal.returns-clause-symbols
returns-clause-symbols c = symbols_read
