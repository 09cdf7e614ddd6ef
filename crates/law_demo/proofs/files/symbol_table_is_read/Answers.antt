use Rattle.law_demo.proofs.SymbolLaws.{table_read}
use Rattle.law_demo.proofs.files.symbol_table_is_read.Goals as goal

pub returns : goal.returns
returns c = table_read
