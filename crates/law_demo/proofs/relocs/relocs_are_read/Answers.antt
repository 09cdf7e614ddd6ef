use Rattle.law_demo.proofs.RelocLaws.{rows_read}
use Rattle.law_demo.proofs.relocs.relocs_are_read.Goals as goal

pub returns : goal.returns
returns c = rows_read
