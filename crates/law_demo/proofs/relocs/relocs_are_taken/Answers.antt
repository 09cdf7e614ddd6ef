use Rattle.law_demo.proofs.RelocLaws.{relocs_taken}
use Rattle.law_demo.proofs.relocs.relocs_are_taken.Goals as goal

pub returns : goal.returns
returns c = relocs_taken
