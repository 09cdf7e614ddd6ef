use Rattle.pl_build.specs.StringTable.{has_text}
use Rattle.pl_build.proofs.TextLaws.{index_of_none}
use Rattle.pl_build.proofs.string_table.start.Goals as goal

pub invariant_of-result : goal.invariant_of-result
invariant_of-result c = index_of_none has_text c.new-entries.result c.new-index.result c.new-entries.ensures c.new-index.ensures
