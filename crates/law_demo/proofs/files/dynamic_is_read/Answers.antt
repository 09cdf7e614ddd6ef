use Rattle.law_demo.proofs.TagLaws.{dynamic_read}
use Rattle.law_demo.proofs.files.dynamic_is_read.Goals as goal

pub returns : goal.returns
returns c = dynamic_read
