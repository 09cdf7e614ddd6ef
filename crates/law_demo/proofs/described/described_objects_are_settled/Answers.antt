use Rattle.law_demo.proofs.DescribedLaws.{described_settled}
use Rattle.law_demo.proofs.described.described_objects_are_settled.Goals as goal

pub returns : goal.returns
returns c = described_settled
