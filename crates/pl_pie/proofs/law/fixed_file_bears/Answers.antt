use Rattle.pl_pie.proofs.BearLaws.{file_bears}
use Rattle.pl_pie.proofs.law.fixed_file_bears.Goals as goal

pub returns : goal.returns
returns c = file_bears
