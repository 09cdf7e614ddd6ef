use Rattle.pl_pie.proofs.FixedIsRead.{fixed_is_read}
use Rattle.pl_pie.proofs.law.fixed_file_is_read.Goals as goal

pub returns : goal.returns
returns c = fixed_is_read
