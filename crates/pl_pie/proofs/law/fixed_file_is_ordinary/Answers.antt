use Rattle.pl_pie.proofs.FixedImage.{file_is_ordinary}
use Rattle.pl_pie.proofs.law.fixed_file_is_ordinary.Goals as goal

pub returns : goal.returns
returns c = file_is_ordinary
