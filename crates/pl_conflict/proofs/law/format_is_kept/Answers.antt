use Rattle.pl_conflict.proofs.FormatLaws.{format_kept}
use Rattle.pl_conflict.proofs.law.format_is_kept.Goals as goal

pub returns : goal.returns
returns g c = format_kept
