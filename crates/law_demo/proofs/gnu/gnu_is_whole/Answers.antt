use Rattle.law_demo.proofs.GnuLaws.{gnu_whole}
use Rattle.law_demo.proofs.gnu.gnu_is_whole.Goals as goal

pub returns : goal.returns
returns c = gnu_whole
