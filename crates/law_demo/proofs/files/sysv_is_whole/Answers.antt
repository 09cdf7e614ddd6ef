use Rattle.law_demo.proofs.SysvLaws.{sysv_whole}
use Rattle.law_demo.proofs.files.sysv_is_whole.Goals as goal

pub returns : goal.returns
returns c = sysv_whole
