use Rattle.law_demo.proofs.FreeLaws.{off_is_clear}
use Rattle.law_demo.proofs.LowLaws.{low_off}
use Rattle.law_demo.proofs.RunLaws.{prelinked_fast}
use Rattle.law_demo.proofs.fast.prelinked_loads_are_fast.Goals as goal

pub returns-clause-fast : goal.returns-clause-fast
returns-clause-fast c = prelinked_fast

pub returns-clause-clear : goal.returns-clause-clear
returns-clause-clear c = off_is_clear

pub returns-clause-low : goal.returns-clause-low
returns-clause-low c = low_off
