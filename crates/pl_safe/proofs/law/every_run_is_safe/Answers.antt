use Rattle.pl_safe.proofs.RunLemmas.{every_safe, readers_look, runs_leave, runs_sound, writers_end}
use Rattle.pl_safe.proofs.law.every_run_is_safe.Goals as goal

pub returns-clause-leaves : goal.returns-clause-leaves
returns-clause-leaves c = runs_leave

pub returns-clause-every : goal.returns-clause-every
returns-clause-every c = every_safe

pub returns-clause-next : goal.returns-clause-next
returns-clause-next c = runs_sound

pub returns-clause-readers : goal.returns-clause-readers
returns-clause-readers c = readers_look

pub returns-clause-writers : goal.returns-clause-writers
returns-clause-writers c = writers_end
