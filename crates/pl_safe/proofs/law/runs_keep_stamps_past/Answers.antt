use Rattle.pl_safe.proofs.StampLemmas.{every_past, files_past, runs_past, writers_past, written_are_past}
use Rattle.pl_safe.proofs.law.runs_keep_stamps_past.Goals as goal

pub returns-clause-every : goal.returns-clause-every
returns-clause-every c = every_past

pub returns-clause-leaves : goal.returns-clause-leaves
returns-clause-leaves c = runs_past

pub returns-clause-writers : goal.returns-clause-writers
returns-clause-writers c = writers_past

pub returns-clause-files : goal.returns-clause-files
returns-clause-files c = files_past

pub returns-clause-written : goal.returns-clause-written
returns-clause-written c = written_are_past
