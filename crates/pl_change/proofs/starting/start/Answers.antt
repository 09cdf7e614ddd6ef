use Rattle.pl_change.specs.Commands.{ready}
use Rattle.pl_change.proofs.StartLemmas.{start_failed, start_lacked, started, started_bad}
use Rattle.pl_change.proofs.starting.start.Goals as goal

pub returns-in-Ok-clause-calls : goal.returns-in-Ok-clause-calls
returns-in-Ok-clause-calls g c = started (g.met.D.Folder.is_folder c.args.held.now.folder) c.in-Ok.ensures.quiet c.in-Ok.ensures.calls c.in-Ok.ensures.real

pub returns-in-Err-BadJournal-clause-calls : goal.returns-in-Err-BadJournal-clause-calls
returns-in-Err-BadJournal-clause-calls g c = started_bad (rw c.in-Err-BadJournal.field-0-is at c.in-Err-BadJournal.ensures.calls) c.in-Err-BadJournal.ensures.real

pub returns-in-Err-Failed-clause-calls : goal.returns-in-Err-Failed-clause-calls
returns-in-Err-Failed-clause-calls g c = start_failed ready (rw c.in-Err-Failed.field-0-is at c.in-Err-Failed.ensures.calls) c.in-Err-Failed.ensures.real

pub returns-in-Err-NoMemory-clause-calls : goal.returns-in-Err-NoMemory-clause-calls
returns-in-Err-NoMemory-clause-calls g c = start_lacked ready (rw c.in-Err-NoMemory.field-0-is at c.in-Err-NoMemory.ensures.calls) c.in-Err-NoMemory.ensures.real
