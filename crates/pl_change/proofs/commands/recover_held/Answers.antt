use Rattle.std.specs.Prelude.{Ok, Err, Result}
use Rattle.pl_folder.specs.Calls.{Calls}
use Rattle.pl_folder.specs.Seen.{Seen}
use Rattle.pl_change.specs.Answers.{ending}
use Rattle.pl_change.specs.Commands.{Commands, Meaning, outcome, ready_for}
use Rattle.pl_change.specs.Starts.{Starts}
use Rattle.pl_change.specs.declared.cause.Cause.{Cause}
use Rattle.pl_change.specs.declared.fault.BatchFault.{BatchFault}
use Rattle.pl_change.proofs.MakeLemmas.{starts_alone, stops_alone}
use Rattle.pl_change.proofs.commands.recover_held.Goals as goal

recovers : (first : Meaning Cause) (r : Result (Unit {0}) BatchFault) {a b : Seen} → Calls (ending r) (Starts first (outcome r)) a b → Calls (ending r) (Commands first (outcome r)) a b
recovers first (Ok u) call = starts_alone first call
recovers first (Err fault) call = stops_alone first fault call

pub returns-clause-calls : goal.returns-clause-calls
returns-clause-calls g c = recovers (ready_for c.args.name.now) c.start_for.result c.start_for.ensures.calls
