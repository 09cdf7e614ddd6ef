use Rattle.pl_object.proofs.AcceptedLaws.{accepted_answer}
use Rattle.pl_object.proofs.RefusalLaws.{reads_tells}
use Rattle.pl_object.proofs.acceptance.accept.Goals as goal

pub returns-clause-facts : goal.returns-clause-facts
returns-clause-facts c = accepted_answer c.args.bytes.now c.read_object.result c.read_object.ensures

pub returns-clause-never_memory : goal.returns-clause-never_memory
returns-clause-never_memory c = reads_tells c.args.bytes.now
