use Rattle.std.proofs.Common.{refl}
use Rattle.pl_folder.specs.InMemory.{quiet_files}
use Rattle.pl_demo.proofs.AnswerLemmas.{always}
use Rattle.pl_demo.proofs.CountingLemmas.{not_there, of_taken, too_large}
use Rattle.pl_demo.proofs.counting.counts_at.Goals as goal

pub returns-in-Ok-clause-counts : goal.returns-in-Ok-clause-counts
returns-in-Ok-clause-counts c = of_taken (quiet_files c.args.folder.now) (quiet_files c.take.new.self) c.args.name.now c.in-Ok.bytes c.deref.result.now c.counts_in.result c.in-Ok.ensures.takes c.deref.ensures.value c.counts_in.ensures

pub returns-in-Ok-clause-same : goal.returns-in-Ok-clause-same
returns-in-Ok-clause-same c = always c.counts_in.result (c.in-Ok.ensures.takes.calls.files refl)

pub returns-in-Err-NotThere-clause-counts : goal.returns-in-Err-NotThere-clause-counts
returns-in-Err-NotThere-clause-counts c = not_there (quiet_files c.args.folder.now) (quiet_files c.take.new.self) c.args.name.now c.none.result (rw c.in-Err-NotThere.field-0-is at c.in-Err-NotThere.ensures.takes) c.none.ensures

pub returns-in-Err-NotThere-clause-same : goal.returns-in-Err-NotThere-clause-same
returns-in-Err-NotThere-clause-same c = (rw c.in-Err-NotThere.field-0-is at c.in-Err-NotThere.ensures.takes).calls.files refl

pub returns-in-Err-TooLarge-clause-counts : goal.returns-in-Err-TooLarge-clause-counts
returns-in-Err-TooLarge-clause-counts c = too_large (quiet_files c.args.folder.now) (quiet_files c.take.new.self) c.args.name.now c.none-in-Err-TooLarge.result (rw c.in-Err-TooLarge.field-0-is at c.in-Err-TooLarge.ensures.takes) c.none-in-Err-TooLarge.ensures

pub returns-in-Err-TooLarge-clause-same : goal.returns-in-Err-TooLarge-clause-same
returns-in-Err-TooLarge-clause-same c = (rw c.in-Err-TooLarge.field-0-is at c.in-Err-TooLarge.ensures.takes).calls.files refl
