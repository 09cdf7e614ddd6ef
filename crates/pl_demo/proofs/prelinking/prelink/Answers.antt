use Rattle.std.proofs.Common.{refl}
use Rattle.pl_folder.specs.InMemory.{quiet_files}
use Rattle.pl_demo.proofs.PrelinkingLemmas.{was_prelinked, was_stopped}
use Rattle.pl_demo.proofs.QuietLemmas.{never_failed}
use Rattle.pl_demo.proofs.prelinking.prelink.Goals as goal

pub returns-in-Ok : goal.returns-in-Ok
returns-in-Ok c = was_prelinked (quiet_files c.args.folder.now) (quiet_files c.do_run.new.folder) (c.in-Ok.ensures.calls.files refl)

pub returns-in-Err : goal.returns-in-Err
returns-in-Err c = was_stopped (quiet_files c.args.folder.now) (quiet_files c.do_run.new.folder) c.in-Err.fault c.unless_refused.result c.unless_refused.ensures (c.in-Err.ensures.calls.files refl)

pub unless_refused-requires : goal.unless_refused-requires
unless_refused-requires c = never_failed c.args.folder.now c.do_run.new.folder c.in-Err.fault c.in-Err.ensures.calls
