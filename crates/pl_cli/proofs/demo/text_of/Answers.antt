use Rattle.std.proofs.Common.{None, refl, ap}
use Rattle.std.proofs.lemmas.Bool.{false≢true}
use Rattle.pl_folder.specs.InMemory.{quiet_files}
use Rattle.pl_io.specs.Seen.{Input, Output}
use Rattle.pl_texts.specs.TextSink.{sink_seen}
use Rattle.pl_words.specs.declared.status.Status.TheVariants.{Done, Refused}
use Rattle.pl_demo.proofs.QuietLemmas.{never_broken}
use Rattle.pl_cli.proofs.DemoLemmas.{was_loaded}
use Rattle.pl_cli.proofs.demo.text_of.Goals as goal

-- a load reads no input
abbrev pub no_input : Input
no_input = record { left = None; faults = 0 }

pub returns-in-Done-clause-text : goal.returns-in-Done-clause-text
returns-in-Done-clause-text c =
    let ran = rw c.in-Done.is at (c.load_and_write.ensures.ran no_input) in
    was_loaded (quiet_files c.args.folder.now) c.args.name.now Done c.into_text.result.items (sink_seen c.new-output.result).got (sink_seen c.load_and_write.new.output).got (ap (λ (o : Output). o.got) c.new-output.ensures) c.into_text.ensures ran.prints

pub returns-in-Done-clause-same : goal.returns-in-Done-clause-same
returns-in-Done-clause-same c = (c.load_and_write.ensures.ran no_input).folder.files refl

pub returns-in-Refused-clause-text : goal.returns-in-Refused-clause-text
returns-in-Refused-clause-text c =
    let ran = rw c.in-Refused.is at (c.load_and_write.ensures.ran no_input) in
    was_loaded (quiet_files c.args.folder.now) c.args.name.now Refused c.into_text-in-Refused.result.items (sink_seen c.new-output.result).got (sink_seen c.load_and_write.new.output).got (ap (λ (o : Output). o.got) c.new-output.ensures) c.into_text-in-Refused.ensures ran.prints

pub returns-in-Refused-clause-same : goal.returns-in-Refused-clause-same
returns-in-Refused-clause-same c = (c.load_and_write.ensures.ran no_input).folder.files refl

pub unreachable-requires : goal.unreachable-requires
unreachable-requires c = false≢true (rw c.in-Differs.is at (c.load_and_write.ensures.ran no_input)).ends

pub unreachable-requires-in-Usage : goal.unreachable-requires-in-Usage
unreachable-requires-in-Usage c = false≢true (rw c.in-Usage.is at (c.load_and_write.ensures.ran no_input)).ends

pub unreachable-requires-in-ReadFault : goal.unreachable-requires-in-ReadFault
unreachable-requires-in-ReadFault c = false≢true (rw c.in-ReadFault.is at (c.load_and_write.ensures.ran no_input)).ends

pub unreachable-requires-in-DiskFault : goal.unreachable-requires-in-DiskFault
unreachable-requires-in-DiskFault c = never_broken c.args.folder.now c.load_and_write.new.folder (rw c.in-DiskFault.is at (c.load_and_write.ensures.ran no_input)).folder
