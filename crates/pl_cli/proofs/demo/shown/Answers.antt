use Rattle.pl_folder.specs.InMemory.{quiet_files}
use Rattle.pl_cli.proofs.DemoLemmas.{lines_by}
use Rattle.pl_cli.proofs.demo.shown.Goals as goal

pub returns : goal.returns
returns c =
    let made = c.args.made in
    let loads = c.in_ok-loads.loads in
    lines_by made.size loads.fast made.counts (quiet_files made.folder) made.programs c.as_slice.result.now loads.texts.items c.in_ok-lines.field-0.items c.as_slice.ensures c.in_ok-loads.ensures.fast c.in_ok-loads.ensures.texts c.in_ok-lines.ensures
