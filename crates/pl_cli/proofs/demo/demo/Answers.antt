use Rattle.pl_folder.specs.InMemory.{quiet_files}
use Rattle.pl_cli.specs.Came.{HasDemo}
use Rattle.pl_texts.specs.declared.stop.Stop.TheVariants as stops
use Rattle.pl_cli.proofs.DemoLemmas.{demo_by}
use Rattle.pl_texts.proofs.StopLemmas.{at_err}
use Rattle.pl_cli.proofs.demo.demo.Goals as goal

pub returns-in_err-made : goal.returns-in_err-made
returns-in_err-made c = at_err (HasDemo c.args.number) c.from_residual.result stops.NoMemory c.from_residual.ensures.1 tt

pub returns-in_err-shown : goal.returns-in_err-shown
returns-in_err-shown c = at_err (HasDemo c.args.number) c.from_residual-in_err-shown.result stops.NoMemory c.from_residual-in_err-shown.ensures.1 tt

pub returns : goal.returns
returns c =
    let made = c.in_ok-made.made in
    demo_by c.args.number made.size made.counts (quiet_files made.folder) made.programs c.in_ok-shown.field-0.items c.in_ok-made.ensures.folder c.in_ok-made.ensures.size c.in_ok-made.ensures.counts c.in_ok-made.ensures.programs c.in_ok-shown.ensures
