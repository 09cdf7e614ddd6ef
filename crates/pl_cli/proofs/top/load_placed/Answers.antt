use Rattle.std.proofs.Common.{Some}
use Rattle.pl_cli.specs.declared.command.Command.TheVariants.{Load}
use Rattle.pl_cli.specs.Came.{as_is}
use Rattle.pl_cli.specs.Load.{choice}
use Rattle.pl_cli.proofs.RunLemmas.{ran_loaded, ran_stopped, unloaded}
use Rattle.pl_cli.proofs.top.load_placed.Goals as goal

pub returns-in-Ok-clause-ran : goal.returns-in-Ok-clause-ran
returns-in-Ok-clause-ran g c = λ follows input.
    let wrote = c.start_and_write.ensures (choice c.args.asked) (rw c.in-Ok.ensures.policy follows) in
    ran_loaded c.args.name.now c.args.busy c.args.asked input c.in-Ok.loader c.in-Ok.ensures.loaded c.start_and_write.result (rw c.in-Ok.ensures.busy at wrote)

pub returns-in-Err-clause-ran : goal.returns-in-Err-clause-ran
returns-in-Err-clause-ran g c = λ follows input.
    ran_stopped (Some (Load c.args.name.now c.args.busy c.args.asked)) as_is (g.met.D.Folder.is_folder c.args.folder.now) c.in-Err.stop c.refuse.result (unloaded c.args.name.now c.args.busy c.args.asked input c.in-Err.stop c.in-Err.ensures.loaded) c.refuse.ensures
