use Rattle.pl_texts.specs.DoneText.{fixed_text}
use Rattle.pl_cli.proofs.RunLemmas.{ran_done, ran_stopped}
use Rattle.pl_cli.proofs.top.end_fixed.Goals as goal

pub finish_fixed-requires : goal.finish_fixed-requires
finish_fixed-requires g c = rw c.in-Ok.is at c.requires

pub returns-in-Ok : goal.returns-in-Ok
returns-in-Ok g c = λ asked a b left rest law came. ran_done asked (fixed_text c.args.name.now) c.in-Ok.address (rw c.in-Ok.is at came) c.finish_fixed.result c.finish_fixed.ensures

pub returns-in-Err : goal.returns-in-Err
returns-in-Err g c = λ asked a b left rest law came. ran_stopped asked (fixed_text c.args.name.now) law c.in-Err.stop c.refuse.result (rw c.in-Err.is at came) c.refuse.ensures
