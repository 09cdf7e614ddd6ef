use Rattle.pl_cli.specs.Came.{as_is}
use Rattle.pl_cli.proofs.RunLemmas.{ran_done, ran_stopped}
use Rattle.pl_cli.proofs.top.end_with.Goals as goal

pub returns-in-Ok : goal.returns-in-Ok
returns-in-Ok g c = λ asked a b left rest law came. ran_done asked as_is c.in-Ok.text (rw c.in-Ok.is at came) c.finish.result (rw (← c.deref.ensures.value) c.finish.ensures)

pub returns-in-Err : goal.returns-in-Err
returns-in-Err g c = λ asked a b left rest law came. ran_stopped asked as_is law c.in-Err.stop c.refuse.result (rw c.in-Err.is at came) c.refuse.ensures
