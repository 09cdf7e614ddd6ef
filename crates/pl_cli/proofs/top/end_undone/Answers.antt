use Rattle.pl_texts.specs.DoneText.{undone_text}
use Rattle.pl_cli.proofs.RunLemmas.{ran_done, ran_stopped}
use Rattle.pl_cli.proofs.top.end_undone.Goals as goal

pub returns-in-Ok : goal.returns-in-Ok
returns-in-Ok g c = λ asked a b left rest law came. ran_done asked undone_text c.in-Ok.count (rw c.in-Ok.is at came) c.finish_undone.result c.finish_undone.ensures

pub returns-in-Err : goal.returns-in-Err
returns-in-Err g c = λ asked a b left rest law came. ran_stopped asked undone_text law c.in-Err.stop c.refuse.result (rw c.in-Err.is at came) c.refuse.ensures
