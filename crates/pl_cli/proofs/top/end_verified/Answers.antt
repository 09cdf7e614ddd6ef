use Rattle.std.specs.Prelude.{Some}
use Rattle.pl_cli.specs.Came.{as_is}
use Rattle.pl_cli.specs.declared.command.Command.TheVariants.{Verify}
use Rattle.pl_cli.proofs.RunLemmas.{came_verified, ran_compared, ran_stopped}
use Rattle.pl_cli.proofs.top.end_verified.Goals as goal

pub returns-in-Ok : goal.returns-in-Ok
returns-in-Ok g c = λ name a b input law found. ran_compared name c.in-Ok.original {a = a} {b = b} input (rw c.in-Ok.is at found) c.finish_compared.result c.finish_compared.ensures

pub returns-in-Err : goal.returns-in-Err
returns-in-Err g c = λ name a b input law found. ran_stopped (Some (Verify name)) as_is law c.in-Err.stop c.refuse.result (came_verified name input {a = a} {b = b} c.in-Err.stop (rw c.in-Err.is at found)) c.refuse.ensures
