-- A command that comes after a recovery makes of the folder what it would have made of it before.
use Rattle.std.specs.Prelude.{ℕ, List}
use Rattle.pl_folder.specs.Calls.{Calls}
use Rattle.pl_folder.specs.Seen.{Seen, Ending, Done, IsFolder}
use Rattle.pl_change.specs.Commands.{Commands, Made, Meaning, Outcome, ready_for}
use Rattle.pl_change.specs.declared.cause.Cause.{Cause}

abbrev pub GoesOn : Type 0
GoesOn = (name : List ℕ) (meant : Meaning Cause) (o : Outcome Cause) (e : Ending) (a b c : Seen) → IsFolder a → IsFolder b
    → Calls Done (Commands (ready_for name) Made) a b → Calls e (Commands meant o) b c → Calls e (Commands meant o) a c
