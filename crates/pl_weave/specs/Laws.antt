-- What is proved of loaders that open one file after the other.
use Rattle.std.specs.Prelude.{◌≡◌, ℕ, List, slice_get, Option, Some, None, Result}
use Rattle.pl_base.specs.Answers.{because}
use Rattle.pl_base.specs.Files.{Files}
use Rattle.pl_batch.specs.declared.run.Run.{Run}
use Rattle.pl_loader.specs.Started.{load}
use Rattle.pl_loader.specs.declared.fault.LoadFault.{LoadFault}
use Rattle.pl_place.specs.Policy.{Choice}
use Rattle.pl_script.specs.declared.script.Event.{Event}
use Rattle.pl_loader.specs.Given.{given_from}
use Rattle.pl_weave.specs.Opening.{HasSeen, IsLed, Opened, ended, wanted, with_file}
use Rattle.pl_weave.specs.Weaving.{woven}

-- an event leads a loader on: with a file more it is where the files that it saw lead it, each of the name that it wanted
abbrev pub EventsLead : Type 0 → Type 0
EventsLead F = (choose : Choice) (o : Opened F) (name n : List ℕ) (file : Option (List ℕ)) → IsLed choose name o → wanted o ≡ Some n → IsLed choose name (with_file choose o n file)

-- a loader that has finished answers as the whole load of its name, as `--load` loads it, over any files that have what it saw
abbrev pub FinishedAreLoads : Type 0 → Type 0 → Type 0
FinishedAreLoads E F = (o : Opened F) (choose : Choice) (fault : LoadFault → E) (file : List ℕ → Result (List ℕ) E) (name : List ℕ)
    → IsLed choose name o → wanted o ≡ None → HasSeen fault file o.seen → load choose o.load.busy fault (given_from choose fault file name) name ≡ because fault (ended choose o)

-- whatever the events are, each loader of a weave is where the files that it saw lead it
abbrev pub WovenAreLed : Type 0
WovenAreLed = (choose : Choice) (files : Files) (names : List (List ℕ)) (runs : List Run) (events : List Event) (k : ℕ) (name : List ℕ) (o : Opened (Unit {0}))
    → slice_get names k ≡ Some name → slice_get (woven choose files names runs events).loaders k ≡ Some o → IsLed choose name o
