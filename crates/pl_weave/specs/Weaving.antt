-- A weave: loaders that open one file an event, by a policy that is a function, and runs that do one row an event, in the order of the events.
use Rattle.std.specs.Prelude.{ℕ, zero, suc, List, [], ◌∷◌, map, fold, Option, Some, None}
use Rattle.pl_base.specs.Files.{Files}
use Rattle.pl_batch.specs.declared.run.Run.{Run}
use Rattle.pl_place.specs.Policy.{Choice}
use Rattle.pl_script.specs.declared.script.Event.{Event}
use Rattle.pl_script.specs.declared.script.Event.TheVariants.{Open, Rename}
use Rattle.pl_weave.specs.Opening.{Opened, opened, wanted, with_file}
use Rattle.pl_weave.specs.Runs.{Runs, begun, renamed}
use Rattle.pl_weave.specs.Taking.{held_file}

pub record Weaving : Type 0 where
  pub loaders : List (Opened (Unit {0}))
  pub runs : Runs

-- ---- events

abbrev pub opened_by : Choice → Files → Opened (Unit {0}) → Option (List ℕ) → Opened (Unit {0})
opened_by choose files o None = o
opened_by choose files o (Some name) = with_file choose o name (held_file files name)

-- a loader opens the one file that it wants, as it stands; where it has finished nothing is done
abbrev pub opened_once : Choice → Files → Opened (Unit {0}) → Opened (Unit {0})
opened_once choose files o = opened_by choose files o (wanted o)

-- the loader of a number does
abbrev pub opened_at : Choice → Files → ℕ → List (Opened (Unit {0})) → List (Opened (Unit {0}))
opened_at choose files k [] = []
opened_at choose files zero (o ∷ os) = opened_once choose files o ∷ os
opened_at choose files (suc k) (o ∷ os) = o ∷ opened_at choose files k os

abbrev pub after : Choice → Weaving → Event → Weaving
after choose w (Open loader) = record w { loaders = opened_at choose w.runs.files loader w.loaders }
after choose w Rename = record w { runs = renamed w.runs }

-- the weave of files, of loaders of these names and of these runs, after events
abbrev pub woven : Choice → Files → List (List ℕ) → List Run → List Event → Weaving
woven choose files names runs events = fold (after choose) (record { loaders = map (opened tt) names; runs = begun files [] runs }) events
