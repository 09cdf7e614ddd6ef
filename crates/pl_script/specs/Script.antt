-- What the lines of a script ask for, or the first that is wrong.
use Rattle.std.specs.Prelude.{◌≡◌, ℕ, ◌+◌, ◌≤◌, Bool, true, false, nat_lt, ◌&&◌, List, [], ◌∷◌, length, map, Result, Ok}
use Rattle.std.specs.List.{flat_map, list_all}
use Rattle.pl_base.specs.Answers.{unless_found}
use Rattle.pl_base.specs.Names.{is_valid_name}
use Rattle.pl_script.specs.declared.TheConstants.{MAX_LOADERS, MAX_RUNS}
use Rattle.pl_script.specs.declared.line.Line.{Line}
use Rattle.pl_script.specs.declared.line.Line.TheVariants.{Wrong, Load, Runs, Open, Rename}
use Rattle.pl_script.specs.declared.line.RunLine.{RunLine}
use Rattle.pl_script.specs.declared.line.RunLine.TheVariants.{Prelink, UndoAll, Undo, Install}
use Rattle.pl_script.specs.declared.script.Event.{Event}
use Rattle.pl_script.specs.declared.script.Event.TheVariants as events
use Rattle.pl_script.specs.declared.script.Script.{Script}
use Rattle.pl_script.specs.declared.fault.ScriptFault.{ScriptFault}
use Rattle.pl_script.specs.declared.fault.ScriptFault.TheVariants as faults
use Rattle.pl_script.specs.Grammar.{line, lines_of}
use Rattle.pl_script.specs.Limits.{first_wrong}

abbrev pub is_memory : ScriptFault → Bool
is_memory (faults.Wrong line) = false
is_memory faults.NoMemory = true

-- ---- what a line adds

abbrev pub loads_of : Line → List (List ℕ)
loads_of Wrong = []
loads_of (Load name) = name ∷ []
loads_of (Runs run) = []
loads_of (Open loader) = []
loads_of Rename = []

abbrev pub runs_of : Line → List RunLine
runs_of Wrong = []
runs_of (Load name) = []
runs_of (Runs run) = run ∷ []
runs_of (Open loader) = []
runs_of Rename = []

abbrev pub events_of : Line → List Event
events_of Wrong = []
events_of (Load name) = []
events_of (Runs run) = []
events_of (Open loader) = events.Open loader ∷ []
events_of Rename = events.Rename ∷ []

-- ---- the script

-- the loaders, the runs and the events of lines, each in the order of the lines
unfoldable pub gathered : List Line → Script
gathered lines = record { loads = flat_map loads_of lines; runs = flat_map runs_of lines; events = flat_map events_of lines }

-- lines count from 1
abbrev pub wrong_at : ℕ → ScriptFault
wrong_at index = faults.Wrong (index + 1)

unfoldable pub script_of : List Line → Result Script ScriptFault
script_of lines = unless_found (first_wrong lines) wrong_at (Ok (gathered lines))

-- the script that a text spells, or its first line that is wrong
unfoldable pub script : List ℕ → Result Script ScriptFault
script text = script_of (map line (lines_of text))

-- ---- what holds of every script

abbrev pub has_valid_names : RunLine → Bool
has_valid_names (Prelink now) = true
has_valid_names UndoAll = true
has_valid_names (Undo names) = list_all is_valid_name names
has_valid_names (Install name from) = is_valid_name name && is_valid_name from

-- the event is of one of so many loaders, if it is of one
abbrev pub is_of : ℕ → Event → Bool
is_of loaders (events.Open loader) = nat_lt loader loaders
is_of loaders events.Rename = true

-- its names are valid, it is within its limits, and each loader that it opens files for is one of its own
pub record IsScript (s : Script) : Type 0 where
  pub loads : list_all is_valid_name s.loads ≡ true
  pub runs : list_all has_valid_names s.runs ≡ true
  pub events : list_all (is_of (length s.loads)) s.events ≡ true
  pub few_loads : length s.loads ≤ MAX_LOADERS
  pub few_runs : length s.runs ≤ MAX_RUNS
