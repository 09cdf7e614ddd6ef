-- What the calls that a folder in memory has had make of its disk.
use Rattle.std.specs.Prelude.{ℕ, ◌+◌, ◌==◌, true, cond, List, [], ◌∷◌, length, Some, None}
use Rattle.pl_folder.specs.declared.call.Call.{Call}
use Rattle.pl_folder.specs.declared.call.Call.TheVariants.{Nothing, Create, Append, Firm, Rename, Remove, Settle}
use Rattle.pl_folder.specs.Disk.{Name, Names, Content, State, Disk, after, same}
use Rattle.pl_folder.specs.Entries.{name_bytes}
use Rattle.pl_folder.specs.States.{created, appended, firmed, renamed, removed, settled}

abbrev pub step_of : Call → State → State
step_of Nothing s = s
step_of (Create name) s = created (name_bytes name) s
step_of (Append name bytes) s = appended (name_bytes name) bytes.items s
step_of (Firm name) s = firmed (name_bytes name) s
step_of (Rename from to) s = renamed (name_bytes from) (name_bytes to) s
step_of (Remove name) s = removed (name_bytes name) s
step_of Settle s = settled s

-- these calls, one after the other
abbrev pub replay : List Call → Disk → Disk
replay [] d = d
replay (call ∷ calls) d = replay calls (after (step_of call d.now) d)

-- which of these files a name has, where the first of them is number i
abbrev pub names_from : ℕ → List (Name × List ℕ) → Names
names_from i [] n = None
names_from i (e ∷ es) n = cond (same n e.0) (Some i) (names_from (i + 1) es n)

abbrev pub contents_from : ℕ → List (Name × List ℕ) → ℕ → Content
contents_from i [] file = record { bytes = []; is_firm = true }
contents_from i (e ∷ es) file = cond (file == i) (record { bytes = e.1; is_firm = true }) (contents_from (i + 1) es file)

-- a settled disk with these files, which had no call yet
abbrev pub started : List (Name × List ℕ) → Disk
started es = record {
  now = record { base = names_from 0 es; changes = []; files = contents_from 0 es; count = length es };
  past = [];
}
