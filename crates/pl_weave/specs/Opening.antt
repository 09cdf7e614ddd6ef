-- A loader of a weave, by the files that it saw.
use Rattle.std.specs.Prelude.{◌≡◌, ◌≢◌, ℕ, ◌-◌, true, List, [], ◌∷◌, ◌++◌, length, slice_get, take, Option, Some, None, Result, Ok, Err}
use Rattle.pl_base.specs.Answers.{◌>>=◌, Answers}
use Rattle.pl_folder.specs.Seen as folder
use Rattle.pl_loader.specs.Faults.{is_memory}
use Rattle.pl_loader.specs.Loading.{Load, Loading}
use Rattle.pl_loader.specs.Started.{Start, Starts, started}
use Rattle.pl_loader.specs.Walk.{IsFile, begun, taken}
use Rattle.pl_loader.specs.declared.fault.LoadFault.{LoadFault}
use Rattle.pl_loader.specs.declared.object_file.ObjectFile.{ObjectFile}
use Rattle.pl_loader.specs.declared.started.Started.{Started}
use Rattle.pl_place.specs.Policy.{Answering, Choice, Follows}
use Rattle.pl_scope.specs.Walking.{wants}
use Rattle.pl_loader.specs.Given.{given}
use Rattle.pl_weave.specs.Taking.{Untaken, asks_for, held_file}
use Rattle.pl_weave.specs.declared.fault.WeaveFault.{WeaveFault}
use Rattle.pl_weave.specs.declared.seen.Seen.{Seen}

-- a load that is under way, the files that it saw, and why it was refused, if it was
pub record Opened (F : Type 0) : Type 0 where
  pub load : Load F
  pub seen : List Seen
  pub fault : Option LoadFault

-- the load of a name that saw no file yet
abbrev pub opened : {F : Type 0} → F → List ℕ → Opened F
opened policy name = record { load = record { walk = begun name; busy = None; policy = policy }; seen = []; fault = None }

abbrev pub wanted_by : Option LoadFault → Loading → Option (List ℕ)
wanted_by None walk = wants walk.order
wanted_by (Some fault) walk = None

-- the name whose file it opens next. None where it has finished: it was refused, or has all its files
abbrev pub wanted : {F : Type 0} → Opened F → Option (List ℕ)
wanted o = wanted_by o.fault o.load.walk

-- ---- one event

abbrev pub seen_of : List ℕ → Option (List ℕ) → Seen
seen_of name file = record { name = name; file = file }

abbrev pub led_to : {F : Type 0} → Opened F → Seen → Result Loading LoadFault → Opened F
led_to o s (Ok walk) = record { load = record o.load { walk = walk }; seen = o.seen ++ s ∷ []; fault = None }
led_to o s (Err fault) = record { load = o.load; seen = o.seen ++ s ∷ []; fault = Some fault }

-- the last file that it saw is forgotten
abbrev pub without_last : {F : Type 0} → Opened F → Opened F
without_last o = record o { seen = take (length o.seen - 1) o.seen }

-- the wanted name is given what is loaded of its file, if there is one
abbrev pub taken_as : Choice → Loading → List ℕ → Option (List ℕ) → Result Loading LoadFault
taken_as choose walk name file = given choose walk.name name file >>= taken walk name

-- it saw this file of the name that it wanted, or that there is none
abbrev pub with_file : {F : Type 0} → Choice → Opened F → List ℕ → Option (List ℕ) → Opened F
with_file choose o name file = led_to o (seen_of name file) (taken_as choose o.load.walk name file)

-- the same, whatever its policy is: where that is a function, the file is given as that says
pub record Sees {F : Type 0} (post : F → Answering) (name : List ℕ) (file : Option (List ℕ)) (old new : Opened F) : Type 0 where
  pub came : Result Loading LoadFault
  pub exact : (choose : Choice) → Follows (post old.load.policy) choose → taken_as choose old.load.walk name file ≡ came
  pub now : new ≡ led_to old (seen_of name file) came

abbrev pub OpensBy : {F : Type 0} → (F → Answering) → Option (List ℕ) → Opened F → Opened F → folder.Seen → Type 0
OpensBy post None old new held = new ≡ old
OpensBy post (Some name) old new held = (file : Option (List ℕ)) × (held.tells ≡ true → file ≡ held_file held.files name) × Sees post name file old new

-- the one file that it wants is the one that the folder has at this moment, or there is none; where it has finished nothing changes
abbrev pub Opens : {F : Type 0} → (F → Answering) → Result (Unit {0}) WeaveFault → Opened F → Opened F → folder.Seen → Type 0
Opens post (Ok _) old new held = OpensBy post (wanted old) old new held
Opens post (Err fault) old new held = (name : List ℕ) → wanted old ≡ Some name → Untaken name fault held

abbrev pub asks_by : Option (List ℕ) → ℕ
asks_by None = 0
asks_by (Some name) = asks_for name

-- how many calls of the folder an event makes: one, or none where the loader has finished or wants a name that is not valid
abbrev pub asks : {F : Type 0} → Opened F → ℕ
asks o = asks_by (wanted o)

-- ---- all events

-- The files that a loader saw, each of the name that it wanted, lead it to this: to the walk so far, or to why it was refused. Its policy is a function.
abbrev pub LeadsOn : (Loading → Type 0) → Result Loading LoadFault → List Seen → Result Loading LoadFault → Type 0
LeadsOn further (Ok walk) seen came = further walk
LeadsOn further (Err fault) seen came = (seen ≡ []) × (came ≡ Err fault)

abbrev pub Leads : Choice → Loading → List Seen → Result Loading LoadFault → Type 0
Leads choose walk [] came = came ≡ Ok walk
Leads choose walk (s ∷ seen) came = (wants walk.order ≡ Some s.name) × LeadsOn (λ next. Leads choose next seen came) (taken_as choose walk s.name s.file) seen came

abbrev pub came_to : Option LoadFault → Loading → Result Loading LoadFault
came_to None walk = Ok walk
came_to (Some fault) walk = Err fault

-- a loader of a name is where the files that it saw lead it
abbrev pub IsLed : {F : Type 0} → Choice → List ℕ → Opened F → Type 0
IsLed choose name o = Leads choose (begun name) o.seen (came_to o.fault o.load.walk)

-- so it is whatever function the policy follows
abbrev pub IsAlwaysLed : {F : Type 0} → List ℕ → Opened F → Type 0
IsAlwaysLed name o = (choose : Choice) → IsLed choose name o

-- ---- the end

abbrev pub files_by : Option LoadFault → Loading → Result (List ObjectFile) LoadFault
files_by None walk = Ok walk.files
files_by (Some fault) walk = Err fault

-- the files of a loader that has finished, or why it was refused
abbrev pub seen_files : {F : Type 0} → Opened F → Result (List ObjectFile) LoadFault
seen_files o = files_by o.fault o.load.walk

-- what they start from, by a policy that is a function, or the first cause why they do not
abbrev pub ended : {F : Type 0} → Choice → Opened F → Result Start LoadFault
ended choose o = seen_files o >>= started choose o.load.busy

-- the start is that of the files that it saw, whichever function the policy follows
abbrev pub EndsStarted : {F : Type 0} → Answering → Opened F → Started → Type 0
EndsStarted post o s = (choose : Choice) → Follows post choose → Starts s (ended choose o)

-- the fault is the first cause why they do not start, whichever function the policy follows, or want of memory
abbrev pub EndsRefused : {F : Type 0} → Answering → Opened F → LoadFault → Type 0
EndsRefused post o fault = (choose : Choice) → Follows post choose → Answers is_memory (Err fault) (ended choose o)

-- what is told of names is what was seen of them
abbrev pub HasSeen : {E : Type 0} → (LoadFault → E) → (List ℕ → Result (List ℕ) E) → List Seen → Type 0
HasSeen fault file [] = Unit {0}
HasSeen fault file (s ∷ seen) = IsFile fault file s.name s.file × HasSeen fault file seen

-- ---- many loaders

abbrev pub wanted_in : {F : Type 0} → Option (Opened F) → Option (List ℕ)
wanted_in None = None
wanted_in (Some o) = wanted o

-- the name that the loader of a number opens next
abbrev pub wanted_at : {F : Type 0} → List (Opened F) → ℕ → Option (List ℕ)
wanted_at w loader = wanted_in (slice_get w loader)

abbrev pub asks_at : {F : Type 0} → List (Opened F) → ℕ → ℕ
asks_at w loader = asks_by (wanted_at w loader)

-- the loader of a number opens its file, and all others stay as they are
pub record OpensAt {F : Type 0} (post : F → Answering) (result : Result (Unit {0}) WeaveFault) (loader : ℕ) (old new : List (Opened F)) (held : folder.Seen) : Type 0 where
  pub before : Opened F
  pub after : Opened F
  pub was : slice_get old loader ≡ Some before
  pub now : slice_get new loader ≡ Some after
  pub opens : Opens post result before after held
  pub others : (other : ℕ) → other ≢ loader → slice_get new other ≡ slice_get old other
  pub count : length new ≡ length old
