-- The table of a run: a row for each file, and what its columns tell.
use Rattle.std.specs.Prelude.{◌≡◌, ◌<◌, ◌≤◌, ℕ, Bool, false, not, List, [], ◌∷◌, ◌+◌, map, if◌then◌else◌, length, replicate, slice_get, slice_set, Option, Some, None, is_some, Result, Ok, Err, find}
use Rattle.std.specs.List.{All, filter_map, range_with_len}
use Rattle.std.specs.Option.{option_and_then, option_map}
use Rattle.std.specs.Str.{bytes_eq}
use Rattle.pl_elf.specs.declared.kind.Kind.{Kind}
use Rattle.pl_elf.specs.declared.kind.Kind.TheVariants.{Library, Program, Static}
use Rattle.pl_conflict.specs.Format.{format}
use Rattle.pl_elf.specs.declared.range.Range.{Range}
use Rattle.pl_object.specs.declared.object.Object.{Object}
use Rattle.pl_scope.specs.Folder.{IsFolderIndex, IsIndexAmong}
use Rattle.pl_scope.specs.Members.{names}
use Rattle.pl_scope.specs.Scope.{objects}
use Rattle.pl_scope.specs.Walk.{Walked}
use Rattle.pl_scope.specs.declared.folder.Among.{Among}
use Rattle.pl_scope.specs.declared.index.Entry.{Entry}
use Rattle.law_sound.specs.Rule.{walk_in}
use Rattle.pl_cone.specs.Candidates as candidates
use Rattle.pl_cone.specs.Links.{IsLinkOf}
use Rattle.pl_conflict.specs.Own.{FindAll}
use Rattle.pl_cone.specs.Plans as plans
use Rattle.pl_cone.specs.Plans.{RunPlan, Standing, cause_of, is_stale, slot_of}
use Rattle.pl_cone.specs.Skipped.{skip_causes, skip_of}
use Rattle.pl_cone.specs.Taken.{AreTaken, files_in, is_library_entry, object_by}
use Rattle.pl_cone.specs.declared.planning.Asked.{Asked}
use Rattle.pl_cone.specs.declared.linking.Link.{Link}
use Rattle.pl_cone.specs.declared.planning.RowPlan.{RowPlan}
use Rattle.pl_cone.specs.declared.scopes.WalkScope.{WalkScope}
use Rattle.pl_cone.specs.declared.skip.Skip.{Skip}
use Rattle.pl_cone.specs.declared.table.RunTable.{RunTable}
use Rattle.pl_cone.specs.declared.taken.Taken.{Taken}
use Rattle.pl_cone.specs.declared.walking.FolderWalks.{FolderWalks}

-- ---- rows

abbrev pub AreBelow : ℕ → List ℕ → Type 0
AreBelow count rows = All (λ r. r < count) rows

-- a file's name with the object of its original, if it has one
abbrev pub member_of : Option Taken → Option (List ℕ × Object)
member_of None = None
member_of (Some t) = option_map (λ o. (t.name, o)) (object_by t.entry)

-- the members that rows tell, by their names
abbrev pub walked_by : List Taken → List ℕ → Walked
walked_by ts rows = filter_map (λ r. member_of (slice_get ts r)) rows

-- rows are those of files that have objects, no more than a walk has
pub record AreRows (ts : List Taken) (rows : List ℕ) : Type 0 where
  pub within : AreBelow (length ts) rows
  pub each : length (walked_by ts rows) ≡ length rows
  pub few : length rows ≤ 256

abbrev pub names_by : List Taken → List ℕ → List (List ℕ)
names_by ts rows = names (walked_by ts rows)

-- the form fault of a name's original, by the files
unfoldable pub faults_of : List Taken → List ℕ → Option ℕ
faults_of ts n = option_and_then (λ t. t.fault) (find (λ t. bytes_eq t.name n) ts)

-- ---- walks

abbrev pub walk_for : List Taken → List ℕ → Result Walked Skip
walk_for ts n = walk_in (format skip_causes) (files_in ts) n

abbrev pub walk_named : List Taken → Option Taken → Result Walked Skip
walk_named ts None = Ok []
walk_named ts (Some t) = walk_for ts t.name

-- the walk of a row's name
abbrev pub walk_at : List Taken → ℕ → Result Walked Skip
walk_at ts row = walk_named ts (slice_get ts row)

-- rows tell it
abbrev pub IsWalkAt : List Taken → ℕ → List ℕ → Type 0
IsWalkAt ts row rows = AreRows ts rows × (walk_at ts row ≡ Ok (walked_by ts rows))

-- rows tell the walk of a file's name where no cause is told, and else there are none
abbrev pub IsWalkOfFile : List Taken → Taken → List ℕ → Option Skip → Type 0
IsWalkOfFile ts t rows None = AreRows ts rows × (walk_for ts t.name ≡ Ok (walked_by ts rows))
IsWalkOfFile ts t rows (Some cause) = (rows ≡ []) × (walk_for ts t.name ≡ Err cause)

-- walks of files, in their order
pub record AreWalks (ts : List Taken) (w : FolderWalks) : Type 0 where
  pub walks : length w.walks ≡ length ts
  pub causes : length w.causes ≡ length ts
  pub each : (i : ℕ) (t : Taken) (rows : List ℕ) (cause : Option Skip) → slice_get ts i ≡ Some t → slice_get w.walks i ≡ Some rows → slice_get w.causes i ≡ Some cause → IsWalkOfFile ts t rows cause

-- the causes of the names of files that have no walk
abbrev pub refusal_of : Result Walked Skip → Option Skip
refusal_of (Ok members) = None
refusal_of (Err skip) = Some skip

abbrev pub refusals_in : List Taken → List (Option Skip)
refusals_in ts = map (λ x. refusal_of (walk_for ts x.name)) ts

-- ---- the index, and a scope

-- the objects of the originals, in the order of the rows
abbrev pub folder_objects : List Taken → List (Option Object)
folder_objects ts = map (λ t. object_by t.entry) ts

-- where rows stand among some of them
unfoldable pub positions_from : ℕ → List (Option ℕ) → List ℕ → List (Option ℕ)
positions_from member all [] = all
positions_from member all (r ∷ rows) = positions_from (member + 1) (slice_set all r (Some member)) rows

unfoldable pub positions_of : ℕ → List ℕ → List (Option ℕ)
positions_of count rows = positions_from 0 (replicate count None) rows

pub record IsWalkScope (ts : List Taken) (rows : List ℕ) (w : WalkScope) : Type 0 where
  pub scope : w.scope ≡ walked_by ts rows
  pub positions : w.positions.items ≡ positions_of (length ts) rows

-- an index tells the definers of a scope's members
abbrev pub IsIndexOfScope : WalkScope → List Entry → Type 0
IsIndexOfScope w index = (among : Among) → among.index.now ≡ index → among.positions.now ≡ w.positions.items → IsIndexAmong (objects w.scope) among

-- ---- what is found of a row

-- of a library by its own walk, of a program where its walk links
abbrev pub IsLinkKind : Kind → List Taken → List Entry → List ℕ → Link → Type 0
IsLinkKind Library ts index rows l = IsLinkOf index (walked_by ts rows) l
IsLinkKind Program ts index rows l = FindAll (objects (walked_by ts rows)) l.found × (l.remaining ≡ [])
IsLinkKind Static ts index rows l = Unit {0}

abbrev pub IsLinkBy : List Taken → List Entry → List ℕ → Link → Type 0
IsLinkBy ts index rows l = IsLinkKind (candidates.kind_of (walked_by ts rows)) ts index rows l

-- ---- the table

-- the causes of rows that have no walk
abbrev pub refusals : RunTable → List (Option Skip)
refusals t = refusals_in t.files.now

-- a column with a row for each file, of which each is so
pub record IsRunTable (region : Range) (t : RunTable) : Type 0 where
  pub taken : AreTaken region t.files.now
  pub walks : AreWalks t.files.now (record { walks = t.walks; causes = refusals t })
  pub index : IsFolderIndex (folder_objects t.files.now) t.index
  pub sized : length t.links ≡ length t.files.now
  pub links : (row : ℕ) (rows : List ℕ) (l : Link) → slice_get t.causes row ≡ Some None → slice_get t.walks row ≡ Some rows → slice_get t.links row ≡ Some l → IsLinkBy t.files.now t.index rows l
  pub causes : t.causes ≡ map (λ x. cause_of (skip_of (files_in t.files.now) region x.name)) t.files.now

-- under whatever region its files were taken
abbrev pub IsRunTableOfAny : RunTable → Type 0
IsRunTableOfAny t = (region : Range) → AreTaken region t.files.now → IsRunTable region t

-- under some region
abbrev pub IsRunTableOfSome : RunTable → Type 0
IsRunTableOfSome t = (region : Range) × IsRunTable region t

-- the numbers of all rows
abbrev pub rows_of : RunTable → List ℕ
rows_of t = range_with_len 0 (length t.files.now)

abbrev pub has_no_cause : Option (Option Skip) → Bool
has_no_cause None = false
has_no_cause (Some cause) = not (is_some cause)

abbrev pub is_candidate_row : RunTable → ℕ → Bool
is_candidate_row t row = has_no_cause (slice_get t.causes row)

abbrev pub rows_in : Option (List ℕ) → List ℕ
rows_in None = []
rows_in (Some rows) = rows

abbrev pub walk_of : RunTable → ℕ → List ℕ
walk_of t row = rows_in (slice_get t.walks row)

-- ---- the plan

unfoldable pub standings_by : List Taken → List (Option Skip) → List Standing
standings_by [] causes = []
standings_by (t ∷ ts) [] = []
standings_by (t ∷ ts) (c ∷ cs) = record { name = t.name; cause = c } ∷ standings_by ts cs

-- the names of files that are flagged
unfoldable pub names_where : List Taken → List Bool → List (List ℕ)
names_where [] flags = []
names_where (t ∷ ts) [] = []
names_where (t ∷ ts) (b ∷ flags) = if b then t.name ∷ names_where ts flags else names_where ts flags

-- what is planned, by the columns
abbrev pub planned_by : RunTable → RowPlan → RunPlan
planned_by t p = record { standings = standings_by t.files.now t.causes; slots = p.slots; stale = names_where t.files.now p.stale; stamp = p.stamp }

-- the columns agree with the slots, the stale names and the stamp; what is no library has no slot
pub record IsPlan (t : RunTable) (a : Asked) (p : RowPlan) : Type 0 where
  pub places : p.places ≡ map (λ x. slot_of p.slots x.name) t.files.now
  pub programs : (row : ℕ) (x : Taken) → slice_get t.files.now row ≡ Some x → is_library_entry x.entry ≡ false → slot_of p.slots x.name ≡ 0
  pub stale : p.stale ≡ map (λ x. is_stale (files_in t.files.now) a.region p.slots x.name) t.files.now
  pub stamps : p.stamps ≡ map (λ x. plans.next_stamp (files_in t.files.now) a.region p.slots p.stamp x.name) t.files.now
