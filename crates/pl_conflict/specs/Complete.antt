-- The conflict rows are complete: on the fast path the image is the ordinary image of the originals, whatever is in their scope.
use Rattle.std.specs.Prelude.{◌≡◌, ℕ, true, false, List, [], map, drop, slice_index_or, length, ◌<◌, Option, Some, None, Ok}
use Rattle.std.specs.List.{All, AllZip}
use Rattle.pl_base.specs.Memory.{Memory, Piece, layered}
use Rattle.pl_tls.specs.Layout.{offsets}
use Rattle.pl_tls.specs.declared.module.Module.{Module}
use Rattle.pl_elf.specs.Kinds.{is_program}
use Rattle.pl_object.specs.declared.object.Object.{Object}
use Rattle.pl_image.specs.Image.{all_pieces, any_masked, byte_of}
use Rattle.pl_image.specs.declared.loaded_object.LoadedObject.{LoadedObject}
use Rattle.pl_lists.specs.declared.conflict_row.ConflictRow.{ConflictRow}
use Rattle.pl_scope.specs.Members.{names}
use Rattle.pl_scope.specs.Scope.{objects}
use Rattle.pl_scope.specs.Walk.{Walked}
use Rattle.law_sound.specs.Rule.{Files, original_at, matches, walk_in}
use Rattle.pl_form.specs.Files.{marked_in}
use Rattle.pl_form.specs.declared.file.Marked.{Marked}
use Rattle.pl_value.specs.Laws.{AreRead, is_shared_at}
use Rattle.pl_value.specs.Linked.{under, relocated}
use Rattle.pl_value.specs.Meanings.{meanings}
use Rattle.pl_value.specs.Ordinary.{loaded_objects, ordinary, shown_linked, ArePlaced}
use Rattle.pl_value.specs.declared.meaning.Meaning.{Meaning}
use Rattle.pl_conflict.specs.Conflicts.{conflicts}
use Rattle.pl_conflict.specs.Fast.{IsForm, Holds, is_library}
use Rattle.pl_conflict.specs.Format.{Causes, format, RuleAt, slot_at, is_fast}
use Rattle.pl_conflict.specs.Standing.{standing, standing_image}

-- ---- over a scope

-- a program, then libraries
abbrev pub IsProgramScope : List Object → Type 0
IsProgramScope objects = (member : ℕ) → member < length objects → is_shared_at objects member ≡ is_library member

-- a piece of a file stands where the original's does
pub record Stands (original file : Piece) : Type 0 where
  pub start : file.start ≡ original.start
  pub size : file.size ≡ original.size

-- each library's file loads by its own program headers what it loads by its original's
abbrev pub LibrariesStand : List LoadedObject → List LoadedObject → Type 0
LibrariesStand members files = drop 1 members ≡ drop 1 files

-- at an address: the originals' bytes where no place is, and under a place of the program the byte of the relocated originals
pub record AreFormsOf (originals files : List Piece) (gs : List Meaning) (a : ℕ) : Type 0 where
  pub forms : AllZip (IsForm gs a) originals files
  pub holds : All (λ g. under a g ≡ true → is_library g.member ≡ false → Holds files a (relocated (layered originals) gs a)) gs

-- files that stand for originals, at addresses that no link table has
pub record StandFor (originals files : List (List ℕ)) (objects : List Object) (places : List ℕ) (gs : List Meaning) : Type 0 where
  pub extents : AllZip Stands (all_pieces (loaded_objects places originals objects)) (all_pieces (standing places files objects))
  pub libraries : LibrariesStand (loaded_objects places files objects) (standing places files objects)
  pub forms : (a : ℕ) → any_masked (loaded_objects places originals objects) a ≡ false → AreFormsOf (all_pieces (loaded_objects places originals objects)) (all_pieces (standing places files objects)) gs a

-- with the conflict rows as patches over files that stand for originals, the image is that of the originals, relocated
abbrev pub ConflictsAreComplete : Type 0
ConflictsAreComplete = (objects : List Object) (originals files : List (List ℕ)) (places : List ℕ) (modules : List Module) (gs : List Meaning) (rows : List ConflictRow)
    → AreRead originals objects → IsProgramScope objects → ArePlaced places originals objects
    → meanings objects places modules ≡ Ok gs → conflicts objects files places modules ≡ Ok rows → StandFor originals files objects places gs
    → (a : ℕ) → byte_of (standing_image places files objects rows) a ≡ shown_linked (loaded_objects places originals objects) gs a

-- ---- over a folder that keeps the rule at the program's name

abbrev pub bytes_of : Option (List ℕ) → List ℕ
bytes_of None = []
bytes_of (Some file) = file

-- a name's file as it stands
abbrev pub file_at : Files → List ℕ → List ℕ
file_at files n = bytes_of (files n)

-- the files of a walk as they stand, and their originals
abbrev pub files_in : Files → Walked → List (List ℕ)
files_in files walked = map (file_at files) (names walked)

abbrev pub originals_in : {E : Type 0} → Causes E → Files → Walked → List (List ℕ)
originals_in causes files walked = map (λ m. original_at (format causes) (files m)) (names walked)

-- the slots that they bear
abbrev pub slots_in : {E : Type 0} → Causes E → Files → Walked → List ℕ
slots_in causes files walked = map (slot_at causes files) (names walked)

-- the conflict rows of a file
abbrev pub marked_conflicts : Option Marked → List ConflictRow
marked_conflicts None = []
marked_conflicts (Some m) = m.conflicts

-- a program's walk, with the modules of its members
pub record IsProgramWalk {E : Type 0} (causes : Causes E) (files : Files) (n : List ℕ) (walked : Walked) (modules : List Module) : Type 0 where
  pub walks : walk_in (format causes) files n ≡ Ok walked
  pub program : (o : Object) → is_program (slice_index_or (objects walked) 0 o).kind ≡ true
  pub numbered : offsets (map (λ o. o.tls) (objects walked)) ≡ Ok modules

-- where the rule holds at a program and its list matches, the files of its walk stand at their slots for their originals
abbrev pub FilesStand : Type 0 → Type 0
FilesStand E = (causes : Causes E) (files : Files) (n : List ℕ) (walked : Walked) (modules : List Module) (gs : List Meaning)
    → RuleAt causes files n → IsProgramWalk causes files n walked modules → matches (format causes) files n ≡ true
    → meanings (objects walked) (slots_in causes files walked) modules ≡ Ok gs
    → StandFor (originals_in causes files walked) (files_in files walked) (objects walked) (slots_in causes files walked) gs

-- where the rule holds at a program and it is loaded fast, its files' segments with its conflict rows are the ordinary image of the originals
abbrev pub FastImagesAreOrdinary : Type 0 → Type 0
FastImagesAreOrdinary E = (causes : Causes E) (files : Files) (n : List ℕ) (walked : Walked) (modules : List Module) (places : List ℕ)
    → RuleAt causes files n → IsProgramWalk causes files n walked modules
    → slice_index_or places 0 0 ≡ 0 → length places ≡ length walked → is_fast causes files n places ≡ true
    → (memory : Memory)
    × (ordinary (objects walked) (originals_in causes files walked) places modules ≡ Ok memory)
    × ((a : ℕ) → byte_of (standing_image places (files_in files walked) (objects walked) (marked_conflicts (marked_in (file_at files n)))) a ≡ memory a)
