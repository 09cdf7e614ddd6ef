-- The two paths of a load: from the prelinked files as they stand, and from their originals, linked (System V gABI chapter 5; Jelínek, "Prelink", on starting a prelinked program).
use Rattle.std.specs.Prelude.{◌≡◌, ℕ, Bool, List, [], ◌∷◌, map, length, slice_index_or, Option, Some, Result, Ok, Err}
use Rattle.pl_base.specs.Answers.{◌>>=◌, because}
use Rattle.pl_base.specs.Memory.{Memory}
use Rattle.pl_elf.specs.declared.range.Range.{Range}
use Rattle.pl_form.specs.Files.{marked_in}
use Rattle.pl_image.specs.Image.{Image, byte_of, extents_of}
use Rattle.pl_place.specs.Policy.{Choice}
use Rattle.pl_scope.specs.Scope.{objects}
use Rattle.pl_scope.specs.Walk.{Walked}
use Rattle.law_sound.specs.Rule.{Files, walk_in}
use Rattle.pl_tls.specs.declared.module.Module.{Module}
use Rattle.pl_value.specs.Ordinary.{loaded_objects}
use Rattle.pl_conflict.specs.Complete.{file_at, files_in, originals_in, marked_conflicts}
use Rattle.pl_conflict.specs.Format.{Causes, format}
use Rattle.pl_conflict.specs.Standing.{standing_image}
use Rattle.pl_loader.specs.Fast.{stored, conflicts_of}
use Rattle.pl_loader.specs.Loading.{objects_of, parts_of}
use Rattle.pl_loader.specs.Places.{places, wants_beside, all_places}
use Rattle.pl_loader.specs.Started.{Start, all_placed, tls_module, entry_of, modules_of, linked}
use Rattle.pl_loader.specs.Walk.{files, member}
use Rattle.pl_loader.specs.declared.object_file.ObjectFile.{ObjectFile}
use Rattle.pl_loader.specs.declared.started.Started.{Started}
use Rattle.pl_loader.specs.declared.fault.LoadFault.{LoadFault}

-- ---- the files of a load, and those of a folder

-- what `file` gives of a name is what the folder has of it. Where it gives nothing, nothing is said
abbrev pub GivesFrom : {E : Type 0} → Files → (List ℕ → Result (List ℕ) E) → Type 0
GivesFrom folder file = (n bytes : List ℕ) → file n ≡ Ok bytes → folder n ≡ Some bytes

-- the files of the walk of a name, taken from a folder
pub record AreTaken {E : Type 0} (folder : Files) (fault : LoadFault → E) (file : List ℕ → Result (List ℕ) E) (name : List ℕ) (all : List ObjectFile) : Type 0 where
  pub gives : GivesFrom folder file
  pub walked : files fault file name ≡ Ok all

-- their names and objects
abbrev pub walk_of : List ObjectFile → Walked
walk_of all = map member all

-- the folder's walk has the files of a load, their originals, and the program's conflict rows
pub record IsWalkOf {E : Type 0} (causes : Causes E) (folder : Files) (name : List ℕ) (all : List ObjectFile) : Type 0 where
  pub walks : walk_in (format causes) folder name ≡ Ok (walk_of all)
  pub objects : objects (walk_of all) ≡ objects_of all
  pub originals : originals_in causes folder (walk_of all) ≡ parts_of all
  pub files : files_in folder (walk_of all) ≡ map stored all
  pub rows : marked_conflicts (marked_in (file_at folder name)) ≡ conflicts_of all

-- the image of the fast path by the folder's files
abbrev pub folder_image : Files → List ℕ → Walked → List ℕ → Image
folder_image folder name walked places = standing_image places (files_in folder walked) (objects walked) (marked_conflicts (marked_in (file_at folder name)))

-- one place for each file, the first's at 0
pub record AreAt (all : List ObjectFile) (places : List ℕ) : Type 0 where
  pub first : slice_index_or places 0 0 ≡ 0
  pub one_each : length places ≡ length all

-- the places of a load: a program's is 0, each library's is its slot where that is free, and each other one's was chosen, one for each
abbrev pub AreChosen : Option Range → List ObjectFile → List ℕ → Type 0
AreChosen busy [] places = places ≡ []
AreChosen busy (program ∷ libraries) places =
    (starts : List ℕ) × (length starts ≡ length (wants_beside busy program libraries)) × (places ≡ all_places busy program libraries starts)

-- ---- the same memory

-- the same byte at every address, or the same refusal
abbrev pub SameMemory : {E : Type 0} → Result Memory E → Result Memory E → Type 0
SameMemory (Ok a) (Ok b) = (address : ℕ) → a address ≡ b address
SameMemory (Ok a) (Err e) = ⊥
SameMemory (Err e) (Ok b) = ⊥
SameMemory (Err e) (Err f) = e ≡ f

-- the originals link, and an image has the bytes of their ordinary one
pub record IsOrdinaryStart (all : List ObjectFile) (modules : List Module) (places : List ℕ) (s : Started) : Type 0 where
  pub memory : Memory
  pub links : linked all places modules ≡ Ok memory
  pub bytes : (address : ℕ) → byte_of s.image address ≡ memory address

-- ---- the ordinary start

-- what files start from where their originals are linked, and the word that tells the path
unfoldable pub linked_start : Bool → List ObjectFile → List ℕ → List Module → Memory → Start
linked_start fast all places modules memory = record {
  fast = fast;
  objects = all_placed all places;
  modules = map (tls_module all) modules;
  entry = entry_of all;
  memory = memory;
  extents = extents_of (loaded_objects places (parts_of all) (objects_of all));
}

-- the originals are linked at any places; the word is what a test of the places says
abbrev pub ordinary_at : (List ℕ → Bool) → List ObjectFile → List Module → List ℕ → Result Start LoadFault
ordinary_at fast all modules at = linked all at modules >>= λ memory. Ok (linked_start (fast at) all at modules memory)

-- by a policy that is a function, or the first cause why they do not
unfoldable pub ordinary_start : (List ℕ → Bool) → Choice → Option Range → List ObjectFile → Result Start LoadFault
ordinary_start fast choose busy all = do
  modules ← modules_of all
  at ← places choose busy all
  ordinary_at fast all modules at

-- the load of a name that links the originals alone
unfoldable pub ordinary_load : {E : Type 0} → (List ℕ → Bool) → Choice → Option Range → (LoadFault → E) → (List ℕ → Result (List ℕ) E) → List ℕ → Result Start E
ordinary_load fast choose busy fault file name = files fault file name >>= λ all. because fault (ordinary_start fast choose busy all)

-- the same path, objects at their addresses, modules, entry and addresses that are loaded, and the same byte at every address
pub record IsSameStart (a b : Start) : Type 0 where
  pub fast : a.fast ≡ b.fast
  pub objects : a.objects ≡ b.objects
  pub modules : a.modules ≡ b.modules
  pub entry : a.entry ≡ b.entry
  pub bytes : (address : ℕ) → a.memory address ≡ b.memory address
  pub extents : a.extents ≡ b.extents

-- the same start, or the same cause
abbrev pub SameAnswer : {E : Type 0} → Result Start E → Result Start E → Type 0
SameAnswer (Ok a) (Ok b) = IsSameStart a b
SameAnswer (Ok a) (Err e) = ⊥
SameAnswer (Err e) (Ok b) = ⊥
SameAnswer (Err e) (Err f) = e ≡ f
