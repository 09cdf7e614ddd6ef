-- What is proved of the two paths of a load.
use Rattle.std.specs.Prelude.{◌≡◌, ℕ, List, length, Option, Some, Result, Ok}
use Rattle.pl_elf.specs.declared.range.Range.{Range}
use Rattle.pl_place.specs.Policy.{Choice}
use Rattle.law_sound.specs.History.{Happened, Held}
use Rattle.law_sound.specs.Rule.{Files}
use Rattle.pl_tls.specs.declared.module.Module.{Module}
use Rattle.pl_conflict.specs.Format as format
use Rattle.pl_conflict.specs.Format.{Causes, RuleAt}
use Rattle.pl_loader.specs.Fast.{is_fast, fast_image}
use Rattle.pl_loader.specs.Started.{imaged, linked, load, modules_of, start_at, Starts}
use Rattle.pl_loader.specs.declared.object_file.ObjectFile.{ObjectFile}
use Rattle.pl_loader.specs.declared.started.Started.{Started}
use Rattle.pl_loader.specs.declared.fault.LoadFault.{LoadFault}
use Rattle.law_loads.specs.Paths.{GivesFrom, AreTaken, walk_of, IsWalkOf, folder_image, AreAt, AreChosen, SameMemory, IsOrdinaryStart, ordinary_load, SameAnswer}

-- ---- the fast path of a loader is that of the folder's files

-- the files that a load takes are those of the folder's walk
abbrev pub WalksAreOne : Type 0 → Type 0 → Type 0
WalksAreOne E F = (causes : Causes F) (folder : Files) (fault : LoadFault → E) (file : List ℕ → Result (List ℕ) E) (name : List ℕ) (all : List ObjectFile)
    → AreTaken folder fault file name all → IsWalkOf causes folder name all

-- a loader takes this path where the folder's files allow it
abbrev pub PathsAreOne : Type 0 → Type 0 → Type 0
PathsAreOne E F = (causes : Causes F) (folder : Files) (fault : LoadFault → E) (file : List ℕ → Result (List ℕ) E) (name : List ℕ) (all : List ObjectFile) (at : List ℕ)
    → AreTaken folder fault file name all → length at ≡ length all → is_fast all at ≡ format.is_fast causes folder name at

-- and its image is theirs
abbrev pub FastImagesAreOne : Type 0 → Type 0
FastImagesAreOne E = (folder : Files) (fault : LoadFault → E) (file : List ℕ → Result (List ℕ) E) (name : List ℕ) (all : List ObjectFile) (at : List ℕ)
    → AreTaken folder fault file name all → fast_image all at ≡ folder_image folder name (walk_of all) at

-- ---- where the rule holds at the loaded name, the two paths give the same

-- at any places
abbrev pub ImagesAreOrdinary : Type 0 → Type 0 → Type 0
ImagesAreOrdinary E F = (causes : Causes F) (folder : Files) (fault : LoadFault → E) (file : List ℕ → Result (List ℕ) E) (name : List ℕ) (all : List ObjectFile) (modules : List Module) (at : List ℕ)
    → AreTaken folder fault file name all → RuleAt causes folder name → modules_of all ≡ Ok modules → AreAt all at → SameMemory (imaged all at modules) (linked all at modules)

-- so what code starts from there has the bytes of the ordinary image
abbrev pub StartsAreOrdinary : Type 0 → Type 0 → Type 0
StartsAreOrdinary E F = (causes : Causes F) (folder : Files) (fault : LoadFault → E) (file : List ℕ → Result (List ℕ) E) (name : List ℕ) (all : List ObjectFile) (modules : List Module) (at : List ℕ) (s : Started)
    → AreTaken folder fault file name all → RuleAt causes folder name → modules_of all ≡ Ok modules → AreAt all at → Starts s (start_at all modules at) → IsOrdinaryStart all modules at s

-- whatever a policy chose, the places are such
abbrev pub PlacesAreAt : Type 0
PlacesAreAt = (busy : Option Range) (all : List ObjectFile) (at : List ℕ) → AreChosen busy all at → AreAt all at

-- so the whole load is the ordinary one, whatever the policy chooses and whatever is busy; its path is the fast one where the folder's files allow it
abbrev pub LoadsAreOrdinary : Type 0 → Type 0 → Type 0
LoadsAreOrdinary E F = (causes : Causes F) (folder : Files) (choose : Choice) (busy : Option Range) (fault : LoadFault → E) (file : List ℕ → Result (List ℕ) E) (name : List ℕ)
    → GivesFrom folder file → RuleAt causes folder name → SameAnswer (load choose busy fault file name) (ordinary_load (format.is_fast causes folder name) choose busy fault file name)

-- a load may take each of its files at a moment of its own, while runs and edits change the folder
abbrev pub AreHeld : Files → List Files → Files → Type 0
AreHeld now past taken = (n bytes : List ℕ) → taken n ≡ Some bytes → Held now past n bytes

-- from a start that keeps the rule it answers as one that links the originals of the files that it took, and its path is the fast one where these files allow it
abbrev pub LoadsOverHistories : Type 0 → Type 0 → Type 0
LoadsOverHistories E F = (causes : Causes F) (now : Files) (past : List Files) (last : ℕ) (taken : Files) (choose : Choice) (busy : Option Range) (fault : LoadFault → E) (file : List ℕ → Result (List ℕ) E) (name : List ℕ)
    → Happened (format.format causes) now past last → AreHeld now past taken → GivesFrom taken file
    → SameAnswer (load choose busy fault file name) (ordinary_load (format.is_fast causes taken name) choose busy fault file name)
