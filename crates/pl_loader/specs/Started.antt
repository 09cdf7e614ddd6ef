-- What a load starts from: the objects at their addresses, the modules of thread-local storage, the entry and the memory (System V gABI, chapter 5; Drepper, "ELF Handling for Thread-Local Storage").
use Rattle.std.specs.Prelude.{◌≡◌, ℕ, ◌+◌, List, [], ◌∷◌, map, fold, min, max, Option, Some, None, Bool, Result, Ok, Err, ◌⊎◌, true, slice_get, if◌then◌else◌}
use Rattle.std.specs.List.{zip}
use Rattle.pl_base.specs.Answers.{◌>>=◌, Answers, NeverMemory, because}
use Rattle.pl_base.specs.Memory.{Memory}
use Rattle.pl_base.specs.Sums.{round_up, round_down}
use Rattle.pl_elf.specs.Headers.{loads}
use Rattle.pl_elf.specs.declared.constants.TheConstants.{ADDRESS_LIMIT, PAGE}
use Rattle.pl_elf.specs.declared.range.Range.{Range}
use Rattle.pl_elf.specs.declared.segment.Segment.{Segment}
use Rattle.pl_tls.specs.Layout.{offsets}
use Rattle.pl_tls.specs.declared.block.Block.{Block}
use Rattle.pl_tls.specs.declared.module.Module.{Module}
use Rattle.pl_image.specs.Image.{Image, byte_of, extents_of}
use Rattle.pl_value.specs.LinkNames.{named_fault}
use Rattle.pl_value.specs.Ordinary.{loaded_objects, ordinary}
use Rattle.pl_value.specs.declared.fault.LinkFault.{LinkFault}
use Rattle.pl_loader.specs.Faults.{is_memory, of_tls}
use Rattle.pl_loader.specs.Fast.{is_fast, fast_image}
use Rattle.pl_loader.specs.Loading.{Loading, objects_of, parts_of}
use Rattle.pl_place.specs.Policy.{Answering, Choice, Follows}
use Rattle.pl_loader.specs.Places.{places, IsPlaced, IsUnplaced}
use Rattle.pl_loader.specs.Walk.{IsFile, IsUnderWay, files, member}
use Rattle.pl_scope.specs.Walk.{itself}
use Rattle.pl_scope.specs.Walking.{wants}
use Rattle.pl_loader.specs.declared.object_file.ObjectFile.{ObjectFile}
use Rattle.pl_loader.specs.declared.placed.Placed.{Placed}
use Rattle.pl_loader.specs.declared.tls_module.TlsModule.{TlsModule}
use Rattle.pl_loader.specs.declared.started.Started as code
use Rattle.pl_loader.specs.declared.fault.LoadFault.{LoadFault}
use Rattle.pl_loader.specs.declared.fault.LoadFault.TheVariants.{NoPlace, Link}

-- ---- the bounds of an object in memory, in whole pages

-- the lowest address of PT_LOADs, as linked
unfoldable pub lowest_address : List Segment → ℕ
lowest_address ss = fold (λ least s. min least s.vaddr) ADDRESS_LIMIT ss

-- their highest end, as linked
unfoldable pub highest_end : List Segment → ℕ
highest_end ss = fold (λ most s. max most (s.vaddr + s.memsz)) 0 ss

-- where an object is loaded at a place, which is the address that its address 0 gets
unfoldable pub placed : ObjectFile → ℕ → Placed
placed f place = record {
  name = f.name;
  start = round_down (place + lowest_address (loads f.object.segments)) PAGE;
  end = round_up (place + highest_end (loads f.object.segments)) PAGE;
}

abbrev pub placed_at : ObjectFile × ℕ → Placed
placed_at at = placed at.0 at.1

unfoldable pub all_placed : List ObjectFile → List ℕ → List Placed
all_placed files places = map placed_at (zip files places)

-- ---- modules

-- the thread-local storage of an object, if it has any
unfoldable pub block_of : ObjectFile → Option Block
block_of f = f.object.tls

abbrev pub blocks : List ObjectFile → List (Option Block)
blocks files = map block_of files

abbrev pub name_in : Option ObjectFile → List ℕ
name_in None = []
name_in (Some f) = f.name

-- the name of the object of an index
unfoldable pub name_of : List ObjectFile → ℕ → List ℕ
name_of files index = name_in (slice_get files index)

unfoldable pub tls_module : List ObjectFile → Module → TlsModule
tls_module files m = record { number = m.number; offset = m.offset; name = name_of files m.member }

-- ---- the entry: the first object's, which is the program

abbrev pub entry_of : List ObjectFile → ℕ
entry_of [] = 0
entry_of (program ∷ libraries) = program.object.entry

-- ---- link refusals

-- by the names of the files
abbrev pub of_link : List ObjectFile → LinkFault → LoadFault
of_link files fault = Link (named_fault (map member files) fault)

-- ---- the start

-- what a load starts from: whether it is from the prelinked files as they stand, the objects, the modules, the entry and the memory. The extents are the addresses that each object loads
pub record Start : Type 0 where
  pub fast : Bool
  pub objects : List Placed
  pub modules : List TlsModule
  pub entry : ℕ
  pub memory : Memory
  pub extents : List (List Range)

unfoldable pub start : List ObjectFile → List ℕ → List Module → Memory → Start
start files places modules memory = record {
  fast = is_fast files places;
  objects = all_placed files places;
  modules = map (tls_module files) modules;
  entry = entry_of files;
  memory = memory;
  extents = extents_of (loaded_objects places (parts_of files) (objects_of files));
}

-- the memory of objects at places, or the first link refusal
unfoldable pub linked : List ObjectFile → List ℕ → List Module → Result Memory LoadFault
linked files places modules = because (of_link files) (ordinary (objects_of files) (parts_of files) places modules)

-- the modules of files, or why there are none
abbrev pub modules_of : List ObjectFile → Result (List Module) LoadFault
modules_of files = because of_tls (offsets (blocks files))

-- the memory of the prelinked files as they stand, where all conditions of it hold: no link is looked for; else that of the originals, linked
unfoldable pub imaged : List ObjectFile → List ℕ → List Module → Result Memory LoadFault
imaged files places modules = if is_fast files places then Ok (byte_of (fast_image files places)) else linked files places modules

abbrev pub start_at : List ObjectFile → List Module → List ℕ → Result Start LoadFault
start_at files modules at = imaged files at modules >>= λ memory. Ok (start files at modules memory)

-- what the files of a walk start from by a policy that is a function, or the first cause why they do not
unfoldable pub started : Choice → Option Range → List ObjectFile → Result Start LoadFault
started choose busy files = do
  modules ← modules_of files
  at ← places choose busy files
  start_at files modules at

-- ---- the whole load

-- what a name starts from, or the first cause why it does not
unfoldable pub load : {E : Type 0} → Choice → Option Range → (LoadFault → E) → (List ℕ → Result (List ℕ) E) → List ℕ → Result Start E
load choose busy fault file name = files fault file name >>= λ all. because fault (started choose busy all)

-- ---- what code holds

-- an image: the same memory, byte by byte, of objects that load the same addresses at these places
pub record IsImageOf (image : Image) (files : List ObjectFile) (places : List ℕ) (memory : Memory) : Type 0 where
  pub bytes : (address : ℕ) → byte_of image address ≡ memory address
  pub extents : extents_of image.objects ≡ extents_of (loaded_objects places (parts_of files) (objects_of files))

abbrev pub IsLinked : Image → List ObjectFile → List ℕ → Result Memory LoadFault → Type 0
IsLinked image files places meant = (memory : Memory) × (meant ≡ Ok memory) × IsImageOf image files places memory

-- a start as the code has it: the same memory, byte by byte
pub record IsStart (s : code.Started) (meant : Start) : Type 0 where
  pub fast : s.fast ≡ meant.fast
  pub objects : s.objects ≡ meant.objects
  pub modules : s.modules ≡ meant.modules
  pub entry : s.entry ≡ meant.entry
  pub bytes : (address : ℕ) → byte_of s.image address ≡ meant.memory address
  pub extents : extents_of s.image.objects ≡ meant.extents

-- the start that a definition means
abbrev pub Starts : code.Started → Result Start LoadFault → Type 0
Starts s meant = (whole : Start) × (meant ≡ Ok whole) × IsStart s whole

-- ---- by any policy

-- a start with the libraries where the policy answered
pub record StartsBy (post : Answering) (busy : Option Range) (files : List ObjectFile) (s : code.Started) : Type 0 where
  pub modules : List Module
  pub numbered : modules_of files ≡ Ok modules
  pub at : List ℕ
  pub placed : IsPlaced post busy files at
  pub starts : Starts s (start_at files modules at)
  -- on the fast path the image is the files as they stand, with the conflict rows as its patches
  pub stands : s.fast ≡ true → s.image ≡ fast_image files at

-- a library for which nothing fits
pub record IsUnplacedBy (post : Answering) (busy : Option Range) (files : List ObjectFile) (fault : LoadFault) : Type 0 where
  pub modules : List Module
  pub numbered : modules_of files ≡ Ok modules
  pub name : List ℕ
  pub named : fault ≡ NoPlace name
  pub unplaced : IsUnplaced post busy files name

-- a link refusal with the libraries where the policy answered
pub record IsRefusedBy (post : Answering) (busy : Option Range) (files : List ObjectFile) (fault : LoadFault) : Type 0 where
  pub modules : List Module
  pub numbered : modules_of files ≡ Ok modules
  pub at : List ℕ
  pub placed : IsPlaced post busy files at
  pub refused : imaged files at modules ≡ Err fault

-- why there is no start: there was no memory, or there are no modules, no places or no links, in this order
abbrev pub FailsBy : Answering → Option Range → List ObjectFile → LoadFault → Type 0
FailsBy post busy files fault =
    (is_memory fault ≡ true) ⊎ ((modules_of files ≡ Err fault) ⊎ (IsUnplacedBy post busy files fault ⊎ IsRefusedBy post busy files fault))

-- ---- by any policy that is a function

-- whatever function the policy follows, the start is what these files start from
abbrev pub StartsByChoice : Answering → Option Range → List ObjectFile → code.Started → Type 0
StartsByChoice post busy files s = (choose : Choice) → Follows post choose → Starts s (started choose busy files)

-- whatever function the policy follows, the fault is why these files do not start, or a want of memory
abbrev pub FailsByChoice : Answering → Option Range → List ObjectFile → LoadFault → Type 0
FailsByChoice post busy files fault = (choose : Choice) → Follows post choose → Answers is_memory (Err fault) (started choose busy files)

-- whatever folder holds these files, the start is what its whole load starts from
abbrev pub StartsEveryLoad : Answering → Option Range → Loading → code.Started → Type 0
StartsEveryLoad post busy l s =
    (choose : Choice) (files : List ℕ → Result (List ℕ) LoadFault) (name : List ℕ) → Follows post choose → IsUnderWay itself files name l
    → Starts s (load choose busy itself files name)

-- whatever folder holds these files, its whole load ends with this fault, or this is a want of memory
abbrev pub FailsEveryLoad : Answering → Option Range → Loading → LoadFault → Type 0
FailsEveryLoad post busy l fault =
    (choose : Choice) (files : List ℕ → Result (List ℕ) LoadFault) (name : List ℕ) → Follows post choose → IsUnderWay itself files name l
    → Answers is_memory (Err fault) (load choose busy itself files name)

-- whatever folder holds the wanted name's file as it is given, its whole load ends with this fault, or this is a want of memory
abbrev pub EndsEveryLoad : Loading → Option (List ℕ) → LoadFault → Type 0
EndsEveryLoad l file fault =
    (choose : Choice) (busy : Option Range) (files : List ℕ → Result (List ℕ) LoadFault) (name wanted : List ℕ) → wants l.order ≡ Some wanted
    → IsFile itself files wanted file → IsUnderWay itself files name l → Answers is_memory (Err fault) (load choose busy itself files name)

-- whatever folder tells of no want of memory, the whole load of this name tells of none
abbrev pub LoadsWithoutMemoryFault : Option Range → List ℕ → Type 0
LoadsWithoutMemoryFault busy name =
    (choose : Choice) (files : List ℕ → Result (List ℕ) LoadFault) → ((n : List ℕ) → NeverMemory is_memory (files n)) → NeverMemory is_memory (load choose busy itself files name)
