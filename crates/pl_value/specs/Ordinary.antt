-- The ordinary image: all objects loaded at their places and relocated, with 0 at the bytes of link tables (System V gABI chapter 5, "Program Loading" and "Dynamic Linking"; x86-64 psABI, "Relocation").
use Rattle.std.specs.Prelude.{◌≡◌, ℕ, ◌+◌, ◌<◌, ⊤, List, [], ◌∷◌, length, slice_index_or, Result, Ok, Err}
use Rattle.pl_base.specs.Answers.{◌>>=◌}
use Rattle.pl_base.specs.Memory.{Memory, AtMostOne, lies, layered, shown}
use Rattle.pl_tls.specs.declared.module.Module.{Module}
use Rattle.pl_object.specs.declared.object.Object.{Object}
use Rattle.pl_image.specs.Image.{Image, all_pieces, any_masked, byte_of}
use Rattle.pl_image.specs.Loads.{loaded_at, IsPlaced}
use Rattle.pl_image.specs.declared.loaded_object.LoadedObject.{LoadedObject}
use Rattle.pl_value.specs.Targets.{base_of}
use Rattle.pl_value.specs.Meanings.{meanings}
use Rattle.pl_value.specs.Linked.{relocated}
use Rattle.pl_value.specs.declared.fault.LinkFault.{LinkFault}
use Rattle.pl_value.specs.declared.fault.OrdinaryFault.{OrdinaryFault}
use Rattle.pl_value.specs.declared.fault.OrdinaryFault.TheVariants.{Link, NoMemory}
use Rattle.pl_value.specs.declared.meaning.Meaning.{Meaning}

-- ---- objects at their places

-- the bytes of a member's file
abbrev pub part_of : List (List ℕ) → ℕ → List ℕ
part_of parts member = slice_index_or parts member []

-- the objects from a member on, as loaded
unfoldable pub loaded_from : List ℕ → List (List ℕ) → ℕ → List Object → List LoadedObject
loaded_from places parts member [] = []
loaded_from places parts member (o ∷ os) = loaded_at (base_of places member) (part_of parts member) o ∷ loaded_from places parts (member + 1) os

abbrev pub loaded_objects : List ℕ → List (List ℕ) → List Object → List LoadedObject
loaded_objects places parts objects = loaded_from places parts 0 objects

-- accepted PT_LOADs that end, at their places, within the limit of addresses, and have no address in common
pub record ArePlaced (places : List ℕ) (parts : List (List ℕ)) (objects : List Object) : Type 0 where
  pub placed : (member : ℕ) (d : Object) → member < length objects → IsPlaced (base_of places member) (slice_index_or objects member d)
  pub apart : AtMostOne lies (all_pieces (loaded_objects places parts objects))

-- ---- the image

-- what is shown of objects that are loaded and linked
abbrev pub shown_linked : List LoadedObject → List Meaning → Memory
shown_linked objects gs = shown (layered (all_pieces objects)) (any_masked objects) (relocated (layered (all_pieces objects)) gs)

-- the ordinary image as a map from addresses to bytes, or the first link refusal
unfoldable pub ordinary : List Object → List (List ℕ) → List ℕ → List Module → Result Memory LinkFault
ordinary objects parts places modules = meanings objects places modules >>= λ gs. Ok (shown_linked (loaded_objects places parts objects) gs)

-- an image has the byte of a memory at every address; a link refusal is the one that is meant
abbrev pub IsOrdinary : Result Image OrdinaryFault → Result Memory LinkFault → Type 0
IsOrdinary (Ok image) (Ok memory) = (address : ℕ) → byte_of image address ≡ memory address
IsOrdinary (Ok image) (Err fault) = ⊥
IsOrdinary (Err (Link fault)) meant = meant ≡ Err fault
IsOrdinary (Err NoMemory) meant = ⊤
