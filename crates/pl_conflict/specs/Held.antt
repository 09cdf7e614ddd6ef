-- The words that the prelinked file of a library holds at the places of its relocations, by its original and its own words.
use Rattle.std.specs.Prelude.{◌≡◌, ◌<◌, ℕ, List, [], ◌∷◌, length, slice_index_or, Option, Some, None}
use Rattle.pl_base.specs.Bytes.{bytes64}
use Rattle.pl_base.specs.Sums.{plus}
use Rattle.pl_form.specs.Library.{IsEven, IsFirmLibrary, IsShortList, library_form}
use Rattle.pl_form.specs.Words.{listed, word_at}
use Rattle.pl_form.specs.declared.version.Version.{Version}
use Rattle.pl_image.specs.Loads.{IsPlaced, loaded_at}
use Rattle.pl_image.specs.declared.loaded_object.LoadedObject.{LoadedObject}
use Rattle.pl_lists.specs.declared.list_row.ListRow.{ListRow}
use Rattle.pl_object.specs.declared.object.Object.{Object}
use Rattle.pl_object.specs.declared.reloc.Reloc.{Reloc}
use Rattle.pl_conflict.specs.Conflicts.{held}

-- a file is a library's form for a slot, with words at its places
pub record IsFormWith (original : List ℕ) (o : Object) (slot : ℕ) (words : List (Option ℕ)) (file : List ℕ) : Type 0 where
  pub firm : IsFirmLibrary original o
  pub even : IsEven slot
  pub stamp : ℕ
  pub list : List ListRow
  pub short : IsShortList (listed list)
  pub version : Version
  pub is : file ≡ library_form original slot stamp list words version

-- the eight bytes that a file holds at the place of a relocation, where it is loaded at an address
abbrev pub held_at : ℕ → List ℕ → Object → Reloc → List ℕ
held_at place file o r = held (loaded_at place file o ∷ []) 0 (plus place r.address)

-- the first object of files holds a word at the place of a relocation, where it is loaded at a place
abbrev pub HoldsAt : List LoadedObject → ℕ → Reloc → ℕ → Type 0
HoldsAt files place r word = held files 0 (plus place r.address) ≡ bytes64 word

-- the own word of a relocation; or, where it has none, the word that the original holds
abbrev pub IsHeldWord : List ℕ → Object → Reloc → Option ℕ → ℕ → Type 0
IsHeldWord original o r (Some own) word = word ≡ own
IsHeldWord original o r None word = held_at 0 original o r ≡ bytes64 word

-- a library's form, loaded at its slot, holds that word at each place of eight bytes
abbrev pub FormsHoldWords : Type 0
FormsHoldWords = (original file : List ℕ) (o : Object) (slot : ℕ) (words : List (Option ℕ)) (i : ℕ) (d : Reloc) (word : ℕ)
    → IsFormWith original o slot words file → IsPlaced slot o → i < length o.relocations → (slice_index_or o.relocations i d).width ≡ 8
    → IsHeldWord original o (slice_index_or o.relocations i d) (word_at words i) word → held_at slot file o (slice_index_or o.relocations i d) ≡ bytes64 word
