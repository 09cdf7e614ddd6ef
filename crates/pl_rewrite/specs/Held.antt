-- The words that the prelinked file of a library holds at the places of its remaining relocations, by its original and its own words.
use Rattle.std.specs.Prelude.{◌≡◌, ℕ, List, [], ◌∷◌, slice_index_or, Option, Some, None}
use Rattle.std.specs.List.{AllZip}
use Rattle.pl_conflict.specs.Held.{HoldsAt}
use Rattle.pl_form.specs.Words.{word_at}
use Rattle.pl_image.specs.Loads.{loaded_at}
use Rattle.pl_image.specs.declared.loaded_object.LoadedObject.{LoadedObject}
use Rattle.pl_object.specs.declared.object.Object.{Object}
use Rattle.pl_object.specs.declared.reloc.Reloc.{Reloc}
use Rattle.pl_rewrite.specs.declared.row_words.HeldWord.{HeldWord}

-- the own word of a relocation; or, where it has none, the word that the original holds
abbrev pub IsWordIn : List LoadedObject → Reloc → Option ℕ → ℕ → Type 0
IsWordIn original r (Some own) word = word ≡ own
IsWordIn original r None word = HoldsAt original 0 r word

-- that word is told of a relocation, by its index
abbrev pub IsHeldIn : List LoadedObject → List Reloc → List (Option ℕ) → ℕ → HeldWord → Type 0
IsHeldIn original rs words index h = (h.index ≡ index) × ((d : Reloc) → IsWordIn original (slice_index_or rs index d) (word_at words index) h.word)

-- of each of these relocations, in their order
abbrev pub AreHeldIn : List LoadedObject → List Reloc → List (Option ℕ) → List ℕ → List HeldWord → Type 0
AreHeldIn original rs words remaining all = AllZip (IsHeldIn original rs words) remaining all

-- the same of a library
abbrev pub AreHeld : List ℕ → Object → List (Option ℕ) → List ℕ → List HeldWord → Type 0
AreHeld original o words remaining all = AreHeldIn (loaded_at 0 original o ∷ []) o.relocations words remaining all
