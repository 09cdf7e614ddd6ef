-- How patches and masked addresses are looked up.
use Rattle.std.specs.Prelude.{◌≡◌, ℕ, ◌+◌, ◌/◌, ◌<◌, ◌≤◌, max, take, Bool, true, ◌&&◌, ◌==◌, nat_le, nat_lt, List, [], ◌∷◌, length, fold, slice_index, slice_index_or, if◌then◌else◌}
use Rattle.std.specs.List.{list_any, All}
use Rattle.std.specs.List.Sorted.{IsNonDecreasingBy}
use Rattle.pl_base.specs.Memory.{Fill, covers, fill_byte}
use Rattle.pl_elf.specs.declared.range.Range.{Range}
use Rattle.pl_image.specs.declared.loaded_object.LoadedObject.{LoadedObject}
use Rattle.pl_image.specs.declared.touched.Touch.{Touch}
use Rattle.pl_image.specs.Image.{any_masked, AreLoaded}
use Rattle.pl_elf.specs.Ranges.{has}

-- ---- patches by the words that they touch

-- the byte at an address with a patch over it
abbrev pub laid : ℕ → ℕ → Fill → ℕ
laid address found fill = if covers address fill then fill_byte address fill else found

-- the patch of an index; one that covers nothing where there is none
abbrev pub patch_of : List Fill → ℕ → Fill
patch_of patches index = slice_index_or patches index (record { start = 0; bytes = [] })

-- the byte at an address with the patch over it that touches a word, if it is the address's word
abbrev pub laid_by : List Fill → ℕ → ℕ → Touch → ℕ
laid_by patches address found touch =
    if touch.number == address / 8 then laid address found (patch_of patches touch.patch) else found

-- the number of the first word past a fill
abbrev pub words_end : Fill → ℕ
words_end fill = (fill.start + length fill.bytes + 7) / 8

-- the byte at an address with a patch over it, if the address's word is one from the patch's first word up to a number
abbrev pub laid_up_to : Fill → ℕ → ℕ → ℕ → ℕ
laid_up_to fill number address found = if nat_le (fill.start / 8) (address / 8) && nat_lt (address / 8) number then laid address found fill else found

-- the word is one from the patch's first one up to the one past its end
abbrev pub is_of_patch : List Fill → Touch → Bool
is_of_patch patches touch = nat_le ((patch_of patches touch.patch).start / 8) touch.number && nat_lt touch.number (words_end (patch_of patches touch.patch))

-- the word is one of a patch
abbrev pub is_touched : List Fill → ℕ → Bool
is_touched patches number = list_any (λ fill. nat_le (fill.start / 8) number && nat_lt number (words_end fill)) patches

-- the words that patches touch, and no others, in ascending order, those of one word in the order of the patches
pub record IsIndex (patches : List Fill) (touched : List Touch) : Type 0 where
  pub rising : IsNonDecreasingBy (λ t. t.number) touched
  pub inside : All (λ t. t.patch < length patches) touched
  pub only : All (λ t. is_of_patch patches t ≡ true) touched
  pub whole : (address found : ℕ) → fold (laid_by patches address) found touched ≡ fold (laid address) found patches

-- the first patches alone, for an index that is being made
pub record IsIndexOf (patches : List Fill) (touched : List Touch) (count : ℕ) : Type 0 where
  pub inside : All (λ t. t.patch < count) touched
  pub only : All (λ t. is_of_patch patches t ≡ true) touched
  pub whole : (address found : ℕ) → fold (laid_by patches address) found touched ≡ fold (laid address) found (take count patches)

-- the words of a patch from its first one up to a number, after those of the patches before it
pub record IsIndexTo (patches : List Fill) (touched : List Touch) (index number : ℕ) : Type 0 where
  pub inside : All (λ t. t.patch < index + 1) touched
  pub only : All (λ t. is_of_patch patches t ≡ true) touched
  pub whole : (address found : ℕ) → fold (laid_by patches address) found touched
      ≡ laid_up_to (patch_of patches index) number address (fold (laid address) found (take index patches))

-- the patches that touch a word
pub record AreTouching (patches : List Fill) (touching : List Touch) (number : ℕ) : Type 0 where
  pub inside : All (λ t. t.patch < length patches) touching
  pub whole : (address found : ℕ) → address / 8 ≡ number → fold (laid_by patches address) found touching ≡ fold (laid address) found patches

-- the patches that touch a word of so many bytes from an address on
pub record AreNear (patches : List Fill) (near : List Touch) (from size : ℕ) : Type 0 where
  pub inside : All (λ t. t.patch < length patches) near
  pub whole : (address found : ℕ) → from ≤ address → address < from + size → fold (laid_by patches address) found near ≡ fold (laid address) found patches

-- ---- bytes from an address on

-- each of some bytes becomes what a rule makes of its address and of the byte before
abbrev pub AreLaid : (ℕ → ℕ → ℕ) → ℕ → List ℕ → List ℕ → Type 0
AreLaid lay from before after = (length after ≡ length before) × ((k : ℕ) → k < length before → slice_index after k ≡ lay (from + k) (slice_index before k))

-- the byte at an address with a patch over it, if the address's word is the one of a number
abbrev pub laid_in : Fill → ℕ → ℕ → ℕ → ℕ
laid_in fill number address found = if number == address / 8 then laid address found fill else found

-- ---- masked addresses

-- each range begins at or after the end of the one before
unfoldable pub rises : ℕ → List Range → Bool
rises from [] = true
rises from (range ∷ ranges) = nat_le from range.start && nat_le range.start range.end && rises range.end ranges

-- ranges that ascend by where they start, each without its addresses before the end of those before it
unfoldable pub merged : ℕ → List Range → List Range
merged end [] = []
merged end (range ∷ ranges) =
    if nat_lt range.start range.end && nat_lt end range.end
    then record { start = max range.start end; end = range.end } ∷ merged range.end ranges
    else merged end ranges

-- ---- an image

-- objects and patches, with the words that the patches touch and the masked addresses
pub record IsIndexedImage (objects : List LoadedObject) (patches : List Fill) (touched : List Touch) (masked : List Range) : Type 0 where
  pub loaded : AreLoaded objects
  pub index : IsIndex patches touched
  pub rising : rises 0 masked ≡ true
  pub hidden : (address : ℕ) → list_any (has address) masked ≡ any_masked objects address
