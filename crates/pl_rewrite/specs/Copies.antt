-- The bytes at the places of a program: words, and what copies read.
use Rattle.std.specs.Prelude.{◌≡◌, ◌<◌, ℕ, List, [], ◌∷◌, ◌++◌, if◌then◌else◌, take, drop, length, slice_get, slice_index, Some}
use Rattle.std.specs.List.{All, AllZip}
use Rattle.pl_base.specs.Bytes.{bytes64}
use Rattle.pl_base.specs.Memory.{Fill, filled, layered, read}
use Rattle.pl_conflict.specs.Prelinked.{Firm}
use Rattle.pl_form.specs.Words.{has_place}
use Rattle.pl_form.specs.declared.file.Fill as form
use Rattle.pl_image.specs.Image.{AreLoaded}
use Rattle.pl_image.specs.Loads.{IsPlaced, loaded_at}
use Rattle.pl_image.specs.declared.loaded_object.LoadedObject.{LoadedObject}
use Rattle.pl_object.specs.declared.reloc.Reloc.{Reloc}
use Rattle.pl_rewrite.specs.Rows.{IsFirmAt, IsNumbered}
use Rattle.pl_rewrite.specs.declared.copies.Filling.{Filling}
use Rattle.pl_rewrite.specs.declared.numbers.Numbered.{Numbered}
use Rattle.pl_value.specs.Linked.{words}
use Rattle.pl_value.specs.declared.meaning.Meaning.{Meaning}
use Rattle.pl_value.specs.declared.word.Word.{Word}
use Rattle.pl_value.specs.declared.word.Word.TheVariants.{Put, Copy, Nothing}

-- ---- a member's memory

-- the member of a row is placed within the limit of addresses
abbrev pub IsPlacedRow : Numbered → ℕ → Type 0
IsPlacedRow n row = (r : Firm) → IsFirmAt n row r → IsPlaced r.member.slot r.object

-- its original as loaded at its place
abbrev pub loaded_for : Firm → LoadedObject
loaded_for r = loaded_at r.member.slot r.member.original r.object

abbrev pub IsLoadedAt : Numbered → ℕ → LoadedObject → Type 0
IsLoadedAt n row loaded = (r : Firm) → IsFirmAt n row r → loaded ≡ loaded_for r

pub record IsLoadedRow (n : Numbered) (row : ℕ) (loaded : LoadedObject) : Type 0 where
  pub is : IsLoadedAt n row loaded
  pub alone : AreLoaded (loaded ∷ [])

-- those of the rows of a walk, one for each
pub record AreLoadedAt (n : Numbered) (walk : List ℕ) (loaded : List LoadedObject) : Type 0 where
  pub one_each : length loaded ≡ length walk
  pub each : (m : ℕ) (l : LoadedObject) → slice_get loaded m ≡ Some l → IsLoadedRow n (slice_index walk m) l

-- the list of the one of an index
abbrev pub IsOneOf : List LoadedObject → ℕ → List LoadedObject → Type 0
IsOneOf loaded m one = (l : LoadedObject) → slice_get loaded m ≡ Some l → one ≡ l ∷ []

-- so many bytes of it, with patches over it
abbrev pub AreBytesOf : Numbered → ℕ → List Fill → ℕ → ℕ → List ℕ → Type 0
AreBytesOf n row patches from size bytes = (r : Firm) → IsFirmAt n row r → bytes ≡ read (filled (layered (loaded_for r).pieces) patches) from size

abbrev pub PutsFirst : List ℕ → List ℕ → List ℕ → Type 0
PutsFirst first before after = after ≡ take (length before) first ++ drop (length first) before

-- ---- fills

abbrev pub row_at : Filling → ℕ → ℕ
row_at f member = slice_index f.walk.now member

-- the member from which is copied is one of the walk
abbrev pub IsFillOf : List ℕ → Word → Type 0
IsFillOf walk (Put word) = Unit {0}
IsFillOf walk (Copy member from size) = member < length walk
IsFillOf walk Nothing = Unit {0}

abbrev pub AreFillsOf : List ℕ → List Meaning → Type 0
AreFillsOf walk gs = All (λ g. IsFillOf walk g.word) gs

-- the rows of a walk of numbered files: there is one, each is that of a file, and each member is placed within the limit of addresses
pub record IsFillable (n : Numbered) (walk : List ℕ) : Type 0 where
  pub numbered : IsNumbered n
  pub some : 0 < length walk
  pub within : All (λ row. row < length n.files.now) walk
  pub placed : All (IsPlacedRow n) walk

pub record IsFilling (f : Filling) : Type 0 where
  pub some : 0 < length f.walk.now
  pub loaded : AreLoadedAt f.numbered.now f.walk.now f.loaded.now

-- the bytes of the program's original at the place of a relocation
abbrev pub HasBytesAt : Filling → Reloc → List ℕ → Type 0
HasBytesAt f reloc bytes = AreBytesOf f.numbered.now (row_at f 0) [] reloc.address reloc.width bytes

-- what is copied of a member's memory
abbrev pub AreCopied : Filling → ℕ → ℕ → ℕ → List ℕ → Type 0
AreCopied f member from size bytes = AreBytesOf f.numbered.now (row_at f member) f.near.now from size bytes

-- what a copy writes over what the original has there
pub record FillsCopy (f : Filling) (reloc : Reloc) (member from size : ℕ) (bytes : List ℕ) : Type 0 where
  pub standing : List ℕ
  pub copied : List ℕ
  pub stands : HasBytesAt f reloc standing
  pub copies : AreCopied f member from size copied
  pub puts : PutsFirst copied standing bytes

-- the bytes at the place of a relocation of the program
abbrev pub FillsBy : Filling → Reloc → Word → List ℕ → Type 0
FillsBy f reloc (Put word) bytes = bytes ≡ bytes64 word
FillsBy f reloc (Copy member from size) bytes = FillsCopy f reloc member from size bytes
FillsBy f reloc Nothing bytes = HasBytesAt f reloc bytes

abbrev pub IsFill : Filling → (Reloc × Meaning) → form.Fill → Type 0
IsFill f place fill = (fill.address ≡ place.0.address) × FillsBy f place.0 place.1.word fill.bytes

abbrev pub IsFillAt : Filling → Reloc → Meaning → form.Fill → Type 0
IsFillAt f r g fill = IsFill f (r, g) fill

abbrev pub place_of : Reloc → Meaning → List (Reloc × Meaning)
place_of r g = if has_place r then (r, g) ∷ [] else []

unfoldable pub given_places : List Reloc → List Meaning → List (Reloc × Meaning)
given_places [] gs = []
given_places (r ∷ rs) [] = []
given_places (r ∷ rs) (g ∷ gs) = place_of r g ++ given_places rs gs

-- the fill of one relocation stands behind others, unless it is NONE
pub record AddsFill (f : Filling) (r : Reloc) (g : Meaning) (before after : List form.Fill) : Type 0 where
  pub made : List form.Fill
  pub is : after ≡ before ++ made
  pub fills : AllZip (IsFill f) (place_of r g) made

-- one for each relocation that is not NONE, in their order
abbrev pub AreProgramFills : Filling → List Reloc → List Meaning → List form.Fill → Type 0
AreProgramFills f rs gs fills = AllZip (IsFill f) (given_places rs gs) fills

-- those of a program of these rows, with these words near what it copies
pub record AreFillsNear (n : Numbered) (walk : List ℕ) (near : List Meaning) (rs : List Reloc) (gs : List Meaning) (made : List form.Fill) : Type 0 where
  pub filling : Filling
  pub numbered : filling.numbered.now ≡ n
  pub rows : filling.walk.now ≡ walk
  pub patches : filling.near.now ≡ words near
  pub fills : AreProgramFills filling rs gs made
