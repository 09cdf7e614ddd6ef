-- What the relocations of files give, once the slots are known.
use Rattle.std.specs.Prelude.{◌≡◌, ◌<◌, ℕ, Bool, true, false, ◌||◌, List, length, slice_get, Option, Some, None}
use Rattle.std.specs.List.{All}
use Rattle.pl_cone.specs.Table.{IsLinkBy}
use Rattle.pl_cone.specs.declared.linking.Link.{Link}
use Rattle.pl_conflict.specs.Own.{FindAll, own_words}
use Rattle.pl_conflict.specs.Prelinked.{Firm, objects_of, slots_of}
use Rattle.pl_rewrite.specs.Held.{AreHeld}
use Rattle.pl_rewrite.specs.declared.row_words.HeldWord.{HeldWord}
use Rattle.pl_rewrite.specs.declared.numbers.Numbered.{Numbered}
use Rattle.pl_rewrite.specs.declared.row_words.Needed.{Needed}
use Rattle.pl_rewrite.specs.declared.row_words.RowWords.{RowWords}
use Rattle.pl_scope.specs.declared.found.Found.{Found}
use Rattle.pl_rewrite.specs.Rows.{IsFirmAt, IsWalkRow, firms_of, is_library_row, walk_of}

-- the own words of the library of a row, at the slots of its walk
abbrev pub own_words_at : Numbered → ℕ → List (Option ℕ)
own_words_at n row = own_words (objects_of (firms_of n row)) (slots_of (firms_of n row))

abbrev pub FindsRow : Numbered → ℕ → List (Option Found) → Type 0
FindsRow n row found = FindAll (objects_of (firms_of n row)) found

abbrev pub is_set : Option Bool → Bool
is_set None = false
is_set (Some b) = b

abbrev pub is_asked : List Bool → ℕ → Bool
is_asked flags row = is_set (slice_get flags row)

abbrev pub is_needed : Needed → ℕ → Bool
is_needed asked row = is_asked asked.made.now row || is_asked asked.held.now row

-- a flag of each for each row
pub record IsNeeded (n : Numbered) (asked : Needed) : Type 0 where
  pub made : length asked.made.now ≡ length n.files.now
  pub held : length asked.held.now ≡ length n.files.now

-- what the relocations of the file of a row find, by its walk
pub record IsLinkAt (n : Numbered) (row : ℕ) (l : Link) : Type 0 where
  pub walk : IsWalkRow n row
  pub by : IsLinkBy n.files.now n.index.now (walk_of n row) l

abbrev pub IsLinkIf : Numbered → Needed → ℕ → Link → Type 0
IsLinkIf n needed row l = is_needed needed row ≡ true → IsLinkAt n row l

-- one for each row; those of the rows that are needed tell it
pub record AreLinks (n : Numbered) (need : ℕ → Bool) (links : List Link) : Type 0 where
  pub count : length links ≡ length n.files.now
  pub each : (row : ℕ) (l : Link) → slice_get links row ≡ Some l → need row ≡ true → IsLinkAt n row l

-- numbers of relocations of the member of a row
abbrev pub AreOfRow : Numbered → ℕ → List ℕ → Type 0
AreOfRow n row remaining = (r : Firm) → IsFirmAt n row r → All (λ i. i < length r.object.relocations) remaining

-- the words that the file of the library of a row holds at the places of its remaining relocations
abbrev pub AreHeldAt : Numbered → ℕ → List ℕ → List HeldWord → Type 0
AreHeldAt n row remaining held = (r : Firm) → IsFirmAt n row r → AreHeld r.member.original r.object (own_words_at n row) remaining held

-- where they are asked for
abbrev pub AreHeldIf : Bool → Numbered → ℕ → List ℕ → List HeldWord → Type 0
AreHeldIf asked n row remaining held = asked ≡ true → AreHeldAt n row remaining held

-- what is asked of a row is there, and is so, by what its relocations find
pub record AreRowWordsBy (n : Numbered) (row : ℕ) (asked : Needed) (link : Link) (s : RowWords) : Type 0 where
  pub words : is_library_row n row ≡ true → is_asked asked.made.now row ≡ true → s.words ≡ own_words_at n row
  pub held : is_library_row n row ≡ true → is_asked asked.held.now row ≡ true → AreHeldAt n row link.remaining s.held
  pub found : is_library_row n row ≡ false → s.found ≡ link.found

pub record AreRowWordsAt (n : Numbered) (row : ℕ) (asked : Needed) (s : RowWords) : Type 0 where
  pub link : Link
  pub is : is_needed asked row ≡ true → IsLinkAt n row link
  pub by : AreRowWordsBy n row asked link s

abbrev pub RowWordsTo : Numbered → Needed → List RowWords → Type 0
RowWordsTo n asked all = (row : ℕ) (s : RowWords) → slice_get all row ≡ Some s → AreRowWordsAt n row asked s

pub record AreRowWords (n : Numbered) (asked : Needed) (all : List RowWords) : Type 0 where
  pub count : length all ≡ length n.files.now
  pub each : RowWordsTo n asked all
