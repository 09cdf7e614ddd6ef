-- The conflict rows of a program by the remaining relocations of its libraries, and the words that its copies read.
use Rattle.std.specs.Prelude.{◌≡◌, ◌<◌, ℕ, Bool, true, false, ◌&&◌, List, [], ◌++◌, map, length, slice_get, slice_index, slice_index_or, Option, Some, None, Result, Ok, Err, filter}
use Rattle.std.specs.List.{All}
use Rattle.pl_base.specs.Answers.{Answers, because}
use Rattle.pl_base.specs.Bytes.{bytes64}
use Rattle.pl_base.specs.Each.{each}
use Rattle.pl_base.specs.Sums.{plus}
use Rattle.pl_cone.specs.Links.{objects_of}
use Rattle.pl_conflict.specs.Own.{FindAll}
use Rattle.pl_cone.specs.declared.scopes.WalkLinking.{WalkLinking}
use Rattle.pl_conflict.specs.Quiet.{GivesQuiet}
use Rattle.pl_conflict.specs.Between.{HoldsBetween}
use Rattle.pl_conflict.specs.Compared.{AreCompared}
use Rattle.pl_conflict.specs.Conflicts.{conflicts, held, row_of, rows_of}
use Rattle.pl_elf.specs.declared.range.Range.{Range}
use Rattle.pl_image.specs.declared.loaded_object.LoadedObject.{LoadedObject}
use Rattle.pl_lists.specs.declared.conflict_row.ConflictRow.{ConflictRow}
use Rattle.pl_object.specs.declared.object.Object.{Object}
use Rattle.pl_object.specs.declared.reloc.Reloc.{Reloc}
use Rattle.pl_rewrite.specs.Ranges.{is_near, ranges_of}
use Rattle.pl_rewrite.specs.declared.conflict.RemainingRows.{RemainingRows}
use Rattle.pl_rewrite.specs.declared.row_words.HeldWord.{HeldWord}
use Rattle.pl_rewrite.specs.declared.row_words.RowWords.{RowWords}
use Rattle.pl_scope.specs.declared.found.Found.{Found}
use Rattle.pl_value.specs.Meanings.{is_memory, meaning, meanings, row}
use Rattle.pl_value.specs.Ordinary.{loaded_objects}
use Rattle.pl_value.specs.Targets.{base_of}
use Rattle.pl_value.specs.Values.{relocations_in}
use Rattle.pl_value.specs.declared.fault.LinkFault.{LinkFault}
use Rattle.pl_value.specs.declared.fault.OrdinaryFault.{OrdinaryFault}
use Rattle.pl_value.specs.declared.fault.OrdinaryFault.TheVariants.{Link}
use Rattle.pl_value.specs.declared.meaning.Meaning.{Meaning}
use Rattle.pl_value.specs.declared.word.Word.{Word}
use Rattle.pl_value.specs.declared.word.Word.TheVariants.{Put, Copy, Nothing}

-- ---- what a relocation gives

abbrev pub start_of : WalkLinking → ℕ → Reloc → ℕ
start_of l member r = plus (base_of l.places.now member) r.address

abbrev pub meaning_in : WalkLinking → ℕ → Reloc → Result Meaning LinkFault
meaning_in l member r = meaning (objects_of l) l.places.now l.modules.now (row member r)

-- what a member's relocations give, or the first refusal
abbrev pub given_in : WalkLinking → ℕ → List Reloc → Result (List Meaning) LinkFault
given_in l member rs = each (meaning (objects_of l) l.places.now l.modules.now) (map (row member) rs)

abbrev pub all_given : WalkLinking → Result (List Meaning) LinkFault
all_given l = meanings (objects_of l) l.places.now l.modules.now

abbrev pub is_put : Word → Bool
is_put (Put word) = true
is_put (Copy member from bytes) = false
is_put Nothing = false

-- ---- the first member

abbrev pub FindFirst : WalkLinking → List (Option Found) → Type 0
FindFirst l found = FindAll (objects_of l) found

-- what these relocations of it give, or the first refusal
abbrev pub GivesOf : WalkLinking → List Reloc → Result (List Meaning) OrdinaryFault → Type 0
GivesOf l rs result = Answers is_memory result (because Link (given_in l 0 rs))

abbrev pub GivesFirst : WalkLinking → Result (List Meaning) OrdinaryFault → Type 0
GivesFirst l result = GivesOf l (relocations_in (slice_get (objects_of l) 0)) result

-- ---- another member

abbrev pub indexes : List HeldWord → List ℕ
indexes told = map (λ h. h.index) told

abbrev pub HasValueAt : WalkLinking → ℕ → List Reloc → ℕ → Type 0
HasValueAt l member rs i = (d : Reloc) → (g : Meaning) × (meaning_in l member (slice_index_or rs i d) ≡ Ok g)

-- the relocations of a member that are not told have values
abbrev pub TellsHeldOf : WalkLinking → ℕ → List Reloc → List HeldWord → Type 0
TellsHeldOf l member rs told = HoldsBetween (HasValueAt l member rs) (length rs) 0 (indexes told)

abbrev pub IsQuietAt : WalkLinking → List LoadedObject → ℕ → List Reloc → ℕ → Type 0
IsQuietAt l files member rs i = (d : Reloc) → GivesQuiet (objects_of l) l.places.now files member (slice_index_or rs i d)

-- where a relocation gives a word, the member's file holds this one at its place
abbrev pub IsHeldOf : WalkLinking → List LoadedObject → ℕ → List Reloc → HeldWord → Type 0
IsHeldOf l files member rs h = (d : Reloc) (g : Meaning) → meaning_in l member (slice_index_or rs h.index d) ≡ Ok g → is_put g.word ≡ true → held files member g.start ≡ bytes64 h.word

-- with these files, the relocations that are not told matter nowhere, and the member's file holds the words that are told
pub record AreTold (l : WalkLinking) (files : List LoadedObject) (member : ℕ) (rs : List Reloc) (told : List HeldWord) : Type 0 where
  pub quiet : HoldsBetween (IsQuietAt l files member rs) (length rs) 0 (indexes told)
  pub held : All (IsHeldOf l files member rs) told

-- the row of what is given, where the member's file holds this word at the place
abbrev pub IsRowBy : Meaning → ℕ → Option ConflictRow → Type 0
IsRowBy g word row = (files : List LoadedObject) → (is_put g.word ≡ true → held files g.member g.start ≡ bytes64 word) → row ≡ row_of files g.member g.start g.word

-- the rows of a member's relocations stand behind others, whatever the files of which is told
pub record AddsRows (l : WalkLinking) (member : ℕ) (rs : List Reloc) (told : List HeldWord) (before after : List ConflictRow) : Type 0 where
  pub all : List Meaning
  pub given : given_in l member rs ≡ Ok all
  pub made : List ConflictRow
  pub is : after ≡ before ++ made
  pub rows : (files : List LoadedObject) → AreTold l files member rs told → made ≡ rows_of files all

-- the first relocation of a member that has no value
abbrev pub RefusesOne : WalkLinking → ℕ → List Reloc → OrdinaryFault → Type 0
RefusesOne l member rs fault = Answers is_memory (Err fault) (because Link (given_in l member rs))

-- all of a member's relocations have values
abbrev pub AllHave : WalkLinking → ℕ → List Reloc → Type 0
AllHave l member rs = (gs : List Meaning) × (given_in l member rs ≡ Ok gs)

-- ---- all members

-- what is told of a member, by the row of the walk
abbrev pub told_of : Option RowWords → List HeldWord
told_of None = []
told_of (Some s) = s.held

abbrev pub told_at : List ℕ → List RowWords → ℕ → List HeldWord
told_at walk row_words member = told_of (slice_get row_words (slice_index walk member))

-- a row of the walk for each member; what the program's relocations give; and what is told of the other members
pub record CanListRows (l : WalkLinking) (walk : List ℕ) (row_words : List RowWords) (own : List Meaning) : Type 0 where
  pub some : 0 < length (objects_of l)
  pub one_each : length walk ≡ length (objects_of l)
  pub within : All (λ r. r < length row_words) walk
  pub first : (o : Object) → slice_get (objects_of l) 0 ≡ Some o → given_in l 0 o.relocations ≡ Ok own
  pub others : (m : ℕ) (o : Object) → 0 < m → slice_get (objects_of l) m ≡ Some o → TellsHeldOf l m o.relocations (told_at walk row_words m)

abbrev pub AreAllTold : WalkLinking → List LoadedObject → List ℕ → List RowWords → Type 0
AreAllTold l files walk row_words = (m : ℕ) (o : Object) → 0 < m → slice_get (objects_of l) m ≡ Some o → AreTold l files m o.relocations (told_at walk row_words m)

-- they are the conflict rows, whatever the files with which members can be compared and of which is told
abbrev pub AreConflictRows : WalkLinking → List ℕ → List RowWords → List ConflictRow → Type 0
AreConflictRows l walk row_words rows = (parts : List (List ℕ)) → AreCompared (objects_of l) l.places.now parts → AreAllTold l (loaded_objects l.places.now parts (objects_of l)) walk row_words
    → conflicts (objects_of l) parts l.places.now l.modules.now ≡ Ok rows

-- the first relocation of all that has no value
abbrev pub RefusesAll : WalkLinking → OrdinaryFault → Type 0
RefusesAll l fault = Answers is_memory (Err fault) (because Link (all_given l))

-- ---- words in the ranges from which the program copies

-- a word is given at a place near ranges
abbrev pub is_near_word : List Range → Meaning → Bool
is_near_word ranges g = is_put g.word && is_near ranges g.start

-- those that a member's relocations give stand behind others, in the order of the relocations
abbrev pub AddsNear : WalkLinking → ℕ → List Reloc → List Range → List Meaning → List Meaning → Type 0
AddsNear l member rs ranges before after = (gs : List Meaning) → given_in l member rs ≡ Ok gs → after ≡ before ++ filter (is_near_word ranges) gs

-- the same of the member of an index
abbrev pub TellsOfMember : WalkLinking → ℕ → List HeldWord → Type 0
TellsOfMember l m told = (o : Object) → slice_get (objects_of l) m ≡ Some o → TellsHeldOf l m o.relocations told

abbrev pub RefusesMember : WalkLinking → ℕ → OrdinaryFault → Type 0
RefusesMember l m fault = (o : Object) → slice_get (objects_of l) m ≡ Some o → RefusesOne l m o.relocations fault

-- its rows and its words near ranges stand behind others
pub record AddsMember (l : WalkLinking) (m : ℕ) (told : List HeldWord) (ranges : List Range) (before after : RemainingRows) : Type 0 where
  pub rows : (o : Object) → slice_get (objects_of l) m ≡ Some o → AddsRows l m o.relocations told before.rows.items after.rows.items
  pub near : (o : Object) → slice_get (objects_of l) m ≡ Some o → AddsNear l m o.relocations ranges before.near.items after.near.items

-- those of all members that are near what the program copies, in the order of the relocations
abbrev pub AreNear : WalkLinking → List Meaning → List Meaning → Type 0
AreNear l own near = (gs : List Meaning) → all_given l ≡ Ok gs → near ≡ filter (is_near_word (ranges_of own)) gs
