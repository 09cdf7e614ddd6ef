-- Names by numbers, and a walk by them (System V gABI chapter 5, "Shared Object Dependencies").
use Rattle.std.specs.Prelude.{◌≡◌, ◌<◌, ◌≤◌, Vec, ◌^◌, ℕ, ◌+◌, Bool, false, ◌==◌, ◌&&◌, nat_lt, List, [], ◌∷◌, ◌++◌, map, length, take, slice_get, Option, Some, None, Result, Ok, Err}
use Rattle.std.specs.Borrow.{Bor}
use Rattle.std.specs.declared.alloc.Global.{Global}
use Rattle.std.specs.BTreeMap.{BTreeMap, get_by}
use Rattle.std.specs.Cmp.Lexicographic.{slice_cmp}
use Rattle.std.specs.List.{All, list_any}
use Rattle.std.specs.Ordering.{nat_cmp}
use Rattle.pl_base.specs.Answers.{◌>>=◌, because}
use Rattle.pl_cone.specs.Skips.{skip_is_memory, of_walk}
use Rattle.pl_cone.specs.Taken.{WereTaken, object_by, object_of}
use Rattle.pl_cone.specs.declared.needs.Needs.{Needs}
use Rattle.pl_cone.specs.declared.needs.Numbering.{Numbering}
use Rattle.pl_cone.specs.declared.skip.Skip.{Skip}
use Rattle.pl_cone.specs.declared.skip.Skip.TheVariants as skips
use Rattle.pl_cone.specs.declared.taken.Taken.{Taken}
use Rattle.pl_cone.specs.declared.walking.NumberWalk as walking
use Rattle.pl_cone.specs.declared.walking.FolderWalks.{FolderWalks}
use Rattle.pl_elf.specs.Kinds.{is_program}
use Rattle.pl_form.specs.declared.file.Entry.{Entry}
use Rattle.pl_form.specs.declared.file.Entry.TheVariants.{There, BadMark, Refused}
use Rattle.pl_io.specs.declared.no_memory.NoMemory.{NoMemory}
use Rattle.pl_object.specs.declared.object.Object.{Object}
use Rattle.pl_scope.specs.Walk as walk
use Rattle.pl_scope.specs.Walking.{Walking}

-- ---- numbers of names

abbrev pub words : List (Bor (List ℕ)) → List (List ℕ)
words names = map (λ name. name.now) names

-- the number that a map tells of a name
abbrev pub told : BTreeMap (Bor (List ℕ)) ℕ → List ℕ → Option ℕ
told numbers name = get_by (λ k. slice_cmp nat_cmp name k.now) numbers

-- a map tells the number of each name, none of which stands twice
pub record AreNumbers (numbers : BTreeMap (Bor (List ℕ)) ℕ) (names : List (List ℕ)) : Type 0 where
  pub tell : (name : List ℕ) (n : ℕ) → told numbers name ≡ Some n → slice_get names n ≡ Some name
  pub all : (name : List ℕ) (n : ℕ) → slice_get names n ≡ Some name → told numbers name ≡ Some n

-- so a map numbers names that are borrowed
abbrev pub Numbers : BTreeMap (Bor (List ℕ)) ℕ → List (Bor (List ℕ)) → Type 0
Numbers numbers names = AreNumbers numbers (words names)

-- names with their numbers, fewer than 2^32
pub record IsNumbering (n : Numbering) : Type 0 where
  pub numbers : Numbers n.numbers n.names.items
  pub few : length n.names.items < 2 ^ 32

abbrev pub words_in : Numbering → List (List ℕ)
words_in n = words n.names.items

abbrev pub HasNumber : Numbering → List ℕ → ℕ → Type 0
HasNumber n name number = slice_get (words_in n) number ≡ Some name

-- names keep their numbers
abbrev pub KeepNumbers : List (List ℕ) → List (List ℕ) → Type 0
KeepNumbers before after = (n : ℕ) (name : List ℕ) → slice_get before n ≡ Some name → slice_get after n ≡ Some name

-- more names may have numbers
pub record GoesOn (before after : Numbering) : Type 0 where
  pub is : IsNumbering after
  pub keep : KeepNumbers (words_in before) (words_in after)

-- a name that has none is added behind the others
abbrev pub AddsName : List ℕ → Numbering → Numbering → Type 0
AddsName name before after = told before.numbers name ≡ None → words_in after ≡ words_in before ++ name ∷ []

abbrev pub told_name : Option (List ℕ) → List ℕ
told_name None = []
told_name (Some name) = name

-- the name of a number
abbrev pub numbered_name : List (List ℕ) → ℕ → List ℕ
numbered_name names n = told_name (slice_get names n)

-- numbers are those of names, in their order
pub record Tell (names needed : List (List ℕ)) (told : List ℕ) : Type 0 where
  pub within : All (λ n. n < length names) told
  pub are : map (numbered_name names) told ≡ needed

abbrev pub needed_in : Option Object → List (List ℕ)
needed_in None = []
needed_in (Some o) = o.needed

abbrev pub needed_by : Taken → List (List ℕ)
needed_by t = needed_in (object_by t.entry)

-- for each file the numbers of the names that its object needs
pub record TellAll (ts : List Taken) (names : List (List ℕ)) (needed : List (List ℕ)) : Type 0 where
  pub rows : length needed ≡ length ts
  pub each : (row : ℕ) (t : Taken) (told : List ℕ) → slice_get ts row ≡ Some t → slice_get needed row ≡ Some told → Tell names (needed_by t) told

abbrev pub items_of : List (Vec ℕ Global) → List (List ℕ)
items_of vs = map (λ v. v.items) vs

abbrev pub all_names : Needs → List (List ℕ)
all_names n = words n.names.items

abbrev pub all_needed : Needs → List (List ℕ)
all_needed n = items_of n.needed.items

-- the numbers of all names that files have and need: a file's own is that of its row, and no name has two
pub record AreNeeds (n : Needs) : Type 0 where
  pub few : length (all_names n) < 2 ^ 32
  pub once : (i j : ℕ) (name : List ℕ) → slice_get (all_names n) i ≡ Some name → slice_get (all_names n) j ≡ Some name → i ≡ j
  pub files : (row : ℕ) (t : Taken) → slice_get n.files.now row ≡ Some t → slice_get (all_names n) row ≡ Some t.name
  pub needed : TellAll n.files.now (all_names n) (all_needed n)

-- files that were taken, and the numbers of their names
pub record AreNumberedFiles (n : Needs) : Type 0 where
  pub taken : WereTaken n.files.now
  pub needs : AreNeeds n

abbrev pub name_of : Needs → ℕ → List ℕ
name_of n number = numbered_name (all_names n) number

abbrev pub numbers_at : Option (List ℕ) → List ℕ
numbers_at None = []
numbers_at (Some told) = told

-- the numbers of the names that the object of a row needs
abbrev pub needed_at : Needs → ℕ → List ℕ
needed_at n row = numbers_at (slice_get (all_needed n) row)

-- ---- the object of a name

abbrev pub object_for : List ℕ → Entry → Result Object Skip
object_for name (There file) = Ok (object_of file)
object_for name BadMark = Err (skips.BadMark name)
object_for name (Refused number argument) = Err (skips.Refused name number argument)

abbrev pub object_at : List ℕ → Option Taken → Result Object Skip
object_at name None = Err (skips.NotThere name)
object_at name (Some t) = object_for t.name t.entry

-- the object of the original of a number's file, or why it has none
abbrev pub object_by_number : Needs → ℕ → Result Object Skip
object_by_number n number = object_at (name_of n number) (slice_get n.files.now number)

abbrev pub is_program_object : Option Object → Bool
is_program_object None = false
is_program_object (Some o) = is_program o.kind

abbrev pub is_program_file : Option Taken → Bool
is_program_file None = false
is_program_file (Some t) = is_program_object (object_by t.entry)

abbrev pub is_program_row : Needs → Option ℕ → Bool
is_program_row n None = false
is_program_row n (Some row) = is_program_file (slice_get n.files.now row)

-- ---- a walk by numbers

-- a name was last seen in this walk or in one before it, and in this one if its number is among the walk's
pub record IsSeen (w : walking.NumberWalk) (k : ℕ) : Type 0 where
  pub last : ℕ
  pub at : slice_get w.last.items k ≡ Some last
  pub past : last ≤ w.walk
  pub now : (last == w.walk) ≡ list_any (λ m. m == k) w.numbers.items

abbrev pub AreNameNumbers : Needs → List ℕ → Type 0
AreNameNumbers n numbers = All (λ k. k < length (all_names n)) numbers

-- numbers of names, each of which was last seen in this walk
pub record IsNumberWalk (n : Needs) (w : walking.NumberWalk) : Type 0 where
  pub named : AreNameNumbers n w.numbers.items
  pub few : length w.numbers.items ≤ 256
  pub seen : (k : ℕ) → k < length (all_names n) → IsSeen w k

-- names by numbers, and a walk by them
pub record IsUnderWay (n : Needs) (w : walking.NumberWalk) : Type 0 where
  pub needs : AreNeeds n
  pub walking : IsNumberWalk n w

-- a name was last seen in one of the first walks
pub record IsPast (w : walking.NumberWalk) (walks k : ℕ) : Type 0 where
  pub last : ℕ
  pub at : slice_get w.last.items k ≡ Some last
  pub past : last ≤ walks

-- no more than the first walks have begun
pub record MayBeginNext (n : Needs) (walks : ℕ) (w : walking.NumberWalk) : Type 0 where
  pub seen : (k : ℕ) → k < length (all_names n) → IsPast w walks k

-- the walk of a row has begun: the row is its first number
pub record HasBegun (n : Needs) (row : ℕ) (w : walking.NumberWalk) : Type 0 where
  pub walking : IsNumberWalk n w
  pub walk : w.walk ≡ row + 1
  pub numbers : w.numbers.items ≡ row ∷ []

-- the same walk with more numbers
pub record IsMore (before after : walking.NumberWalk) : Type 0 where
  pub walk : after.walk ≡ before.walk
  pub front : take (length before.numbers.items) after.numbers.items ≡ before.numbers.items

-- the names of a walk
abbrev pub walk_names : Needs → walking.NumberWalk → List (List ℕ)
walk_names n w = map (name_of n) w.numbers.items

-- the names of a walk with one more, where it is new
abbrev pub added : Needs → List (List ℕ) → ℕ → Result (List (List ℕ)) Skip
added n names number = because of_walk (walk.added names (name_of n number))

-- the state that pl_scope has of a walk of whose names so many were given their objects
abbrev pub state : Needs → ℕ → walking.NumberWalk → Walking
state n given w = record { names = walk_names n w; given = given; program = nat_lt 0 given && is_program_row n (slice_get w.numbers.items 0) }

-- the state after the name of an index, if there is one
abbrev pub state_after : Needs → ℕ → walking.NumberWalk → Walking
state_after n index w = state n (length (take (index + 1) w.numbers.items)) w

-- the name of an index may have its object in a walk
abbrev pub checked_at : Needs → ℕ → walking.NumberWalk → Object → Option ℕ → Result (Unit {0}) Skip
checked_at n index w o None = Ok tt
checked_at n index w o (Some number) = because of_walk (walk.checked (state n index w) (name_of n number) o)

abbrev pub checked : Needs → ℕ → walking.NumberWalk → Object → Result (Unit {0}) Skip
checked n index w o = checked_at n index w o (slice_get w.numbers.items index)

abbrev pub IsObjectAt : Needs → ℕ → walking.NumberWalk → Object → Type 0
IsObjectAt n index w o = (number : ℕ) → slice_get w.numbers.items index ≡ Some number → object_by_number n number ≡ Ok o

-- a walk after the name of an index was given its object, if there is one
abbrev pub entered_at : Needs → ℕ → walking.NumberWalk → Option ℕ → Result Walking Skip
entered_at n index w None = Ok (state_after n index w)
entered_at n index w (Some number) = object_by_number n number >>= λ o. because of_walk (walk.entered (state n index w) (name_of n number) o)

abbrev pub entered : Needs → ℕ → walking.NumberWalk → Result Walking Skip
entered n index w = entered_at n index w (slice_get w.numbers.items index)

-- ---- columns

-- a walk is added, or why it is refused; want of memory ends all
abbrev pub AddsWalk : Result (List ℕ) Skip → FolderWalks → FolderWalks → Result (Unit {0}) NoMemory → Type 0
AddsWalk (Ok rows) before after (Ok u) = (after.walks ≡ before.walks ++ rows ∷ []) × (after.causes ≡ before.causes ++ None ∷ [])
AddsWalk (Err skip) before after (Ok u) = (after.walks ≡ before.walks ++ [] ∷ []) × ((after.causes ≡ before.causes ++ Some skip ∷ []) × (skip_is_memory skip ≡ false))
AddsWalk walk before after (Err fault) = Unit {0}
