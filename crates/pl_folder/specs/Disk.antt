-- The disk below a folder: its files, the changes of names since it was last settled, and what a crash may leave.
use Rattle.std.specs.Prelude.{◌≡◌, ℕ, zero, suc, ◌-◌, ◌<◌, Bool, true, false, cond, List, [], ◌∷◌, length, slice_index_or, Option, Some, None}
use Rattle.std.specs.Ordering.{nat_cmp, eq_by_cmp}
use Rattle.std.specs.Cmp.Lexicographic.{slice_cmp}

abbrev pub Name : Type 0
Name = List ℕ

-- what stands under each name; `get` of a finite map is a view
abbrev pub View : Type 0
View = Name → Option (List ℕ)

-- whether two names are the same
abbrev pub same : Name → Name → Bool
same q k = eq_by_cmp (slice_cmp nat_cmp) q k

-- which file stands under each name, by its number
abbrev pub Names : Type 0
Names = Name → Option ℕ

-- the names, but that one has this file, or none
abbrev pub with_name : Name → Option ℕ → Names → Names
with_name k file names q = cond (same q k) file (names q)

-- the bytes of a file, and whether they outlast a crash
pub record Content : Type 0 where
  pub bytes : List ℕ
  pub is_firm : Bool

-- one change of names: a name is bound to a file, a file is moved from one name to another, or a name is unbound
pub data NameChange : Type 0 where
  Bind : Name → ℕ → NameChange
  Move : Name → Name → ℕ → NameChange
  Unbind : Name → NameChange

abbrev pub changed : NameChange → Names → Names
changed (Bind k file) names = with_name k (Some file) names
changed (Move from to file) names = with_name to (Some file) (with_name from None names)
changed (Unbind k) names = with_name k None names

-- a file has its number from its `create` on; the numbers are 0, 1, 2 and so on
pub record State : Type 0 where
  -- the names as of the last settle, and the changes since then, the newest first
  pub base : Names
  pub changes : List NameChange
  -- the files by their numbers, and how many there have been
  pub files : ℕ → Content
  pub count : ℕ

-- the names after those of the changes that are kept, in their order
abbrev pub kept : List Bool → List NameChange → Names → Names
kept [] changes base = base
kept (k ∷ keep) [] base = base
kept (true ∷ keep) (c ∷ changes) base = changed c (kept keep changes base)
kept (false ∷ keep) (c ∷ changes) base = kept keep changes base

-- the names after all of the changes
abbrev pub all_kept : List NameChange → Names → Names
all_kept [] base = base
all_kept (c ∷ changes) base = changed c (all_kept changes base)

-- the names as they read
abbrev pub names_of : State → Names
names_of s = all_kept s.changes s.base

abbrev pub bytes_of : (ℕ → Content) → Option ℕ → Option (List ℕ)
bytes_of files None = None
bytes_of files (Some file) = Some (files file).bytes

-- what a read of a name gives
abbrev pub read : State → View
read s n = bytes_of s.files (names_of s n)

-- what may stand in an image under a name that is bound so: a file that is not firm is absent or has any bytes
abbrev pub Shows : (ℕ → Content) → Option ℕ → Option (List ℕ) → Type 0
Shows files None content = content ≡ None
Shows files (Some file) content = (files file).is_firm ≡ true → content ≡ Some (files file).bytes

-- A crash may leave this: the settled names with any of the changes since, in their order.
pub record IsCrashImage (s : State) (image : View) : Type 0 where
  pub keep : List Bool
  pub shows : (n : Name) → Shows s.files (kept keep s.changes s.base n) (image n)

abbrev pub IsBelow : ℕ → Option ℕ → Type 0
IsBelow count None = Unit {0}
IsBelow count (Some file) = file < count

-- no name was ever bound to a file that is yet to come
pub record IsWhole (s : State) : Type 0 where
  pub below : (keep : List Bool) (n : Name) → IsBelow s.count (kept keep s.changes s.base n)

-- the state at this moment, and those at the moments before, the newest first
pub record Disk : Type 0 where
  pub now : State
  pub past : List State

-- how many calls there have been
abbrev pub clock : Disk → ℕ
clock d = length d.past

-- a call ends in this state
abbrev pub after : State → Disk → Disk
after s d = record { now = s; past = d.now ∷ d.past }

-- so many calls later, in which nothing changed
abbrev pub waited : ℕ → Disk → Disk
waited zero d = d
waited (suc n) d = after d.now (waited n d)

-- the state at a moment, after so many calls
abbrev pub state_at : Disk → ℕ → State
state_at d moment = slice_index_or (d.now ∷ d.past) (clock d - moment) d.now
