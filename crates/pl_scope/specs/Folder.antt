-- The definers of the objects of a folder by the hashes of their names, and a scope of some of these objects.
use Rattle.std.specs.Prelude.{◌≡◌, ◌≤◌, ◌<◌, ⊤, ◌+◌, ℕ, Bool, true, false, ◌&&◌, ◌==◌, List, [], ◌∷◌, ◌++◌, length, slice_get, Option, Some, None}
use Rattle.std.specs.List.{list_any}
use Rattle.std.specs.List.Sorted.{IsPermutation}
use Rattle.std.specs.Option.{option_map}
use Rattle.pl_elf.specs.Kinds.{is_program}
use Rattle.pl_hash.specs.Hash.{gnu}
use Rattle.pl_object.specs.declared.object.Object.{Object}
use Rattle.pl_scope.specs.Index.{entries_in, entries_of}
use Rattle.pl_scope.specs.Entries.{has_value}
use Rattle.pl_scope.specs.Matching.{defines}
use Rattle.pl_scope.specs.Scope.{objects}
use Rattle.pl_scope.specs.ScopeIndex.{HasOwn, IsIndex, best_of}
use Rattle.pl_scope.specs.ShortIndex.{HasShort, IsShortIndex}
use Rattle.pl_scope.specs.Walk.{Walked}
use Rattle.pl_scope.specs.declared.entries.Entry.{Entry as Placed}
use Rattle.pl_scope.specs.declared.folder.Among.{Among}
use Rattle.pl_scope.specs.declared.found.Found.{Found}
use Rattle.pl_scope.specs.declared.index.Entry.{Entry}
use Rattle.pl_scope.specs.declared.lookup.Way.{Way}
use Rattle.pl_scope.specs.declared.lookup.Way.TheVariants as ways
use Rattle.pl_scope.specs.declared.lookup.Way.TheVariants.{InOrder, Short, Indexed, InLists}
use Rattle.pl_scope.specs.declared.wanted.Wanted.{Wanted}
use Rattle.pl_sym.specs.Definers.{is_definer}
use Rattle.pl_sym.specs.declared.class.Class.{Class}
use Rattle.pl_sym.specs.declared.class.Class.TheVariants.{Other}
use Rattle.pl_sym.specs.declared.symbol.Symbol.{Symbol}

-- ---- the index of a folder

-- the definers of the object of a row, which may have none
abbrev pub entries_at : ℕ → Option Object → List Entry
entries_at row None = []
entries_at row (Some o) = entries_in o row

-- those of the objects of rows from one on
unfoldable pub all_from : ℕ → List (Option Object) → List Entry
all_from row [] = []
all_from row (o ∷ os) = entries_at row o ++ all_from (row + 1) os

abbrev pub all_entries : List (Option Object) → List Entry
all_entries objects = all_from 0 objects

-- each definer of each object is there once, under its name's hash, and nothing else is
abbrev pub IsFolderIndex : List (Option Object) → List Entry → Type 0
IsFolderIndex objects index = IsPermutation (all_entries objects) index

-- a hash has one entry at most
abbrev pub IsOnce : List Entry → ℕ → Type 0
IsOnce index hash = length (entries_of index hash) ≤ 1

-- a name's hash has one entry at most
abbrev pub HasOneEntryAtMost : List Entry → List ℕ → Type 0
HasOneEntryAtMost index name = IsOnce index (gnu name)

-- ---- a scope of objects of a folder

abbrev pub position_in : Option (Option ℕ) → Option ℕ
position_in None = None
position_in (Some member) = member

-- the member that the object of an entry is
abbrev pub position_of : List (Option ℕ) → Entry → Option ℕ
position_of positions e = position_in (slice_get positions e.member)

-- an entry of the folder as one of the scope, under its hash
abbrev pub placed : List (Option ℕ) → Entry → Option Placed
placed positions e = option_map (λ member. record { key = e.hash; value = member }) (position_of positions e)

-- this member is where something stands, if it stands anywhere
abbrev pub is_at : Option ℕ → ℕ → Bool
is_at None member = false
is_at (Some other) member = other == member

-- an entry of a symbol whose row stands at a member
abbrev pub is_placed : List (Option ℕ) → ℕ → ℕ → Entry → Bool
is_placed positions member number e = is_at (position_of positions e) member && e.symbol == number

-- rows stand at members, and each definer of each member has an entry of its own under its name's hash whose row stands at that member
pub record IsIndexAmong (objects : List Object) (among : Among) : Type 0 where
  pub within : (row member : ℕ) → position_in (slice_get among.positions.now row) ≡ Some member → member < length objects
  pub whole : (m i : ℕ) (o : Object) (s : Symbol) → slice_get objects m ≡ Some o → slice_get o.symbols i ≡ Some s → is_definer s Other (is_program o.kind) ≡ true
      → list_any (is_placed among.positions.now m i) (entries_of among.index.now (gnu s.name)) ≡ true

-- a hash has one entry, that of a symbol whose row stands at a member
pub record IsOnlyEntry (among : Among) (hash member number : ℕ) : Type 0 where
  pub entry : Entry
  pub only : entries_of among.index.now hash ≡ entry ∷ []
  pub here : position_of among.positions.now entry ≡ Some member
  pub symbol : entry.symbol ≡ number

-- no other symbol of an object than that of a number defines a name for references of a class
abbrev pub IsOnlyDefiner : Object → List ℕ → Class → ℕ → Type 0
IsOnlyDefiner o name class number = (i : ℕ) (s : Symbol) → slice_get o.symbols i ≡ Some s → defines o name class s ≡ true → i ≡ number

-- each definer of a wanted name is among some
abbrev pub HaveDefiners : Object → Wanted → List Placed → Type 0
HaveDefiners o w es = (i : ℕ) (s : Symbol) → slice_get o.symbols i ≡ Some s → defines o w.name.now w.class s ≡ true → list_any (has_value i) es ≡ true

-- no other symbol than that of a number defines a name, in the object of a member
abbrev pub IsOnlyIn : List Object → ℕ → List ℕ → Class → ℕ → Type 0
IsOnlyIn objects member name class number = (o : Object) → slice_get objects member ≡ Some o → IsOnlyDefiner o name class number

-- of a member of a scope no other symbol than that of a number defines what is wanted
abbrev pub IsOnlyFor : Walked → Wanted → ℕ → ℕ → Type 0
IsOnlyFor scope w member number = IsOnlyIn (objects scope) member w.name.now w.class number

-- what is found with one row more
abbrev pub best_at : List Object → Wanted → ℕ → Option Found → Option ℕ → Option Found
best_at objects w start best None = best
best_at objects w start best (Some member) = best_of objects w.name.now w.class (option_map (λ x. x.now) w.version) start best member

-- where an index is used it is that of the scope, or of the folder whose objects the scope has
abbrev pub IsWay : List Object → Way → Type 0
IsWay objects InOrder = ⊤
IsWay objects (Short index) = IsShortIndex objects index.now
IsWay objects (Indexed index) = IsIndex objects index.now
IsWay objects (ways.Among among) = IsIndexAmong objects among.now
IsWay objects InLists = ⊤

-- where an index of the scope is used it has what is a member's own
abbrev pub IsWayAt : Way → ℕ → Object → Type 0
IsWayAt InOrder member o = ⊤
IsWayAt (Short index) member o = HasShort index.now member o
IsWayAt (Indexed index) member o = HasOwn index.now member o
IsWayAt (ways.Among among) member o = ⊤
IsWayAt InLists member o = ⊤
