-- The definers of all members by keys of their names, and the search that asks the members under a key alone.
use Rattle.std.specs.Prelude.{◌≡◌, ◌≤◌, ◌<◌, ◌/◌, ◌^◌, ℕ, Bool, true, false, ◌&&◌, ◌==◌, nat_le, nat_lt, List, [], ◌∷◌, ◌++◌, length, slice_get, Option, Some, None, IsSome, if◌then◌else◌}
use Rattle.std.specs.List.{All, list_any}
use Rattle.std.specs.Option.{option_map, option_or}
use Rattle.std.specs.List.Sorted.{IsNonDecreasingBy}
use Rattle.pl_sym.specs.Definers.{is_definer}
use Rattle.pl_sym.specs.declared.symbol.Symbol.{Symbol}
use Rattle.pl_sym.specs.declared.class.Class.{Class}
use Rattle.pl_sym.specs.declared.class.Class.TheVariants.{Other}
use Rattle.pl_elf.specs.Kinds.{is_program}
use Rattle.pl_object.specs.SymbolClauses.{version_name}
use Rattle.pl_object.specs.declared.object.Object.{Object}
use Rattle.pl_scope.specs.Definers.{AreDefiners}
use Rattle.pl_scope.specs.Entries.{is_entry, has_key, has_value}
use Rattle.pl_scope.specs.Finds.{in_member}
use Rattle.pl_scope.specs.Numbers.{key_of, AreNumbersOf}
use Rattle.pl_scope.specs.Scope.{objects}
use Rattle.pl_scope.specs.VersionIndex.{IsVersionIndex, first_named, names_in}
use Rattle.pl_scope.specs.Walk.{Walked}
use Rattle.pl_scope.specs.declared.entries.Entry.{Entry}
use Rattle.pl_scope.specs.declared.found.Found.{Found}
use Rattle.pl_scope.specs.declared.scope_index.Own.{Own}
use Rattle.pl_scope.specs.declared.scope_index.ScopeIndex.{ScopeIndex}
use Rattle.pl_scope.specs.declared.numbers.Numbers.{Numbers}
use Rattle.pl_scope.specs.declared.wanted.Wanted.{Wanted}

-- ---- the index

-- the name's part of a key with what stands beside it
abbrev pub name_part : ℕ → ℕ
name_part key = key / 2 ^ 32

-- this key is the last one
abbrev pub is_last : Option ℕ → ℕ → Bool
is_last None key = false
is_last (Some other) key = other == key

-- the entries of members with that of one member under a key, which may stand there where the key is the last one
pub record IsKeyAdded (last : Option ℕ) (key member : ℕ) (old new : List Entry) : Type 0 where
  pub more : (e : Entry) → list_any (is_entry e.key e.value) old ≡ true → list_any (is_entry e.key e.value) new ≡ true
  pub within : (count : ℕ) → member < count → All (λ e. e.value < count) old → All (λ e. e.value < count) new
  pub there : ((k : ℕ) → last ≡ Some k → list_any (is_entry k member) old ≡ true) → list_any (is_entry key member) new ≡ true

-- the entries of members with those of one member more, which stands under the names of its own entries
pub record IsMemberAdded (own : List Entry) (member : ℕ) (old new : List Entry) : Type 0 where
  pub more : (e : Entry) → list_any (is_entry e.key e.value) old ≡ true → list_any (is_entry e.key e.value) new ≡ true
  pub within : (count : ℕ) → member < count → All (λ e. e.value < count) old → All (λ e. e.value < count) new
  pub there : (key : ℕ) → list_any (has_key key) own ≡ true → list_any (is_entry (name_part key) member) new ≡ true

-- the definers and the versions of an object
pub record AreOwn (numbers : Numbers) (o : Object) (own : Own) : Type 0 where
  pub named : IsVersionIndex o.versions own.versions
  pub listed : AreDefiners numbers own.versions o own.definers

-- an index with what it has of one object more: what is its own, and the object under the names of its definers
pub record IsOwnAdded (o : Object) (member : ℕ) (old new : ScopeIndex) : Type 0 where
  pub numbers : new.numbers ≡ old.numbers
  pub own : (w : Own) × (new.own.items ≡ old.own.items ++ w ∷ []) × AreOwn old.numbers o w × IsMemberAdded w.definers.by_index.items member old.members.items new.members.items

-- the definers and the versions of each object, and each object under the name of each of its definers
pub record IsIndex (objects : List Object) (index : ScopeIndex) : Type 0 where
  pub named : AreNumbersOf objects index.numbers
  pub rising : IsNonDecreasingBy (λ e. e.key) index.members.items
  pub within : All (λ e. e.value < length objects) index.members.items
  pub each : (m : ℕ) (o : Object) → slice_get objects m ≡ Some o → (w : Own) × (slice_get index.own.items m ≡ Some w) × AreOwn index.numbers o w
  pub whole : (m i key : ℕ) (o : Object) (s : Symbol) → slice_get objects m ≡ Some o → slice_get o.symbols i ≡ Some s → is_definer s Other (is_program o.kind) ≡ true → key_of index.numbers s.name ≡ Some key → list_any (is_entry key m) index.members.items ≡ true

-- an index has the definers and the versions of an object as those of a member, and keys of their names
pub record HasOwn (index : ScopeIndex) (member : ℕ) (o : Object) : Type 0 where
  pub own : (w : Own) × (slice_get index.own.items member ≡ Some w) × AreOwn index.numbers o w
  pub definers : (i : ℕ) (s : Symbol) → slice_get o.symbols i ≡ Some s → is_definer s Other (is_program o.kind) ≡ true → IsSome (key_of index.numbers s.name)
  pub versions : (number : ℕ) (version : List ℕ) → first_named (names_in o.versions) number ≡ Some version → IsSome (key_of index.numbers version)

-- what an index has as a member's own, of whichever object that is
abbrev pub IsOwnAt : ScopeIndex → ℕ → Own → Type 0
IsOwnAt index member own = (o : Object) → HasOwn index member o → AreOwn index.numbers o own

-- the name of the version that a word of a member stands for
abbrev pub IsVersionAt : ScopeIndex → ℕ → ℕ → Option (List ℕ) → Type 0
IsVersionAt index member word name = (o : Object) → HasOwn index member o → name ≡ version_name o.versions word

-- ---- a search among the members under a key

-- whether a search from a member on asks another: it may have a definer before what was found
abbrev pub is_better : ℕ → Option Found → ℕ → Bool
is_better start None member = nat_le start member
is_better start (Some f) member = nat_le start member && nat_lt member f.member

-- what is found with one member more
abbrev pub best_of : List Object → List ℕ → Class → Option (List ℕ) → ℕ → Option Found → ℕ → Option Found
best_of objects name class version start best member =
    if is_better start best member then option_or (in_member objects name class version member) best else best

-- what is found with one member more, of what is wanted
abbrev pub best_for : Walked → Wanted → ℕ → Option Found → ℕ → Option Found
best_for scope w start best member = best_of (objects scope) w.name.now w.class (option_map (λ x. x.now) w.version) start best member

-- what a search has found from a member on, after it has asked some members: the definer of the first of them that has one
pub record IsBest (objects : List Object) (name : List ℕ) (class : Class) (version : Option (List ℕ)) (start : ℕ) (asked : List Entry) (best : Option Found) : Type 0 where
  -- what was found stands in its member, from the first member on
  pub stands : (f : Found) → best ≡ Some f → (in_member objects name class version f.member ≡ Some f) × (start ≤ f.member)
  -- of the members that were asked, those before it, or all where nothing was found, have none
  pub first : (m : ℕ) → start ≤ m → list_any (has_value m) asked ≡ true → ((f : Found) → best ≡ Some f → m < f.member) → in_member objects name class version m ≡ None
