-- A search for a name among the definers of an object.
use Rattle.std.specs.Prelude.{◌≡◌, ⊤, ℕ, Bool, true, false, List, map, slice_get, Option, Some, None, IsSome}
use Rattle.std.specs.Borrow.{Bor}
use Rattle.std.specs.List.{list_any}
use Rattle.std.specs.List.Sorted.{IsNonDecreasingBy}
use Rattle.pl_elf.specs.Kinds.{is_program}
use Rattle.pl_object.specs.SymbolClauses.{version_name}
use Rattle.pl_object.specs.declared.object.Object.{Object}
use Rattle.pl_sym.specs.Definers.{is_definer}
use Rattle.pl_sym.specs.declared.class.Class.TheVariants.{Other}
use Rattle.pl_sym.specs.declared.symbol.Symbol.{Symbol}
use Rattle.pl_ver.specs.declared.constants.TheConstants.{VERSYM_HIDDEN}
use Rattle.pl_scope.specs.Definers.{pair, AreDefiners}
use Rattle.pl_scope.specs.Entries.{has_value}
use Rattle.pl_scope.specs.Matching.{defines, has_version}
use Rattle.pl_scope.specs.Numbers.{key_of}
use Rattle.pl_scope.specs.Probing.{passes_at, taken}
use Rattle.pl_scope.specs.VersionIndex.{IsVersionIndex}
use Rattle.pl_scope.specs.declared.block.Block.{Block}
use Rattle.pl_scope.specs.declared.block.Lists.{Lists}
use Rattle.pl_scope.specs.declared.block.Place.{Place}
use Rattle.pl_scope.specs.declared.block.Place.TheVariants as places
use Rattle.pl_scope.specs.declared.definers.Definers.{Definers}
use Rattle.pl_scope.specs.declared.entries.Entry.{Entry}
use Rattle.pl_scope.specs.declared.probe.Pick.{Pick}
use Rattle.pl_scope.specs.declared.version_index.VersionIndex.{VersionIndex}

-- whether a step takes the symbol of an index
abbrev pub takes : Block → Pick → ℕ → Bool
takes b pick index = passes_at (taken b.object.now b.name.now b.class pick) b.object.now.symbols index

-- the numbers of entries
abbrev pub values : List Entry → List ℕ
values es = map (λ e. e.value) es

-- the end of the keys of a name with the indexes of versions
abbrev pub end_of_name : ℕ → ℕ
end_of_name key = pair key VERSYM_HIDDEN

-- the lists of the object's definers, the key of the name, and keys of the names of the definers' versions
pub record AreLists (b : Block) (l : Lists) : Type 0 where
  pub versions : IsVersionIndex b.object.now.versions l.versions.now
  pub definers : AreDefiners l.numbers.now l.versions.now b.object.now l.definers.now
  pub keyed : key_of l.numbers.now b.name.now ≡ Some l.key
  pub named : (i : ℕ) (s : Symbol) (version : List ℕ) → slice_get b.object.now.symbols i ≡ Some s → is_definer s Other (is_program b.object.now.kind) ≡ true → version_name b.object.now.versions s.version ≡ Some version → IsSome (key_of l.numbers.now version)

-- each definer of the name is among some
abbrev pub HaveName : Block → List Entry → Type 0
HaveName b es = (i : ℕ) (s : Symbol) → slice_get b.object.now.symbols i ≡ Some s → defines b.object.now b.name.now b.class s ≡ true → list_any (has_value i) es ≡ true

-- the definers of the name are there
abbrev pub IsPlace : Block → Place → Type 0
IsPlace b (places.Lists lists) = AreLists b lists
IsPlace b (places.Among among) = HaveName b among.now

-- an object's versions, where there is an index of versions
abbrev pub AreVersionsOf : Object → Option (Bor VersionIndex) → Type 0
AreVersionsOf o None = ⊤
AreVersionsOf o (Some versions) = IsVersionIndex o.versions versions.now

-- the object's versions, and where the definers of the name are
pub record IsBlock (b : Block) : Type 0 where
  pub versions : AreVersionsOf b.object.now b.versions
  pub place : IsPlace b b.place

-- lists are in the order of their keys
pub record AreRising (d : Definers) : Type 0 where
  pub by_index : IsNonDecreasingBy (λ e. e.key) d.by_index.items
  pub shown : IsNonDecreasingBy (λ e. e.key) d.shown.items
  pub by_version : IsNonDecreasingBy (λ e. e.key) d.by_version.items

-- each symbol that a step takes is among some
abbrev pub AreCandidates : Block → Pick → List Entry → Type 0
AreCandidates b pick es = (i : ℕ) → takes b pick i ≡ true → list_any (has_value i) es ≡ true

-- each definer of the name that has a version is among some
abbrev pub HaveVersion : Block → List ℕ → List Entry → Type 0
HaveVersion b version es =
    (i : ℕ) (s : Symbol) → slice_get b.object.now.symbols i ≡ Some s → defines b.object.now b.name.now b.class s ≡ true → has_version b.object.now version s ≡ true → list_any (has_value i) es ≡ true

-- a number of entries that passes a test; none where none of them does
abbrev pub IsAnyOf : (ℕ → Bool) → List Entry → Option ℕ → Type 0
IsAnyOf q es None = (i : ℕ) → list_any (has_value i) es ≡ true → q i ≡ false
IsAnyOf q es (Some index) = q index ≡ true
