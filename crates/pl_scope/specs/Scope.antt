-- A scope as a list, and what is known of its objects.
use Rattle.std.specs.Prelude.{◌≡◌, ◌<◌, ◌≤◌, ◌^◌, ℕ, false, List, Some, Ok, map, length, slice_get}
use Rattle.std.specs.List.{All, list_any}
use Rattle.pl_object.specs.PlaceClauses.{is_bad}
use Rattle.pl_object.specs.Reads.{reads}
use Rattle.pl_object.specs.SymbolClauses.{hash_incomplete}
use Rattle.pl_object.specs.declared.object.Object.{Object}
use Rattle.pl_object.specs.declared.reloc.Reloc.{Reloc}
use Rattle.pl_scope.specs.Walk.{Walked}
use Rattle.pl_scope.specs.declared.constants.TheConstants.{MAX_MEMBERS}
use Rattle.pl_scope.specs.declared.member.Member.{Member}
use Rattle.pl_scope.specs.declared.reference.Reference.{Reference}

-- the members' names with their objects, in order
abbrev pub walked : List Member → Walked
walked members = map (λ m. (m.name, m.object.now)) members

-- the objects of names with their objects
abbrev pub objects : Walked → List Object
objects members = map (λ m. m.1) members

-- ---- accepted objects

-- acceptance reads the object in some file
pub record IsAccepted (o : Object) : Type 0 where
  pub bytes : List ℕ
  pub size : length bytes < 2 ^ 32
  pub read : reads bytes ≡ Ok o

-- what a search rests on, as each accepted object has it
pub record IsFit (o : Object) : Type 0 where
  -- an index of a symbol has 32 bits
  pub few : length o.symbols < 2 ^ 32
  -- the hash tables are of all symbols,
  pub tables : All (λ t. t.symbols ≡ length o.symbols) o.hashes
  -- are well formed, and lead to each symbol that defines its name for every reference
  pub hashed : hash_incomplete o.hashes o.symbols ≡ false
  -- each relocation's symbol is one of the object's
  pub relocs : list_any (is_bad (length o.symbols)) o.relocations ≡ false

-- ---- scopes

pub record IsScope (objects : List Object) : Type 0 where
  pub few : length objects ≤ MAX_MEMBERS
  pub fit : All IsFit objects

-- the index of a member, and that of one of its symbols
pub record IsSymbol (objects : List Object) (m s : ℕ) : Type 0 where
  pub member : m < length objects
  pub symbol : (o : Object) → slice_get objects m ≡ Some o → s < length o.symbols

-- a reference is by a symbol of its member
abbrev pub IsReference : Walked → Reference → Type 0
IsReference members r = IsSymbol (objects members) r.member r.symbol

-- the relocations of a member are by its symbols
abbrev pub AreReferences : Walked → ℕ → List Reloc → Type 0
AreReferences members m relocs = All (λ r. IsSymbol (objects members) m r.symbol) relocs
