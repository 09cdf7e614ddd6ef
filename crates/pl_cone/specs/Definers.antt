-- Names that objects define, by their hashes (GNU hash table; gABI chapter 4, "Symbol Table").
use Rattle.std.specs.Prelude.{◌≡◌, ℕ, true, List, Option, Some, slice_get}
use Rattle.pl_elf.specs.Kinds.{is_program}
use Rattle.pl_object.specs.declared.object.Object.{Object}
use Rattle.pl_scope.specs.Folder.{HasOneEntryAtMost}
use Rattle.pl_scope.specs.declared.index.Entry.{Entry}
use Rattle.pl_sym.specs.Definers.{is_definer}
use Rattle.pl_sym.specs.declared.class.Class.TheVariants.{Other}
use Rattle.pl_sym.specs.declared.symbol.Symbol.{Symbol}

-- ---- names that one object at most defines

-- the object of a file's name has a definer of a symbol's name
pub record HasDefiner (objects : List ℕ → Option Object) (file name : List ℕ) : Type 0 where
  pub object : Object
  pub index : ℕ
  pub symbol : Symbol
  pub there : objects file ≡ Some object
  pub at : slice_get object.symbols index ≡ Some symbol
  pub defines : is_definer symbol Other (is_program object.kind) ≡ true
  pub named : symbol.name ≡ name

-- at most one object of a folder has definers of the name
abbrev pub IsSingle : (List ℕ → Option Object) → List ℕ → Type 0
IsSingle objects name = (a b : List ℕ) → HasDefiner objects a name → HasDefiner objects b name → a ≡ b

-- where a name's hash has one entry at most in an index of definers, one object of the folder at most defines it
abbrev pub HasHashes : (List ℕ → Option Object) → List Entry → Type 0
HasHashes objects index = (name : List ℕ) → HasOneEntryAtMost index name → IsSingle objects name
