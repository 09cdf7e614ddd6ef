-- References that find the same symbol in every scope that holds its object.
use Rattle.std.specs.Prelude.{◌≡◌, ℕ, true, false, List, Option, Some, slice_get}
use Rattle.std.specs.Option.{option_and_then}
use Rattle.pl_object.specs.declared.object.Object.{Object}
use Rattle.pl_scope.specs.Finds.{finds, own_symbol}
use Rattle.pl_scope.specs.Members.{names, has}
use Rattle.pl_scope.specs.Scope.{objects}
use Rattle.pl_scope.specs.Walk.{Walked}
use Rattle.pl_scope.specs.declared.found.Found.{Found}
use Rattle.pl_scope.specs.declared.reference.Reference.{Reference}
use Rattle.pl_sym.specs.Symbol.{is_tls}
use Rattle.pl_sym.specs.declared.symbol.Symbol.{Symbol}
use Rattle.pl_scope.specs.Folder.{HasOneEntryAtMost}
use Rattle.pl_scope.specs.declared.index.Entry.{Entry}
use Rattle.pl_cone.specs.Folder.{IsMadeOf, IsMember}

-- ---- by one scope

-- the symbol that was found in a scope
abbrev pub symbol_of : List Object → Found → Option Symbol
symbol_of objects f = option_and_then (λ o. slice_get o.symbols f.symbol) (slice_get objects f.member)

-- the name of a reference's symbol has its hash at most once among those of the definers
pub record HasSingleName (definers : List Entry) (objects : List Object) (r : Reference) : Type 0 where
  pub symbol : Symbol
  pub own : own_symbol objects r ≡ Some symbol
  pub once : HasOneEntryAtMost definers symbol.name

-- it has, and finds a symbol that is not thread-local
pub record FindsOneSymbolBy (definers : List Entry) (objects : List Object) (r : Reference) : Type 0 where
  pub found : Found
  pub looks : finds objects r ≡ Some found
  pub symbol : Symbol
  pub is : symbol_of objects found ≡ Some symbol
  pub plain : is_tls symbol ≡ false
  pub single : HasSingleName definers objects r

-- ---- in every scope

-- a member's reference of a kind finds the symbol of an index in the object of a name
pub record FindsNamed (walked : Walked) (m symbol kind : ℕ) (file : List ℕ) (index : ℕ) : Type 0 where
  pub member : ℕ
  pub named : IsMember walked member file
  pub looks : finds (objects walked) (record { member = m; symbol = symbol; kind = kind }) ≡ Some (record { member = member; symbol = index })

-- in every scope of a folder's objects that holds that name, the reference of an object does
abbrev pub FindsOneSymbol : (List ℕ → Option Object) → List ℕ → ℕ → ℕ → List ℕ → ℕ → Type 0
FindsOneSymbol objects n symbol kind file index = (walked : Walked) (m : ℕ) → IsMadeOf objects walked → IsMember walked m n → has (names walked) file ≡ true → FindsNamed walked m symbol kind file index
