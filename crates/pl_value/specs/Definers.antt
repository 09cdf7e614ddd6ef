-- The symbol that a reference finds, with its object.
use Rattle.std.specs.Prelude.{◌≡◌, ℕ, Bool, false, ◌==◌, List, Option, Some, None, slice_get}
use Rattle.pl_sym.specs.declared.constants.TheConstants.{STB_WEAK}
use Rattle.pl_sym.specs.declared.symbol.Symbol.{Symbol}
use Rattle.pl_object.specs.declared.object.Object.{Object}
use Rattle.pl_scope.specs.Finds.{finds, own_symbol}
use Rattle.pl_scope.specs.declared.found.Found.{Found}
use Rattle.pl_scope.specs.declared.reference.Reference.{Reference}
use Rattle.pl_value.specs.declared.definer.Definer as code

-- a definer: the index of its member, its object, and the symbol
pub record Definer : Type 0 where
  pub member : ℕ
  pub object : Object
  pub symbol : Symbol

abbrev pub seen : code.Definer → Definer
seen d = record { member = d.member; object = d.object.now; symbol = d.symbol.now }

abbrev pub with_symbol : ℕ → Object → Option Symbol → Option Definer
with_symbol member o None = None
with_symbol member o (Some s) = Some (record { member = member; object = o; symbol = s })

abbrev pub in_object : Found → Option Object → Option Definer
in_object found None = None
in_object found (Some o) = with_symbol found.member o (slice_get o.symbols found.symbol)

abbrev pub of_found : List Object → Option Found → Option Definer
of_found objects None = None
of_found objects (Some found) = in_object found (slice_get objects found.member)

-- the definer that a reference finds
unfoldable pub definer : List Object → Reference → Option Definer
definer objects r = of_found objects (finds objects r)

-- it is known what the symbol of a reference finds; symbol 0 is no reference
abbrev pub IsSought : List Object → Reference → Option Found → Type 0
IsSought objects r found = (r.symbol == 0) ≡ false → found ≡ finds objects r

-- ---- references that may stay without one

abbrev pub is_weak_symbol : Option Symbol → Bool
is_weak_symbol None = false
is_weak_symbol (Some s) = s.bind == STB_WEAK

-- the reference's own symbol is weak
unfoldable pub is_weak : List Object → Reference → Bool
is_weak objects r = is_weak_symbol (own_symbol objects r)
