-- Link refusals by names in place of indexes.
use Rattle.std.specs.Prelude.{ℕ, ◌==◌, List, [], codes, slice_get, Option, Some, None, if◌then◌else◌}
use Rattle.pl_object.specs.declared.object.Object.{Object}
use Rattle.pl_scope.specs.Walk.{Walked}
use Rattle.pl_sym.specs.declared.symbol.Symbol.{Symbol}
use Rattle.pl_value.specs.declared.fault.LinkFault.{LinkFault}
use Rattle.pl_value.specs.declared.fault.LinkFault.TheVariants as link
use Rattle.pl_value.specs.declared.link_names.LinkCause.{LinkCause}
use Rattle.pl_value.specs.declared.link_names.LinkCause.TheVariants.{Undefined, UndefinedTls, TlsMismatch, CopyOutside}
use Rattle.pl_value.specs.declared.link_names.NamedFault.{NamedFault}

-- ---- names

abbrev pub name_in : Option (List ℕ × Object) → List ℕ
name_in None = []
name_in (Some m) = m.0

-- the name of the member of an index
abbrev pub name_at : Walked → ℕ → List ℕ
name_at walked member = name_in (slice_get walked member)

abbrev pub symbols_in : Option (List ℕ × Object) → List Symbol
symbols_in None = []
symbols_in (Some m) = m.1.symbols

abbrev pub name_of_symbol : Option Symbol → Option (List ℕ)
name_of_symbol None = None
name_of_symbol (Some s) = Some s.name

-- the name of a symbol of the member of an index; symbol 0 stands for none
unfoldable pub symbol_name : Walked → ℕ → ℕ → Option (List ℕ)
symbol_name walked member symbol = if symbol == 0 then None else name_of_symbol (slice_get (symbols_in (slice_get walked member)) symbol)

-- ---- link refusals

abbrev pub cause_of : LinkFault → LinkCause
cause_of (link.Undefined member symbol) = Undefined
cause_of (link.UndefinedTls member symbol) = UndefinedTls
cause_of (link.TlsMismatch member symbol) = TlsMismatch
cause_of (link.CopyOutside member symbol) = CopyOutside

-- the index of the object
abbrev pub member_of : LinkFault → ℕ
member_of (link.Undefined member symbol) = member
member_of (link.UndefinedTls member symbol) = member
member_of (link.TlsMismatch member symbol) = member
member_of (link.CopyOutside member symbol) = member

-- the index of the symbol, 0 for none
abbrev pub symbol_of : LinkFault → ℕ
symbol_of (link.Undefined member symbol) = symbol
symbol_of (link.UndefinedTls member symbol) = symbol
symbol_of (link.TlsMismatch member symbol) = symbol
symbol_of (link.CopyOutside member symbol) = symbol

-- a link refusal of the members of a scope, with names in place of indexes
unfoldable pub named_fault : Walked → LinkFault → NamedFault
named_fault walked fault = record {
  cause = cause_of fault;
  object = name_at walked (member_of fault);
  symbol = symbol_name walked (member_of fault) (symbol_of fault);
}

-- the name by which texts tell a cause
abbrev pub name_of_cause : LinkCause → List ℕ
name_of_cause Undefined = codes "Undefined"
name_of_cause UndefinedTls = codes "UndefinedTls"
name_of_cause TlsMismatch = codes "TlsMismatch"
name_of_cause CopyOutside = codes "CopyOutside"
