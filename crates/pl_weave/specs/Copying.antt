-- What a fault of a load has beside its kind.
use Rattle.std.specs.Prelude.{ℕ, List, [], Option, None}
use Rattle.pl_loader.specs.declared.fault.LoadFault.{LoadFault}
use Rattle.pl_loader.specs.declared.fault.LoadFault.TheVariants.{NotThere, BadMark, Refused, NotProgram, NeededIsProgram, TooMany, TlsTooLarge, NoPlace, Link, NoMemory}

-- the name of a file; an empty one where it has none
abbrev pub name_in : LoadFault → List ℕ
name_in (NotThere n) = n
name_in (BadMark n) = n
name_in (Refused n number argument) = n
name_in (NotProgram n) = n
name_in (NeededIsProgram n) = n
name_in (TooMany n) = n
name_in TlsTooLarge = []
name_in (NoPlace n) = n
name_in (Link fault) = fault.object
name_in NoMemory = []

-- the name of a symbol, if it has one
abbrev pub symbol_in : LoadFault → Option (List ℕ)
symbol_in (NotThere n) = None
symbol_in (BadMark n) = None
symbol_in (Refused n number argument) = None
symbol_in (NotProgram n) = None
symbol_in (NeededIsProgram n) = None
symbol_in (TooMany n) = None
symbol_in TlsTooLarge = None
symbol_in (NoPlace n) = None
symbol_in (Link fault) = fault.symbol
symbol_in NoMemory = None

-- a fault of the same kind with these
abbrev pub with_names : List ℕ → Option (List ℕ) → LoadFault → LoadFault
with_names n s (NotThere name) = NotThere n
with_names n s (BadMark name) = BadMark n
with_names n s (Refused name number argument) = Refused n number argument
with_names n s (NotProgram name) = NotProgram n
with_names n s (NeededIsProgram name) = NeededIsProgram n
with_names n s (TooMany name) = TooMany n
with_names n s TlsTooLarge = TlsTooLarge
with_names n s (NoPlace name) = NoPlace n
with_names n s (Link fault) = Link (record { cause = fault.cause; object = n; symbol = s })
with_names n s NoMemory = NoMemory
