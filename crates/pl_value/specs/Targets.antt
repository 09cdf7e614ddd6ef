-- The address that a symbol stands for (x86-64 psABI, "Relocation Types": S, and B of an object that is loaded at another address than its own).
use Rattle.std.specs.Prelude.{ℕ, ℤ, ◌==◌, Bool, not, List, Option, Some, None, Result, Ok, slice_index, if◌then◌else◌}
use Rattle.std.specs.Int.{w64, cast_unsigned}
use Rattle.pl_base.specs.Answers.{unless}
use Rattle.pl_base.specs.Sums.{plus}
use Rattle.pl_sym.specs.Symbol.{is_absolute, is_tls}
use Rattle.pl_object.specs.declared.object.Object.{Object}
use Rattle.pl_scope.specs.declared.reference.Reference.{Reference}
use Rattle.pl_value.specs.Definers.{Definer, definer, is_weak}
use Rattle.pl_value.specs.declared.fault.LinkFault.{LinkFault}
use Rattle.pl_value.specs.declared.fault.LinkFault.TheVariants.{Undefined, TlsMismatch}

-- a number and a signed addend, modulo 2^64
abbrev pub added : ℕ → ℤ → ℕ
added number addend = plus number (cast_unsigned w64 addend)

-- where a member is loaded
abbrev pub base_of : List ℕ → ℕ → ℕ
base_of places member = slice_index places member

-- the address of a definer as loaded; an absolute one is a number, which no load changes
unfoldable pub address : List ℕ → Definer → ℕ
address places d = if is_absolute d.symbol then d.symbol.value else plus (base_of places d.member) d.symbol.value

abbrev pub target_from : List ℕ → Reference → Bool → Option Definer → Result ℕ LinkFault
target_from places r weak None = unless (not weak) (Undefined r.member r.symbol) (Ok 0)
target_from places r weak (Some d) = unless (is_tls d.symbol) (TlsMismatch r.member r.symbol) (Ok (address places d))

-- the address that a reference stands for: 0 for symbol 0, and for a weak symbol without definer
unfoldable pub target : List Object → List ℕ → Reference → Result ℕ LinkFault
target objects places r = if r.symbol == 0 then Ok 0 else target_from places r (is_weak objects r) (definer objects r)
