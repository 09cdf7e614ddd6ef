-- The image of a program at an address is that of the program fixed there, and what that rests on.
use Rattle.std.specs.Prelude.{◌≡◌, ℕ, Bool, true, false, ◌||◌, ◌==◌, List, ◌∷◌, slice_get, Some, Result, Ok, Err}
use Rattle.std.specs.List.{All}
use Rattle.pl_base.specs.Memory.{Memory}
use Rattle.pl_base.specs.Sums.{plus}
use Rattle.pl_tls.specs.declared.module.Module.{Module}
use Rattle.pl_elf.specs.declared.constants.TheConstants.{R_X86_64_COPY}
use Rattle.pl_sym.specs.Symbol.{is_absolute, is_in_section}
use Rattle.pl_sym.specs.Definers.{is_linkable, has_value}
use Rattle.pl_sym.specs.declared.symbol.Symbol.{Symbol}
use Rattle.pl_object.specs.declared.object.Object.{Object}
use Rattle.pl_object.specs.declared.reloc.Reloc.{Reloc}
use Rattle.pl_scope.specs.Finds.{binds_itself}
use Rattle.pl_value.specs.Ordinary.{ArePlaced, ordinary}
use Rattle.pl_value.specs.declared.fault.LinkFault.{LinkFault}
use Rattle.law_fixed.specs.Fixed.{moves, fixed, IsMovable, IsFixedFile}

-- ---- the law

-- the same byte at each address, or the same link refusal
abbrev pub SameImage : Result Memory LinkFault → Result Memory LinkFault → Type 0
SameImage (Ok m) (Ok n) = (address : ℕ) → n address ≡ m address
SameImage (Ok m) (Err f) = ⊥
SameImage (Err e) (Ok n) = ⊥
SameImage (Err e) (Err f) = f ≡ e

-- a program of which a condition holds, loaded at an address, and the fixed one, loaded at 0
abbrev pub FixedIsSame : (ℕ → Object → Type 0) → Type 0
FixedIsSame Holds = (at : ℕ) (o : Object) (os : List Object) (bytes file : List ℕ) (parts : List (List ℕ)) (places : List ℕ) (modules : List Module)
    → Holds at o → IsFixedFile o bytes file → ArePlaced (at ∷ places) (bytes ∷ parts) (o ∷ os)
    → SameImage (ordinary (o ∷ os) (bytes ∷ parts) (at ∷ places) modules) (ordinary (fixed at o ∷ os) (file ∷ parts) (0 ∷ places) modules)

abbrev pub FixedIsOrdinary : Type 0
FixedIsOrdinary = FixedIsSame IsMovable

-- ---- each condition is needed

abbrev pub IsLinked : Symbol → Type 0
IsLinked s = is_linkable s ≡ true → has_value s ≡ true

abbrev pub StaysThere : ℕ → Symbol → Type 0
StaysThere at s = moves s ≡ true → s.value == 0 ≡ false → plus s.value at == 0 ≡ false

abbrev pub OwnMoves : List Symbol → Reloc → Type 0
OwnMoves symbols r = (s : Symbol) → slice_get symbols r.symbol ≡ Some s → r.symbol == 0 ≡ false → binds_itself s ≡ true → (is_absolute s || is_in_section s) ≡ true

abbrev pub CopiesElsewhere : List Symbol → Reloc → Type 0
CopiesElsewhere symbols r = (s : Symbol) → slice_get symbols r.symbol ≡ Some s → r.kind == R_X86_64_COPY ≡ true → binds_itself s ≡ false

-- without one of the four the law is false
pub record EachIsNeeded : Type 0 where
  pub elsewhere : FixedIsSame (λ at o. All (λ s. IsLinked s × StaysThere at s) o.symbols × All (λ r. OwnMoves o.symbols r) o.relocations) → ⊥
  pub own : FixedIsSame (λ at o. All (λ s. IsLinked s × StaysThere at s) o.symbols × All (λ r. CopiesElsewhere o.symbols r) o.relocations) → ⊥
  pub linked : FixedIsSame (λ at o. All (λ s. StaysThere at s) o.symbols × All (λ r. OwnMoves o.symbols r × CopiesElsewhere o.symbols r) o.relocations) → ⊥
  pub there : FixedIsSame (λ at o. All (λ s. IsLinked s) o.symbols × All (λ r. OwnMoves o.symbols r × CopiesElsewhere o.symbols r) o.relocations) → ⊥
