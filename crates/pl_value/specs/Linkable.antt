-- What linking asks of a relocation of a member.
use Rattle.std.specs.Prelude.{◌≡◌, ℕ, ◌<◌, List, Option, Some, length, slice_get}
use Rattle.std.specs.List.{All}
use Rattle.pl_object.specs.declared.object.Object.{Object}
use Rattle.pl_object.specs.declared.reloc.Reloc.{Reloc}
use Rattle.pl_scope.specs.declared.found.Found.{Found}
use Rattle.pl_value.specs.Definers.{IsSought}
use Rattle.pl_value.specs.Values.{reference, reloc_at}

-- each relocation's symbol is one of the object's, as in each accepted object
abbrev pub RefersToSymbols : Object → Type 0
RefersToSymbols o = All (λ r. r.symbol < length o.symbols) o.relocations

-- the index of a member, and that of one of its relocations
pub record IsReloc (objects : List Object) (m r : ℕ) : Type 0 where
  pub member : m < length objects
  pub reloc : (o : Object) → slice_get objects m ≡ Some o → r < length o.relocations

-- what the symbol of a member's relocation finds
abbrev pub IsFoundFor : List Object → ℕ → ℕ → Option Found → Type 0
IsFoundFor objects m r found = (reloc : Reloc) → reloc_at objects m r ≡ Some reloc → IsSought objects (reference m reloc) found
