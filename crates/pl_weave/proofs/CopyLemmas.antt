-- Copies of faults.
use Rattle.std.proofs.Common.{◌≡◌, refl}
use Rattle.pl_weave.specs.Copying.{name_in, symbol_in, with_names}
use Rattle.pl_loader.specs.declared.fault.LoadFault.{LoadFault}
use Rattle.pl_loader.specs.declared.fault.LoadFault.TheVariants.{NotThere, BadMark, Refused, NotProgram, NeededIsProgram, TooMany, TlsTooLarge, NoPlace, Link, NoMemory}

-- with its own name and symbol it is itself
pub same_names : (fault : LoadFault) → with_names (name_in fault) (symbol_in fault) fault ≡ fault
same_names (NotThere n) = refl
same_names (BadMark n) = refl
same_names (Refused n number argument) = refl
same_names (NotProgram n) = refl
same_names (NeededIsProgram n) = refl
same_names (TooMany n) = refl
same_names TlsTooLarge = refl
same_names (NoPlace n) = refl
same_names (Link fault) = refl
same_names NoMemory = refl
