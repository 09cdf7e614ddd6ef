-- The faults of a load, as what they come from means them.
use Rattle.std.specs.Prelude.{ℕ, Bool, true, false, List}
use Rattle.pl_tls.specs.declared.fault.TlsFault.{TlsFault}
use Rattle.pl_tls.specs.declared.fault.TlsFault.TheVariants as tls
use Rattle.pl_place.specs.declared.fault.PlaceFault.{PlaceFault}
use Rattle.pl_place.specs.declared.fault.PlaceFault.TheVariants as place
use Rattle.pl_form.specs.declared.fault.FileFault.{FileFault}
use Rattle.pl_form.specs.declared.fault.FileFault.TheVariants as files
use Rattle.pl_object.specs.declared.refusal.Refusal.{Refusal}
use Rattle.pl_object.specs.declared.refusal.Refusal.TheVariants as refusals
use Rattle.pl_scope.specs.declared.fault.WalkFault.{WalkFault}
use Rattle.pl_scope.specs.declared.fault.WalkFault.TheVariants as walk
use Rattle.pl_loader.specs.declared.fault.LoadFault.{LoadFault}
use Rattle.pl_loader.specs.declared.fault.LoadFault.TheVariants.{NotThere, BadMark, Refused, NotProgram, NeededIsProgram, TooMany, TlsTooLarge, NoPlace, Link, NoMemory}

abbrev pub is_memory : LoadFault → Bool
is_memory NoMemory = true
is_memory (NotThere _) = false
is_memory (BadMark _) = false
is_memory (Refused _ _ _) = false
is_memory (NotProgram _) = false
is_memory (NeededIsProgram _) = false
is_memory (TooMany _) = false
is_memory TlsTooLarge = false
is_memory (NoPlace _) = false
is_memory (Link _) = false

-- a file of a name is refused by a clause
abbrev pub of_refusal : List ℕ → Refusal → LoadFault
of_refusal name (refusals.Clause number argument) = Refused name number argument
of_refusal name refusals.NoMemory = NoMemory

-- or by its mark
abbrev pub of_file : List ℕ → FileFault → LoadFault
of_file name files.BadMark = BadMark name
of_file name (files.Refused refusal) = of_refusal name refusal

abbrev pub of_walk : WalkFault → LoadFault
of_walk (walk.NeededIsProgram name) = NeededIsProgram name
of_walk (walk.TooMany name) = TooMany name
of_walk (walk.NotThere name) = NotThere name
of_walk walk.NoMemory = NoMemory

abbrev pub of_tls : TlsFault → LoadFault
of_tls tls.TooLarge = TlsTooLarge
of_tls tls.NoMemory = NoMemory

abbrev pub of_place : PlaceFault → LoadFault
of_place (place.NoPlace name) = NoPlace name
of_place place.NoMemory = NoMemory
