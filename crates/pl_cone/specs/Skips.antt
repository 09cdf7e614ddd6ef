-- Why a name is not prelinked, as what it comes from means it.
use Rattle.std.specs.Prelude.{Bool, true, false}
use Rattle.pl_tls.specs.declared.fault.TlsFault.{TlsFault}
use Rattle.pl_tls.specs.declared.fault.TlsFault.TheVariants as tls
use Rattle.pl_scope.specs.declared.fault.WalkFault.{WalkFault}
use Rattle.pl_scope.specs.declared.fault.WalkFault.TheVariants as walk
use Rattle.pl_cone.specs.declared.skip.ConeFault.{ConeFault}
use Rattle.pl_cone.specs.declared.skip.ConeFault.TheVariants as stops
use Rattle.pl_cone.specs.declared.skip.Skip.{Skip}
use Rattle.pl_cone.specs.declared.skip.Skip.TheVariants.{NotThere, BadMark, Refused, Static, NeededIsProgram, TooMany, Form, TlsTooLarge, Link, NoMemory}

abbrev pub skip_is_memory : Skip → Bool
skip_is_memory NoMemory = true
skip_is_memory (NotThere _) = false
skip_is_memory (BadMark _) = false
skip_is_memory (Refused _ _ _) = false
skip_is_memory (Static _) = false
skip_is_memory (NeededIsProgram _) = false
skip_is_memory (TooMany _) = false
skip_is_memory (Form _ _) = false
skip_is_memory TlsTooLarge = false
skip_is_memory (Link _) = false

abbrev pub of_walk : WalkFault → Skip
of_walk (walk.NeededIsProgram name) = NeededIsProgram name
of_walk (walk.TooMany name) = TooMany name
of_walk (walk.NotThere name) = NotThere name
of_walk walk.NoMemory = NoMemory

abbrev pub of_tls : TlsFault → Skip
of_tls tls.TooLarge = TlsTooLarge
of_tls tls.NoMemory = NoMemory

-- want of memory, of the faults of a run
abbrev pub stops_memory : ConeFault → Bool
stops_memory stops.NoMemory = true
stops_memory (stops.StampsSpent _) = false
