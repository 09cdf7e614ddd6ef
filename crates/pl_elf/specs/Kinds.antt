-- What a file is.
use Rattle.std.specs.Prelude.{Bool, true, false}
use Rattle.pl_elf.specs.declared.kind.Kind.{Kind}
use Rattle.pl_elf.specs.declared.kind.Kind.TheVariants.{Program, Library, Static}

-- a program with relocations
abbrev pub is_program : Kind → Bool
is_program Program = true
is_program Library = false
is_program Static = false

abbrev pub is_library : Kind → Bool
is_library Program = false
is_library Library = true
is_library Static = false

-- a program without relocations
abbrev pub is_static : Kind → Bool
is_static Program = false
is_static Library = false
is_static Static = true
