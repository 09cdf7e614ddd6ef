-- What a recipe's file is.
use Rattle.std.specs.Prelude.{Bool, true, false}
use Rattle.pl_build.specs.declared.kind.FileKind.{FileKind}
use Rattle.pl_build.specs.declared.kind.FileKind.TheVariants.{Program, Pie, Library, Static}

-- a program with tables, position-independent or not
abbrev pub is_program : FileKind → Bool
is_program Program = true
is_program Pie = true
is_program Library = false
is_program Static = false

abbrev pub is_pie : FileKind → Bool
is_pie Program = false
is_pie Pie = true
is_pie Library = false
is_pie Static = false

-- of type ET_DYN, with addresses from 0 on
abbrev pub is_position_independent : FileKind → Bool
is_position_independent Program = false
is_position_independent Pie = true
is_position_independent Library = true
is_position_independent Static = false

-- a program without tables
abbrev pub is_static : FileKind → Bool
is_static Program = false
is_static Pie = false
is_static Library = false
is_static Static = true
