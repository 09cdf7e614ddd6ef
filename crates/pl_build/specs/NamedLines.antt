-- Where the lines of a recipe name symbols, define versions, and have packed words.
use Rattle.std.specs.Prelude.{ℕ, List, Option, Some, None}
use Rattle.pl_build.specs.Checks.{writes, defines}
use Rattle.pl_build.specs.PackedIndex.{IsPackedIndex}
use Rattle.pl_build.specs.TextIndex.{IsIndexOf}
use Rattle.pl_build.specs.declared.checks.NamedLines.{NamedLines}
use Rattle.pl_build.specs.declared.line.Line.{Line}
use Rattle.pl_build.specs.declared.line.Line.TheVariants.{Version, Names}

-- what a line names a symbol by, as it is written
abbrev pub written_name : Line → Option (List ℕ)
written_name (Names s) = Some s.written
written_name _ = None

-- the version that a line defines
abbrev pub defined_version : Line → Option (List ℕ)
defined_version (Version v) = Some v
defined_version _ = None

-- each name has the place of the first line that names a symbol by it, each version that of the first that defines it, each offset that of the first that has a packed word there
pub record AreNamed (named : NamedLines) : Type 0 where
  pub written : IsIndexOf writes named.lines.now named.written
  pub versions : IsIndexOf defines named.lines.now named.versions
  pub packed : IsPackedIndex named.lines.now named.packed
