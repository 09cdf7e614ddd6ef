-- The rule of prelinked files, whatever the causes.
use Rattle.pl_conflict.specs.Format.{Causes, Rule}
use Rattle.law_sound.specs.Rule.{Files}

-- the rule of a folder does not depend on how a command tells causes
abbrev pub RuleIsOne : Type 0 → Type 0 → Type 0
RuleIsOne E F = (c : Causes E) (d : Causes F) (files : Files) → Rule c files → Rule d files
