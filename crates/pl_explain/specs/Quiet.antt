-- Where nothing is said.
use Rattle.std.specs.Prelude.{Bool, true, false}
use Rattle.pl_words.specs.declared.status.Status.{Status}
use Rattle.pl_words.specs.declared.status.Status.TheVariants.{Done, Differs}

-- the command was done, or a file differs
abbrev pub is_quiet : Status → Bool
is_quiet Done = true
is_quiet Differs = true
is_quiet status = false
