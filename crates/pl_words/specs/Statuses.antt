-- Exit codes.
use Rattle.std.specs.Prelude.{ℕ}
use Rattle.pl_words.specs.declared.status.Status.{Status}
use Rattle.pl_words.specs.declared.status.Status.TheVariants.{Done, Differs, Usage, Refused, ReadFault, WriteFault, DiskFault, NoMemory}

abbrev pub code_of : Status → ℕ
code_of Done = 0
code_of Differs = 1
code_of Usage = 2
code_of Refused = 3
code_of ReadFault = 4
code_of WriteFault = 5
code_of DiskFault = 6
code_of NoMemory = 7
