-- No command's meaning is a want of memory: it is a value, or another cause.
use Rattle.std.specs.Prelude.{ℕ, List, Option}
use Rattle.pl_base.specs.Answers.{NeverMemory}
use Rattle.pl_base.specs.Files.{Files}
use Rattle.pl_batch.specs.declared.prelinking.Prelinking.{Prelinking}
use Rattle.pl_batch.specs.declared.run.Run.{Run}
use Rattle.pl_elf.specs.declared.range.Range.{Range}
use Rattle.pl_words.specs.declared.command.Policy.{Policy}
use Rattle.pl_cli.specs.Answer.{fixed_line}
use Rattle.pl_cli.specs.Load.{is_memory, load_result}
use Rattle.pl_texts.specs.Order.{ordered}
use Rattle.pl_texts.specs.Print.{printed}
use Rattle.pl_cli.specs.Reports.{previewed, reported}
use Rattle.pl_cli.specs.Verified.{verifies}
use Rattle.pl_cli.specs.Weave.{weaves}
use Rattle.pl_cli.specs.Writes.{loosens, removes, stores, undoes}
use Rattle.pl_texts.specs.declared.content.Content.{Content}
use Rattle.pl_texts.specs.declared.detail.Detail.{Detail}

-- what a load means is no want of memory
abbrev pub LoadsTell : Type 0
LoadsTell = (policy : Policy) (busy : Option Range) (files : Files) (name : List ℕ) → NeverMemory is_memory (load_result policy busy files name)

-- what an order of initialisation means is none
abbrev pub OrdersTell : Type 0
OrdersTell = (detail : Detail) (files : Files) (name : List ℕ) → NeverMemory is_memory (ordered detail files name)

-- what a printed cache means is none
abbrev pub PrintsTell : Type 0
PrintsTell = (files : Files) → NeverMemory is_memory (printed files)

-- what a run that undoes, prelinks or installs files means is none
abbrev pub UndosTell : Type 0
UndosTell = (run : Run) (files : Files) → NeverMemory is_memory (undoes run files)

-- what the removal of a file means is none
abbrev pub RemovalsTell : Type 0
RemovalsTell = (name : List ℕ) (files : Files) → NeverMemory is_memory (removes name files)

-- what the storing of a file, or of a recipe's, means is none
abbrev pub StoresTell : Type 0
StoresTell = (name : List ℕ) (kind : Content) (input : List ℕ) (files : Files) → NeverMemory is_memory (stores name kind input files)

-- what the fixing of a program means is none
abbrev pub FixesTell : Type 0
FixesTell = (policy : Policy) (name : List ℕ) (files : Files) → NeverMemory is_memory (fixed_line policy name files)

-- what the loosening of a fixed program means is none
abbrev pub LooseningsTell : Type 0
LooseningsTell = (name : List ℕ) (files : Files) → NeverMemory is_memory (loosens name files)

-- what a run over all files means is none
abbrev pub ReportsTell : Type 0
ReportsTell = (detail : Detail) (asked : Prelinking) (files : Files) → NeverMemory is_memory (reported detail asked files)

-- what the preview of such a run means is none
abbrev pub PreviewsTell : Type 0
PreviewsTell = (detail : Detail) (asked : Prelinking) (files : Files) → NeverMemory is_memory (previewed detail asked files)

-- what the comparison of a file with the prelinked one of its original means is none
abbrev pub ComparisonsTell : Type 0
ComparisonsTell = (name : List ℕ) (files : Files) → NeverMemory is_memory (verifies name files)

-- what a weave means is none
abbrev pub WeavesTell : Type 0
WeavesTell = (input : List ℕ) (files : Files) → NeverMemory is_memory (weaves input files)
