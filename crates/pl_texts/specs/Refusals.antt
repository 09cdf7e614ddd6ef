-- The texts of causes, and the line of a refusal.
use Rattle.std.specs.Prelude.{ℕ, ◌/◌, ◌%◌, Bool, ◌&&◌, ◌||◌, not, ◌==◌, List, [], ◌∷◌, ◌++◌, codes, Option, Some, None, if◌then◌else◌}
use Rattle.std.specs.Fmt.{decimal}
use Rattle.std.specs.Char.{is_ascii_graphic}
use Rattle.std.specs.List.{flat_map}
use Rattle.pl_base.specs.Digits.{hex16, hex_digit, line_text}
use Rattle.pl_rewrite.specs.Skip.{Skip}
use Rattle.pl_rewrite.specs.Skip.TheVariants as skips
use Rattle.pl_loader.specs.declared.fault.LoadFault.{LoadFault}
use Rattle.pl_loader.specs.declared.fault.LoadFault.TheVariants.{NotThere, BadMark, Refused, NotProgram, NeededIsProgram, TooMany, TlsTooLarge, NoPlace, NoMemory, Link}
use Rattle.pl_texts.specs.declared.cause.Cause.{Cause}
use Rattle.pl_texts.specs.declared.cause.Cause.TheVariants.{BadName, BadJournal, FileTooLarge, Load, InputTooLarge, Recipe, TooManyFiles, BadCache, FolderTooLarge, NoSlot, StampsSpent, NotPie, NotFixed, Script}
use Rattle.pl_texts.specs.declared.symbol_text.TheConstants.{BACKSLASH}
use Rattle.pl_value.specs.LinkNames.{name_of_cause}
use Rattle.pl_value.specs.declared.link_names.NamedFault.{NamedFault}

-- ---- a symbol's name. It may have any bytes but 0

-- a byte that stands for itself
unfoldable pub is_plain : ℕ → Bool
is_plain byte = is_ascii_graphic byte && not (byte == BACKSLASH)

-- any other byte is a backslash, an x and two hexadecimal digits
unfoldable pub escaped : ℕ → List ℕ
escaped byte = if is_plain byte then byte ∷ [] else BACKSLASH ∷ 120 ∷ hex_digit (byte / 16) ∷ hex_digit (byte % 16) ∷ []

-- symbol 0 has no name
abbrev pub symbol_text : Option (List ℕ) → List ℕ
symbol_text None = codes "-"
symbol_text (Some name) = flat_map escaped name

-- ---- parts of the texts

unfoldable pub named : List ℕ → List ℕ → List ℕ
named cause name = cause ++ codes " " ++ name

-- with a number
unfoldable pub numbered : List ℕ → ℕ → List ℕ
numbered cause number = cause ++ codes " " ++ decimal number

-- the object whose relocation is refused, and its symbol
unfoldable pub link_text : List ℕ → List ℕ → Option (List ℕ) → List ℕ
link_text cause object symbol = cause ++ codes " " ++ object ++ codes " " ++ symbol_text symbol

-- a link refusal
abbrev pub link_fault_text : NamedFault → List ℕ
link_fault_text fault = link_text (name_of_cause fault.cause) fault.object fault.symbol

-- a refusal by one of these clauses tells a tag's number or a relocation's kind
abbrev pub has_argument : ℕ → Bool
has_argument clause = clause == 10 || clause == 11 || clause == 23

-- a file's name, the acceptance clause that refuses it, and its argument where it has one
unfoldable pub refused : List ℕ → ℕ → ℕ → List ℕ
refused name clause argument =
    if has_argument clause
    then codes "Refused " ++ name ++ codes " " ++ decimal clause ++ codes " " ++ decimal argument
    else codes "Refused " ++ name ++ codes " " ++ decimal clause

-- a line of a recipe, and the kind of its fault
unfoldable pub recipe_text : ℕ → ℕ → List ℕ
recipe_text number kind = codes "Recipe " ++ decimal number ++ codes " " ++ decimal kind

-- a library's name, how many bytes of addresses it wants, and how many the greatest hole has
unfoldable pub no_slot : List ℕ → ℕ → ℕ → List ℕ
no_slot name span hole = codes "NoSlot " ++ (name ++ (codes " " ++ (hex16 span ++ (codes " " ++ hex16 hole))))

-- a file's name, and the number of its form fault
unfoldable pub form_text : List ℕ → ℕ → List ℕ
form_text name number = codes "Form " ++ name ++ codes " " ++ decimal number

-- ---- texts of causes

-- a fault of a load. No load means a want of memory, so the text of NoMemory is never printed
unfoldable pub load_fault_text : LoadFault → List ℕ
load_fault_text (NotThere name) = named (codes "NotThere") name
load_fault_text (BadMark name) = named (codes "BadMark") name
load_fault_text (Refused name number argument) = refused name number argument
load_fault_text (NotProgram name) = named (codes "NotProgram") name
load_fault_text (NeededIsProgram name) = named (codes "NeededIsProgram") name
load_fault_text (TooMany name) = named (codes "TooMany") name
load_fault_text TlsTooLarge = codes "TlsTooLarge"
load_fault_text (NoPlace name) = named (codes "NoPlace") name
load_fault_text (Link fault) = link_fault_text fault
load_fault_text NoMemory = codes "NoMemory"

-- why a command is refused
unfoldable pub cause_text : Cause → List ℕ
cause_text BadName = codes "BadName"
cause_text BadJournal = codes "BadJournal"
cause_text (FileTooLarge name) = named (codes "FileTooLarge") name
cause_text (Load fault) = load_fault_text fault
cause_text InputTooLarge = codes "InputTooLarge"
cause_text (Recipe number kind) = recipe_text number kind
cause_text (Script line) = numbered (codes "Script") line
cause_text TooManyFiles = codes "TooManyFiles"
cause_text BadCache = codes "BadCache"
cause_text FolderTooLarge = codes "FolderTooLarge"
cause_text (NoSlot name span hole) = no_slot name span hole
cause_text (StampsSpent stamp) = numbered (codes "StampsSpent") stamp
cause_text (NotPie name) = named (codes "NotPie") name
cause_text (NotFixed name) = named (codes "NotFixed") name

-- why a name is not prelinked. No run means a want of memory, so the text of NoMemory is never printed
unfoldable pub skip_text : Skip → List ℕ
skip_text (skips.NotThere name) = named (codes "NotThere") name
skip_text (skips.BadMark name) = named (codes "BadMark") name
skip_text (skips.Refused name number argument) = refused name number argument
skip_text (skips.Static name) = named (codes "Static") name
skip_text (skips.NeededIsProgram name) = named (codes "NeededIsProgram") name
skip_text (skips.TooMany name) = named (codes "TooMany") name
skip_text (skips.Form name number) = form_text name number
skip_text skips.TlsTooLarge = codes "TlsTooLarge"
skip_text (skips.Link fault) = link_fault_text fault
skip_text skips.NoMemory = codes "NoMemory"

-- the line of a refusal
unfoldable pub refusal : Cause → List ℕ
refusal cause = line_text (codes "refused " ∷ cause_text cause ∷ [])
