-- What the words after the program's name ask for, and what that may ask of the outside.
use Rattle.std.specs.Prelude.{◌≡◌, ℕ, Bool, true, false, ⊤, List, [], Option, Some, None, Result, Ok, Err, unwrap_or, if◌then◌else◌}
use Rattle.pl_base.specs.Names.{is_valid_name}
use Rattle.pl_batch.specs.declared.prelinking.Prelinking.{Prelinking}
use Rattle.pl_words.specs.Table.{read}
use Rattle.pl_words.specs.declared.command.AllOptions.{AllOptions}
use Rattle.pl_words.specs.declared.command.Command as words
use Rattle.pl_words.specs.declared.command.Command.TheVariants as word
use Rattle.pl_words.specs.declared.fault.WordsFault.{WordsFault}
use Rattle.pl_words.specs.declared.fault.WordsFault.TheVariants.{Usage, NoMemory}
use Rattle.pl_cli.specs.declared.command.Command.{Command}
use Rattle.pl_cli.specs.declared.command.Command.TheVariants.{Load, All, Preview, UndoAll, Undo, Verify, Store, Remove, Fix, Unfix, Print, Order, Demo, Weave}
use Rattle.pl_texts.specs.declared.content.Content.TheVariants.{File, Recipe}
use Rattle.pl_texts.specs.declared.detail.Detail.{Detail}
use Rattle.pl_texts.specs.declared.detail.Detail.TheVariants.{Short, Full}

abbrev pub detail_of : Bool → Detail
detail_of verbose = if verbose then Full else Short

-- what a run over all files is asked at a moment
abbrev pub prelinking : AllOptions → ℕ → Prelinking
prelinking options moment = record { region = options.region; share = options.share; moment = moment }

-- `-a`, or with `-n` what it would do
abbrev pub over_all : AllOptions → ℕ → Command
over_all options moment = if options.dry then Preview (prelinking options moment) (detail_of options.verbose) else All (prelinking options moment) (detail_of options.verbose)

-- a command at a moment
abbrev pub at_moment : ℕ → words.Command → Command
at_moment moment (word.Load name busy policy) = Load name busy policy
at_moment moment (word.All options) = over_all options moment
at_moment moment word.UndoAll = UndoAll
at_moment moment (word.Undo names) = Undo names
at_moment moment (word.Install name) = Store name File
at_moment moment (word.Make name) = Store name Recipe
at_moment moment (word.Remove name) = Remove name
at_moment moment (word.Fix name policy) = Fix name policy
at_moment moment (word.Unfix name) = Unfix name
at_moment moment (word.Verify name) = Verify name
at_moment moment word.Print = Print
at_moment moment word.Weave = Weave
at_moment moment (word.Order name verbose) = Order name (detail_of verbose)
at_moment moment (word.Demo number) = Demo number

abbrev pub if_read : ℕ → Result words.Command WordsFault → Option Command
if_read moment (Ok asked) = Some (at_moment moment asked)
if_read moment (Err fault) = None

-- what words ask for, by the table of commands; the moment is that of the run, in seconds since 1970
unfoldable pub command : ℕ → List (List ℕ) → Option Command
command moment ws = if_read moment (read ws)

-- what was read of words, unless there was no memory
abbrev pub Reads : Option Command → Result Command WordsFault → Type 0
Reads meant (Ok asked) = meant ≡ Some asked
Reads meant (Err Usage) = meant ≡ None
Reads meant (Err NoMemory) = ⊤

-- ---- what a run may ask of the outside. A name that is not valid is refused before the folder is read, but a writing command recovers it first

abbrev pub asks_folder : Option Command → Bool
asks_folder None = false
asks_folder (Some (Load name busy policy)) = is_valid_name name
asks_folder (Some (All asked detail)) = true
asks_folder (Some (Preview asked detail)) = true
asks_folder (Some UndoAll) = true
asks_folder (Some (Undo names)) = true
asks_folder (Some (Store name kind)) = true
asks_folder (Some (Remove name)) = true
asks_folder (Some (Fix name policy)) = true
asks_folder (Some (Unfix name)) = true
asks_folder (Some (Verify name)) = is_valid_name name
asks_folder (Some Print) = true
asks_folder (Some Weave) = true
asks_folder (Some (Order name detail)) = is_valid_name name
asks_folder (Some (Demo number)) = false

-- whether the answer rests on the folder's files
abbrev pub rests_on_files : Option Command → Bool
rests_on_files None = false
rests_on_files (Some (Load name busy policy)) = is_valid_name name
rests_on_files (Some (All asked detail)) = true
rests_on_files (Some (Preview asked detail)) = true
rests_on_files (Some UndoAll) = true
rests_on_files (Some (Undo names)) = true
rests_on_files (Some (Store name kind)) = is_valid_name name
rests_on_files (Some (Remove name)) = is_valid_name name
rests_on_files (Some (Fix name policy)) = is_valid_name name
rests_on_files (Some (Unfix name)) = is_valid_name name
rests_on_files (Some (Verify name)) = is_valid_name name
rests_on_files (Some Print) = true
rests_on_files (Some Weave) = true
rests_on_files (Some (Order name detail)) = is_valid_name name
rests_on_files (Some (Demo number)) = false

abbrev pub reads_input : Option Command → Bool
reads_input None = false
reads_input (Some (Load name busy policy)) = false
reads_input (Some (All asked detail)) = false
reads_input (Some (Preview asked detail)) = false
reads_input (Some UndoAll) = false
reads_input (Some (Undo names)) = false
reads_input (Some (Store name kind)) = is_valid_name name
reads_input (Some (Remove name)) = false
reads_input (Some (Fix name policy)) = false
reads_input (Some (Unfix name)) = false
reads_input (Some (Verify name)) = false
reads_input (Some Print) = false
reads_input (Some Weave) = true
reads_input (Some (Order name detail)) = false
reads_input (Some (Demo number)) = false

-- the bytes of an input, where it tells them
abbrev pub bytes_of : Option (List ℕ) → List ℕ
bytes_of input = unwrap_or input []
