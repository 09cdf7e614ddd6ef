-- The command line: its options, flags and names, and what `clap` makes of words.
use Rattle.std.specs.Prelude.{ℕ, Bool, true, false, List, [], ◌∷◌, fold, Some, Result, Ok, Err, codes}
use Rattle.std.specs.List.{list_all}
use Rattle.clap.specs.Words.{App, Kinds, Row, Rule, fault_of, matches_of, new_app, new_rule, with_rule}
use Rattle.clap.specs.Simple.{on_top}
use Rattle.clap.specs.declared.builder.ArgAction.TheVariants.{Append, SetTrue}
use Rattle.clap.specs.declared.error.kind.ErrorKind.{ErrorKind}
use Rattle.clap.specs.declared.error.kind.ErrorKind.TheVariants.{OutOfMemory}
use Rattle.pl_words.specs.declared.fault.WordsFault.{WordsFault}
use Rattle.pl_words.specs.declared.fault.WordsFault.TheVariants.{Usage, NoMemory}

abbrev pub is_memory : WordsFault → Bool
is_memory NoMemory = true
is_memory Usage = false

-- what a fault of `clap` is to the caller
abbrev pub fault_of_kind : ErrorKind → WordsFault
fault_of_kind OutOfMemory = NoMemory
fault_of_kind _ = Usage

-- `--name VALUE`, or `--name=VALUE`
unfoldable pub option : List ℕ → Rule
option name = record (new_rule name) { long = Some name }

-- `--name`
unfoldable pub flag : List ℕ → Rule
flag name = record (option name) { action = Some SetTrue }

-- the same with a letter: `-l`
unfoldable pub lettered : ℕ → Rule → Rule
lettered letter rule = record rule { short = Some letter }

-- `NAME..`: the words that are neither option nor flag nor value
unfoldable pub positional_names : Rule
positional_names = record (new_rule (codes "names")) { action = Some Append }

-- ---- all that may stand in the line

unfoldable pub loading : List Rule
loading =
    option (codes "load")
    ∷ option (codes "busy")
    ∷ option (codes "policy")
    ∷ option (codes "order")
    ∷ []

unfoldable pub prelinking : List Rule
prelinking =
    lettered 97 (flag (codes "all"))
    ∷ lettered 110 (flag (codes "dry-run"))
    ∷ lettered 118 (flag (codes "verbose"))
    ∷ lettered 109 (flag (codes "conserve-memory"))
    ∷ option (codes "region")
    ∷ lettered 117 (flag (codes "undo"))
    ∷ []

unfoldable pub one_file : List Rule
one_file =
    lettered 121 (option (codes "verify"))
    ∷ option (codes "install")
    ∷ option (codes "remove")
    ∷ option (codes "make")
    ∷ option (codes "fix")
    ∷ option (codes "unfix")
    ∷ []

unfoldable pub others : List Rule
others =
    lettered 112 (flag (codes "print-cache"))
    ∷ option (codes "demo")
    ∷ flag (codes "weave")
    ∷ positional_names
    ∷ []

-- ---- the line

-- nothing of what `clap` can do besides changes how words are read
abbrev pub are_simple : List Rule → Bool
are_simple rules = list_all (λ r. r.is_simple) rules

abbrev pub with_rules : App → List Rule → App
with_rules line rules = fold with_rule line rules

-- the words do not begin with the program's name, and there is no help
unfoldable pub bare : App
bare = on_top (λ s. record s { no_binary_name = true; disable_help_flag = true }) (new_app (codes "prelink"))

unfoldable pub line : App
line = with_rules (with_rules (with_rules (with_rules bare loading) prelinking) one_file) others

-- words that `clap` refuses are no command
abbrev pub unless_refused : Kinds → List Row → Result (List Row) WordsFault
unless_refused [] rows = Ok rows
unless_refused (kind ∷ kinds) rows = Err Usage

-- what the words give: the matches of this command, where `clap` refuses nothing
unfoldable pub parsed : List (List ℕ) → Result (List Row) WordsFault
parsed words = unless_refused (fault_of line words) (matches_of line words)
