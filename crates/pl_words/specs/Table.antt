-- The table of commands: for each the options, flags and names that must stand, and those that may.
use Rattle.std.specs.Prelude.{ℕ, List, [], ◌∷◌, Result, Ok, Err, codes, if◌then◌else◌}
use Rattle.pl_base.specs.Answers.{◌>>=◌}
use Rattle.clap.specs.Words.{Row}
use Rattle.pl_words.specs.Found.{Name, fits, is_given}
use Rattle.pl_words.specs.Line.{parsed}
use Rattle.pl_words.specs.Values.{busy, names, number_of, policy, region, value}
use Rattle.pl_words.specs.declared.command.Command.{Command}
use Rattle.pl_words.specs.declared.command.Command.TheVariants.{Load, All, UndoAll, Undo, Verify, Print, Install, Remove, Make, Demo, Weave, Fix, Unfix, Order}
use Rattle.pl_words.specs.declared.fault.WordsFault.{WordsFault}
use Rattle.pl_words.specs.declared.fault.WordsFault.TheVariants.{Usage}

-- ---- what the words of a row make

unfoldable pub load : List Row → Result Command WordsFault
load rows = do
  name ← value rows (codes "load")
  range ← busy rows
  how ← policy rows
  Ok (Load name range how)

unfoldable pub all : List Row → Result Command WordsFault
all rows = region rows >>= λ range. Ok (All (record {
  dry = is_given rows (codes "dry-run");
  verbose = is_given rows (codes "verbose");
  share = is_given rows (codes "conserve-memory");
  region = range;
}))

unfoldable pub undo : List Row → Result Command WordsFault
undo rows = names rows >>= λ ns. Ok (Undo ns)

unfoldable pub demo : List Row → Result Command WordsFault
demo rows = number_of rows (codes "demo") >>= λ number. Ok (Demo number)

unfoldable pub fix : List Row → Result Command WordsFault
fix rows = do
  name ← value rows (codes "fix")
  how ← policy rows
  Ok (Fix name how)

unfoldable pub order : List Row → Result Command WordsFault
order rows = value rows (codes "order") >>= λ name. Ok (Order name (is_given rows (codes "verbose")))

-- a name, and nothing besides it
abbrev pub name_alone : Name → (Name → Command) → List Row → Result Command WordsFault
name_alone option command rows = value rows option >>= λ name. Ok (command name)

-- ---- the rows

pub record Form : Type 0 where
  pub must : List Name
  pub may : List Name
  pub makes : List Row → Result Command WordsFault

-- the first row that the words are in
abbrev pub chosen : List Form → List Row → Result Command WordsFault
chosen [] rows = Err Usage
chosen (form ∷ forms) rows = if fits form.must form.may rows then form.makes rows else chosen forms rows

abbrev pub just : Name → List Name
just name = name ∷ []

abbrev pub on : Name → (Name → Command) → Form
on option command = record { must = just option; may = []; makes = name_alone option command }

-- on one file
unfoldable pub forms_on_a_file : List Form
forms_on_a_file =
    on (codes "verify") Verify
    ∷ on (codes "install") Install
    ∷ on (codes "remove") Remove
    ∷ on (codes "make") Make
    ∷ on (codes "unfix") Unfix
    ∷ []

-- in memory, and then these
unfoldable pub forms_in_memory : List Form
forms_in_memory =
    record { must = just (codes "demo"); may = []; makes = demo }
    ∷ record { must = just (codes "weave"); may = []; makes = λ _. Ok Weave }
    ∷ forms_on_a_file

-- the cache, and then these
unfoldable pub forms_on_the_cache : List Form
forms_on_the_cache = record { must = just (codes "print-cache"); may = []; makes = λ _. Ok Print } ∷ forms_in_memory

-- on all or some files, and then these
unfoldable pub forms_on_files : List Form
forms_on_files =
    record { must = just (codes "all"); may = codes "dry-run" ∷ codes "verbose" ∷ codes "conserve-memory" ∷ codes "region" ∷ []; makes = all }
    ∷ record { must = codes "undo" ∷ codes "all" ∷ []; may = []; makes = λ _. Ok UndoAll }
    ∷ record { must = codes "undo" ∷ codes "names" ∷ []; may = []; makes = undo }
    ∷ forms_on_the_cache

-- on a program and what it needs, and then these
unfoldable pub forms : List Form
forms =
    record { must = just (codes "load"); may = codes "busy" ∷ codes "policy" ∷ []; makes = load }
    ∷ record { must = just (codes "fix"); may = just (codes "policy"); makes = fix }
    ∷ record { must = just (codes "order"); may = just (codes "verbose"); makes = order }
    ∷ forms_on_files

-- the command that words are
unfoldable pub read : List (List ℕ) → Result Command WordsFault
read words = parsed words >>= chosen forms
