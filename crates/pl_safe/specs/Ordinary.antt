-- What `--load` would answer if it linked the originals alone, and of a position-independent program the one that it becomes.
use Rattle.std.specs.Prelude.{◌≡◌, List, ℕ, not, Option, Some, Result}
use Rattle.pl_base.specs.Answers.{unless}
use Rattle.pl_base.specs.Files.{Files}
use Rattle.pl_base.specs.Names.{is_valid_name}
use Rattle.pl_elf.specs.declared.range.Range.{Range}
use Rattle.pl_words.specs.declared.command.Policy.{Policy}
use Rattle.pl_conflict.specs.Format.{Causes, RuleAt, is_fast}
use Rattle.law_loads.specs.LoadingFolder.{loading_folder}
use Rattle.law_loads.specs.Paths.{ordinary_load}
use Rattle.law_loads.specs.Started.{Start}
use Rattle.pl_cli.specs.Answer.{Answer, answer, load_answer}
use Rattle.pl_cli.specs.Files.{valid_file}
use Rattle.pl_cli.specs.Load.{choice, loading_file}
use Rattle.pl_cli.specs.Cause.{Cause}
use Rattle.pl_cli.specs.Cause.TheVariants as cause
use Rattle.pl_cli.specs.declared.command.Command.TheVariants.{Load}

-- what a program of a folder's files starts from where the originals are linked, or the first cause why it does not. The path is the fast one where these files allow it at these places
unfoldable pub ordinary : {F : Type 0} → Causes F → Policy → Option Range → Files → List ℕ → Result Start Cause
ordinary causes policy busy files name =
    unless (not (is_valid_name name)) cause.BadName (ordinary_load (is_fast causes (loading_folder (choice policy) (valid_file files) name) name) (choice policy) busy cause.Load (loading_file policy files name) name)

-- the status and the text of it
abbrev pub ordinary_answer : {F : Type 0} → Causes F → Policy → Option Range → Files → List ℕ → Answer
ordinary_answer causes policy busy files name = load_answer (ordinary causes policy busy files name)

-- ---- a law

-- where the rule holds at the loaded name, `--load` answers by status and text as where the originals are linked
abbrev pub AnswersAreOrdinary : Type 0 → Type 0
AnswersAreOrdinary F = (causes : Causes F) (files : Files) (input name : List ℕ) (busy : Option Range) (policy : Policy)
    → RuleAt causes (valid_file files) name → answer (Some (Load name busy policy)) files input ≡ ordinary_answer causes policy busy files name
