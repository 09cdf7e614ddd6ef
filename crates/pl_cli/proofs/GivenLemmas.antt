-- What a load is given of the file of a name, from what the folder gives.
use Rattle.std.proofs.Common.{◌≡◌, ℕ, Bool, List, true, false, refl, sym, ap, ◌∙◌}
use Rattle.std.specs.Prelude.{MatchBool, Result, Ok, Err, Vec, ⊤, if◌then◌else◌}
use Rattle.std.specs.declared.alloc.Global.{Global}
use Rattle.std.proofs.lemmas.Bool.{false≢true}
use Rattle.pl_base.specs.Answers.{◌>>=◌, because}
use Rattle.pl_base.specs.Files.{Files}
use Rattle.pl_folder.specs.Seen.{Seen}
use Rattle.pl_words.specs.declared.command.Policy.{Policy}
use Rattle.pl_loader.specs.Faults as memory
use Rattle.pl_loader.specs.declared.fault.LoadFault.{LoadFault}
use Rattle.pl_texts.specs.declared.cause.Cause.{Cause}
use Rattle.pl_texts.specs.declared.cause.Cause.TheVariants as causes
use Rattle.pl_texts.specs.declared.stop.Stop.{Stop}
use Rattle.pl_texts.specs.declared.stop.Stop.TheVariants as stops
use Rattle.pl_cli.specs.Came.{HasGiven}
use Rattle.pl_texts.specs.Finds.{HasTaken}
use Rattle.pl_texts.specs.Files.{file_in}
use Rattle.pl_loader.specs.Given.{given_from}
use Rattle.pl_cli.specs.Load.{given_file, loading_file}
use Rattle.pl_texts.specs.Stops.{MeansAlone, StopsAlone, of_load_fault}
use Rattle.pl_texts.proofs.CallLemmas.{asked_all}
use Rattle.pl_cli.proofs.LoadLemmas.{lacks_file}
use Rattle.pl_texts.proofs.StopLemmas.{stops_as}

-- a fault of a load that is meant, or a want of memory
pub stops_load : (meant : Result (List ℕ) LoadFault) (e : LoadFault) → MatchBool (memory.is_memory e) ⊤ (meant ≡ Err e) → StopsAlone (because causes.Load meant) (of_load_fault e)
stops_load meant e told = by (memory.is_memory e) told
  where
    by : (b : Bool) → MatchBool b ⊤ (meant ≡ Err e) → StopsAlone (because causes.Load meant) (if b then stops.NoMemory else stops.Cause (causes.Load e))
    by true told = tt
    by false told = ap (because causes.Load) told

module _ (policy : Policy) (name n : List ℕ) {a b : Seen} where
  -- it was not taken
  pub not_taken : (stop : Stop) → HasTaken n (Err stop) a b → HasGiven policy name n (Err stop) a b
  not_taken stop took = record { means = stops_as _ _ _ _ stop (λ cause told lacks. lacks_file policy a.files name n cause (lacks told)) took.means; reads = took.reads; fails = took.fails; calls = took.calls }

  module _ (bytes : Vec ℕ Global) (took : HasTaken n (Ok bytes) a b) where
    given_by : (r : Result (List ℕ) Cause) → file_in a.files n ≡ Ok bytes.items → given_file policy name n bytes.items ≡ r → loading_file policy a.files name n ≡ r
    unfolding loading_file given_from
    given_by r there is = ap (λ (found : Result (List ℕ) Cause). found >>= given_file policy name n) there ∙ is

    -- nothing is loaded of it
    not_given : (stop : Stop) → StopsAlone (given_file policy name n bytes.items) stop → HasGiven policy name n (Err stop) a b
    not_given (stops.Cause cause) alone = record { means = λ told. given_by (Err cause) (took.means told) alone; reads = refl; fails = λ e. absurd (false≢true e); calls = took.calls }
    not_given stops.Failed alone = absurd alone
    not_given stops.InputFailed alone = absurd alone
    not_given stops.NoMemory alone = record { means = tt; reads = refl; fails = λ e. absurd (false≢true e); calls = asked_all _ took.calls }

    was_given : (file : List ℕ) → given_file policy name n bytes.items ≡ Ok file → HasGiven policy name n (Ok file) a b
    was_given file is = record { means = λ told. given_by (Ok file) (took.means told) is; reads = refl; fails = λ e. absurd (false≢true e); calls = took.calls }

    -- what came of the bytes is what came of the name
    pub given_so : (r : Result (List ℕ) Stop) → MeansAlone (given_file policy name n bytes.items) r → HasGiven policy name n r a b
    given_so (Ok file) is = was_given file is
    given_so (Err stop) alone = not_given stop alone
