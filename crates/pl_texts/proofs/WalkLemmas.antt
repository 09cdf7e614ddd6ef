-- What a walk over the files of a folder finds, name by name, whatever is made of it.
use Rattle.std.proofs.Common.{◌≡◌, ◌<◌, ◌+◌, ℕ, List, true, false, Some, refl}
use Rattle.std.specs.Prelude.{Result, Ok, Err}
use Rattle.std.proofs.lemmas.Bool.{true≢false, false≢true}
use Rattle.pl_base.specs.Names.{is_valid_name}
use Rattle.pl_folder.specs.Calls.{Calls}
use Rattle.pl_folder.specs.Effects.{Asks}
use Rattle.pl_folder.specs.Seen.{Seen, IsFolder, Done}
use Rattle.pl_scope.specs.Walking.{Walking, wants}
use Rattle.pl_scope.specs.declared.constants.TheConstants.{MAX_MEMBERS}
use Rattle.pl_texts.specs.declared.cause.Cause.{Cause}
use Rattle.pl_texts.specs.declared.cause.Cause.TheVariants as causes
use Rattle.pl_texts.specs.declared.stop.Stop.{Stop}
use Rattle.pl_texts.specs.declared.stop.Stop.TheVariants as stops
use Rattle.pl_texts.specs.Finds.{Finds}
use Rattle.pl_texts.specs.Looks.{ObjectOf, stepped, takes}
use Rattle.pl_texts.specs.Endings.{ending_of, is_read_fault}
use Rattle.pl_texts.specs.Stops.{Stops, stop_status}
use Rattle.pl_texts.proofs.LookLemmas.{AllBut, and_broken, and_last, and_more, and_undone, lacks_early, left_from, left_last, left_more, left_some, no_call, one_if_valid, takes_none}

-- what the walk of a name finds
abbrev pub FindsBy : {X Y : Type 0} → ObjectOf → List ℕ → Result X Cause → (Y → X) → Result Y Stop → Seen → Seen → Type 0
FindsBy object name meant view result a c = Finds (is_valid_name name) (Asks (takes object name)) meant view result a c

module _ {X Y : Type 0} (object : ObjectOf) (name : List ℕ) (meant : Result X Cause) (view : Y → X) (a : Seen) where
  -- a name that is not valid has no object
  pub refused_name : (cause : Cause) → is_valid_name name ≡ false → object name ≡ Err cause → meant ≡ Err causes.BadName → FindsBy object name meant view (Err (stops.Cause causes.BadName)) a a
  refused_name cause invalid lacks bad = record { means = λ _. bad; reads = refl; fails = λ e. absurd (false≢true e); calls = no_call a (takes object name) (takes_none object name cause invalid lacks) }

  -- memory lacked before the walk began
  pub not_begun : FindsBy object name meant view (Err stops.NoMemory) a a
  not_begun = record { means = tt; reads = refl; fails = λ e. absurd (false≢true e); calls = lacks_early a (takes object name) }

-- of a valid name, as it goes on: a is the folder before it, and b where the walk wants n
module _ (object : ObjectOf) (name : List ℕ) (valid : is_valid_name name ≡ true) (w : Walking) (n : List ℕ) (is : wants w ≡ Some n) (below : w.given < MAX_MEMBERS) {a b c : Seen} (folder : IsFolder a)
    (so_far : Calls Done (AllBut (left_from object w) (takes object name)) a b) where
  -- its file was given to the walk
  pub goes_on : (v : Walking) → v.given ≡ w.given + 1 → (a.tells ≡ true → stepped object w n ≡ Ok v) → Calls Done (Asks (one_if_valid n)) b c → Calls Done (AllBut (left_from object v) (takes object name)) a c
  goes_on v more step call = and_more (one_if_valid n) so_far (left_from object v) (λ records. left_more object w n below is v more (step (folder.tells records))) call

  -- it stopped there
  pub stopped_here : {X Y : Type 0} (meant : Result X Cause) (view : Y → X) (stop : Stop) → Stops (a.tells ≡ true) (stepped object w n) stop → Stops (a.tells ≡ true) meant stop → is_read_fault (stop_status stop) ≡ false
      → Calls (ending_of (stop_status stop)) (Asks (one_if_valid n)) b c → FindsBy object name meant view (Err stop) a c
  stopped_here meant view (stops.Cause cause) step whole reads call = record {
    means = λ told. whole (told valid);
    reads = refl;
    fails = λ _. valid;
    calls = and_last (one_if_valid n) so_far (λ records. left_last object w n below is cause (step (folder.tells records))) call;
  }
  stopped_here meant view stops.Failed step whole reads call = record { means = tt; reads = refl; fails = λ _. valid; calls = and_broken (one_if_valid n) so_far (λ _. left_some object w n below is) call }
  stopped_here meant view stops.InputFailed step whole reads call = absurd (true≢false reads)
  stopped_here meant view stops.NoMemory step whole reads call = record { means = tt; reads = refl; fails = λ _. valid; calls = and_undone (one_if_valid n) so_far (λ _. left_some object w n below is) call }
