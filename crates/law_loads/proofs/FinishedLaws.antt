-- What a loader of a weave that has finished starts from, by the files that it saw.
use Rattle.std.proofs.Common.{◌≡◌, ◌∙◌, ℕ, zero, suc, List, [], ◌∷◌, length, map, Option, Some, None, Result, Ok, Err, refl, sym, ap, subst}
use Rattle.std.proofs.lemmas.List.{length-map}
use Rattle.std.specs.Prelude.{fold, slice_get}
use Rattle.std.specs.FinMap.{get}
use Rattle.pl_base.specs.Answers.{because}
use Rattle.pl_base.specs.Files.{Files}
use Rattle.pl_batch.specs.declared.run.Run.{Run}
use Rattle.pl_conflict.specs.Format.{is_fast}
use Rattle.law_folder.specs.Sound.{KeepsTheRule}
use Rattle.law_folder.specs.Steps.{IsPastAll}
use Rattle.pl_elf.specs.declared.range.Range.{Range}
use Rattle.pl_rewrite.specs.Skipped.{skip_causes}
use Rattle.pl_loader.specs.Loading.{Loading}
use Rattle.pl_loader.specs.Given.{given_from}
use Rattle.pl_loader.specs.Started.{load}
use Rattle.pl_loader.specs.declared.fault.LoadFault.{LoadFault}
use Rattle.law_loads.specs.LoadingFolder.{loading_folder}
use Rattle.law_loads.specs.Weaves.{file_seen}
use Rattle.law_loads.specs.Paths.{SameAnswer, ordinary_load}
use Rattle.pl_place.specs.Policies.{lowest}
use Rattle.pl_script.specs.declared.script.Event.{Event}
use Rattle.pl_script.specs.declared.script.Event.TheVariants.{Open, Rename}
use Rattle.pl_weave.specs.Opening.{Opened, came_to, ended, led_to, opened, seen_of, taken_as, wanted}
use Rattle.pl_weave.specs.Runs.{begun}
use Rattle.pl_weave.specs.Taking.{held_file}
use Rattle.pl_weave.specs.Weaving.{Weaving, after, opened_at, opened_by, woven}
use Rattle.pl_weave.specs.declared.seen.Seen.{Seen}
use Rattle.pl_weave.proofs.LedLaws.{finished_are_loads}
use Rattle.pl_weave.proofs.WeavingLemmas.{after_length}
use Rattle.pl_weave.proofs.WovenLaws.{woven_are_led}
use Rattle.law_loads.proofs.OrdinaryLaws.{weaves_are_ordinary}
use Rattle.law_loads.proofs.SeenLemmas.{TellsSeen, are_seen, gives_seen, has_seen}

-- ---- no loader of a weave has addresses that are busy

abbrev AreFree : List (Opened (Unit {0})) → Type 0
AreFree [] = Unit {0}
AreFree (o ∷ os) = (o.load.busy ≡ None) × AreFree os

free_new : (names : List (List ℕ)) → AreFree (map (opened tt) names)
free_new [] = tt
free_new (name ∷ names) = (refl, free_new names)

free_led : (o : Opened (Unit {0})) (s : Seen) (came : Result Loading LoadFault) → o.load.busy ≡ None → (led_to o s came).load.busy ≡ None
free_led o s (Ok walk) free = free
free_led o s (Err fault) free = free

free_by : (files : Files) (o : Opened (Unit {0})) (name : Option (List ℕ)) → o.load.busy ≡ None → (opened_by lowest files o name).load.busy ≡ None
free_by files o None free = free
free_by files o (Some name) free = free_led o (seen_of name (held_file files name)) (taken_as lowest o.load.walk name (held_file files name)) free

free_at : (files : Files) (k : ℕ) (os : List (Opened (Unit {0}))) → AreFree os → AreFree (opened_at lowest files k os)
free_at files k [] free = tt
free_at files zero (o ∷ os) free = (free_by files o (wanted o) free.0, free.1)
free_at files (suc k) (o ∷ os) free = (free.0, free_at files k os free.1)

free_after : (w : Weaving) (event : Event) → AreFree w.loaders → AreFree (after lowest w event).loaders
free_after w (Open loader) free = free_at w.runs.files loader w.loaders free
free_after w Rename free = free

free_all : (w : Weaving) (events : List Event) → AreFree w.loaders → AreFree (fold (after lowest) w events).loaders
free_all w [] free = free
free_all w (event ∷ events) free = free_all (after lowest w event) events (free_after w event free)

free_one : (os : List (Opened (Unit {0}))) (k : ℕ) (o : Opened (Unit {0})) → AreFree os → slice_get os k ≡ Some o → o.load.busy ≡ None
free_one [] k o free there = let no : ⊥ = cc in absurd no
free_one (p ∷ os) zero o free there = let same : p ≡ o = cc in subst (λ (q : Opened (Unit {0})). q.load.busy ≡ None) same free.0
free_one (p ∷ os) (suc k) o free there = free_one os k o free.1 there

-- ---- the loaders of a weave

module _ (files : Files) (names : List (List ℕ)) (runs : List Run) (events : List Event) where
  abbrev start : Weaving
  start = record { loaders = map (opened tt) names; runs = begun files [] runs }

  -- they are as many as their names
  pub woven_count : length (woven lowest files names runs events).loaders ≡ length names
  woven_count = after_length lowest start events ∙ length-map names (opened tt)

  woven_free : (k : ℕ) (o : Opened (Unit {0})) → slice_get (woven lowest files names runs events).loaders k ≡ Some o → o.load.busy ≡ None
  woven_free k o there = free_one (woven lowest files names runs events).loaders k o (free_all start events (free_new names)) there

  -- one that has finished starts from the load of the files that it saw
  pub finished_load : {E : Type 0} (fault : LoadFault → E) (file : List ℕ → Result (List ℕ) E) (k : ℕ) (name : List ℕ) (o : Opened (Unit {0})) → TellsSeen fault file o.seen
      → slice_get names k ≡ Some name → slice_get (woven lowest files names runs events).loaders k ≡ Some o → wanted o ≡ None
      → because fault (ended lowest o) ≡ load lowest None fault (given_from lowest fault file name) name
  finished_load fault file k name o tells named there done =
      let led = woven_are_led lowest files names runs events k name o named there in
      sym (finished_are_loads o lowest fault file name led done (has_seen fault file lowest name o.seen (came_to o.fault o.load.walk) tells led)) ∙ ap (λ (busy : Option Range). load lowest busy fault (given_from lowest fault file name) name) (woven_free k o there)

  -- or, by the rule, from what plain linking of their originals gives
  pub finished_ordinary : {E : Type 0} (fault : LoadFault → E) (file : List ℕ → Result (List ℕ) E) (k : ℕ) (name : List ℕ) (o : Opened (Unit {0})) → TellsSeen fault file o.seen → KeepsTheRule (get files) → IsPastAll (get files)
      → slice_get names k ≡ Some name → slice_get (woven lowest files names runs events).loaders k ≡ Some o → wanted o ≡ None
      → SameAnswer (because fault (ended lowest o)) (ordinary_load (is_fast skip_causes (loading_folder lowest (file_seen o.seen) name) name) lowest None fault (given_from lowest fault file name) name)
  finished_ordinary fault file k name o tells rule past named there done =
      let led = woven_are_led lowest files names runs events k name o named there in
      let seen = has_seen fault file lowest name o.seen (came_to o.fault o.load.walk) tells led in
      subst (λ (busy : Option Range). SameAnswer (because fault (ended lowest o)) (ordinary_load (is_fast skip_causes (loading_folder lowest (file_seen o.seen) name) name) lowest busy fault (given_from lowest fault file name) name)) (woven_free k o there)
      (weaves_are_ordinary lowest files names runs events k name o rule past named there done (file_seen o.seen) fault file (are_seen o.seen) (gives_seen fault file o.seen tells) seen)
