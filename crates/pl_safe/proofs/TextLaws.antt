-- The text of a weave, loader by loader.
use Rattle.std.proofs.Common.{◌≡◌, ◌∙◌, ℕ, suc, ◌+◌, ◌++◌, List, [], ◌∷◌, length, Option, Some, None, Result, Ok, Err, refl, sym, ap, subst, arith}
use Rattle.std.specs.Prelude.{slice_get}
use Rattle.std.specs.FinMap.{get}
use Rattle.pl_base.specs.Answers.{◌>>=◌, because}
use Rattle.pl_base.specs.Files.{Files}
use Rattle.pl_change.specs.Copied.{copied, kept}
use Rattle.pl_change.specs.declared.cause.Cause as batch
use Rattle.pl_batch.specs.declared.run.Run.{Run}
use Rattle.pl_cli.specs.Weave.{loader_text, loaders_text, runs_of, runs_text, script_in, state_by, text_by, weaves}
use Rattle.pl_cli.specs.WeaveText.{end_line, loader_line, start_text}
use Rattle.pl_cli.specs.Stops.{of_batch}
use Rattle.pl_cli.specs.Cause.{Cause}
use Rattle.pl_cli.specs.Cause.TheVariants as causes
use Rattle.law_folder.specs.Sound.{KeepsTheRule}
use Rattle.law_folder.specs.Steps.{IsPastAll}
use Rattle.law_loads.specs.Started.{Start}
use Rattle.law_loads.specs.Paths.{SameAnswer}
use Rattle.pl_safe.proofs.AnswerLaws.{start_same}
use Rattle.pl_place.specs.Policies.{lowest}
use Rattle.pl_script.specs.declared.script.Event.{Event}
use Rattle.pl_script.specs.declared.script.Script.{Script}
use Rattle.law_loads.specs.Opening.{Opened, ended, wanted}
use Rattle.law_loads.specs.Runs.{progress}
use Rattle.law_loads.specs.Weaving.{woven}
use Rattle.pl_safe.specs.Texts.{Starting, WeavesPrintLoads, WeavesPrintOrdinary, linked_from, loaded_from, seen_file, text_from, texts_from, weave_from}
use Rattle.law_loads.proofs.CopyLaws.{copied_is_kept, copies_keep}
use Rattle.law_loads.proofs.FinishedLaws.{finished_load, finished_ordinary, woven_count}

-- ---- loader by loader

-- each loader prints so
abbrev PrintsSo : Starting → List (List ℕ) → List (Opened (Unit {0})) → Type 0
PrintsSo starts names os = (k : ℕ) (name : List ℕ) (o : Opened (Unit {0})) → slice_get names k ≡ Some name → slice_get os k ≡ Some o → wanted o ≡ None → start_text (because causes.Load (ended lowest o)) ≡ start_text (starts name o.seen)

one_text : (starts : Starting) (name : List ℕ) (o : Opened (Unit {0})) → (wanted o ≡ None → start_text (because causes.Load (ended lowest o)) ≡ start_text (starts name o.seen)) → loader_text lowest o ≡ text_from starts name o.seen (wanted o)
one_text starts name o prints = by (wanted o) refl
  where
    by : (next : Option (List ℕ)) → wanted o ≡ next → state_by lowest o next ≡ text_from starts name o.seen next
    by None is = prints is
    by (Some next) is = refl

same_texts : (starts : Starting) (number : ℕ) (names : List (List ℕ)) (os : List (Opened (Unit {0}))) → length os ≡ length names → PrintsSo starts names os → loaders_text lowest number os ≡ texts_from starts number names os
same_texts starts number [] [] count prints = refl
same_texts starts number [] (o ∷ os) count prints = absurd (omega (arith, count))
same_texts starts number (name ∷ names) [] count prints = refl
same_texts starts number (name ∷ names) (o ∷ os) count prints =
    ap (λ (text : List ℕ). loader_line number ++ (text ++ loaders_text lowest (number + 1) os)) (one_text starts name o (prints 0 name o refl refl))
    ∙ ap (λ (texts : List ℕ). loader_line number ++ (text_from starts name o.seen (wanted o) ++ texts)) (same_texts starts (number + 1) names os (omega (arith, count)) (λ k. prints (suc k)))

-- ---- a weave

module _ (starts : Starting) (files : Files) (names : List (List ℕ)) (runs : List Run) (events : List Event) where
  pub same_weave : PrintsSo starts names (woven lowest files names runs events).loaders → loaders_text lowest 0 (woven lowest files names runs events).loaders ++ (runs_text 0 (progress (woven lowest files names runs events).runs) ++ end_line) ≡ weave_from starts names (woven lowest files names runs events)
  same_weave prints =
      ap (λ (text : List ℕ). text ++ (runs_text 0 (progress (woven lowest files names runs events).runs) ++ end_line)) (same_texts starts 0 names (woven lowest files names runs events).loaders (woven_count files names runs events) prints)

-- each loader of it that has finished starts from the load of the files that it saw
loads_so : (files : Files) (names : List (List ℕ)) (runs : List Run) (events : List Event) → PrintsSo loaded_from names (woven lowest files names runs events).loaders
loads_so files names runs events k name o named there done = ap start_text (finished_load files names runs events causes.Load (seen_file o.seen) k name o (λ n. refl) named there done)

same_start_text : (r q : Result Start Cause) → SameAnswer r q → start_text r ≡ start_text q
same_start_text (Ok a) (Ok b) same = start_same a b same
same_start_text (Ok a) (Err e) same = absurd same
same_start_text (Err e) (Ok b) same = absurd same
same_start_text (Err e) (Err f) same = ap (λ (c : Cause). start_text (Err c)) same

-- or, by the rule, from what plain linking gives
links_so : (files : Files) (names : List (List ℕ)) (runs : List Run) (events : List Event) → KeepsTheRule (get files) → IsPastAll (get files) → PrintsSo linked_from names (woven lowest files names runs events).loaders
links_so files names runs events rule past k name o named there done =
    same_start_text (because causes.Load (ended lowest o)) (linked_from name o.seen)
    (finished_ordinary files names runs events causes.Load (seen_file o.seen) k name o (λ n. refl) rule past named there done)

-- ---- the command

same_runs : (starts : Starting) (s : Script) (copy : Files) → ((asked : List Run) → PrintsSo starts s.loads (woven lowest copy s.loads asked s.events).loaders)
    → (asked : Result (List Run) Cause) → (asked >>= λ runs. Ok (text_by lowest s runs copy)) ≡ (asked >>= λ runs. Ok (weave_from starts s.loads (woven lowest copy s.loads runs s.events)))
same_runs starts s copy prints (Err cause) = refl
same_runs starts s copy prints (Ok asked) = ap (λ (text : List ℕ). Ok text) (same_weave starts copy s.loads asked s.events (prints asked))

same_copy : (starts : Starting) (s : Script) (found : Result Files batch.Cause) → ((copy : Files) (asked : List Run) → found ≡ Ok copy → PrintsSo starts s.loads (woven lowest copy s.loads asked s.events).loaders)
    → (because of_batch found >>= λ copy. runs_of copy s.runs >>= λ asked. Ok (text_by lowest s asked copy)) ≡ (because of_batch found >>= λ copy. runs_of copy s.runs >>= λ asked. Ok (weave_from starts s.loads (woven lowest copy s.loads asked s.events)))
same_copy starts s (Err cause) prints = refl
same_copy starts s (Ok copy) prints = same_runs starts s copy (λ asked. prints copy asked refl) (runs_of copy s.runs)

same_script : (starts : Starting) (files : Files) (read : Result Script Cause) → ((s : Script) (copy : Files) (asked : List Run) → copied files ≡ Ok copy → PrintsSo starts s.loads (woven lowest copy s.loads asked s.events).loaders)
    → (read >>= λ s. because of_batch (copied files) >>= λ copy. runs_of copy s.runs >>= λ asked. Ok (text_by lowest s asked copy)) ≡ (read >>= λ s. because of_batch (copied files) >>= λ copy. runs_of copy s.runs >>= λ asked. Ok (weave_from starts s.loads (woven lowest copy s.loads asked s.events)))
same_script starts files (Err cause) prints = refl
same_script starts files (Ok s) prints = same_copy starts s (copied files) (prints s)

pub weaves_print_loads : WeavesPrintLoads
unfolding weaves
weaves_print_loads input files = same_script loaded_from files (script_in input) (λ s copy asked is. loads_so copy s.loads asked s.events)

pub weaves_print_ordinary : WeavesPrintOrdinary
unfolding weaves
weaves_print_ordinary input files rule past =
    let holds = copies_keep files rule past in
    same_script linked_from files (script_in input) (λ s copy asked is.
    let same : copy ≡ kept files = copied_is_kept files copy is in
    links_so copy s.loads asked s.events (subst (λ (c : Files). KeepsTheRule (get c)) (sym same) holds.0) (subst (λ (c : Files). IsPastAll (get c)) (sym same) holds.1))
