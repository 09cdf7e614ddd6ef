-- What holds of every script: its lines are none of them wrong.
use Rattle.std.proofs.Common.{◌≡◌, ◌∙◌, ℕ, zero, suc, ◌+◌, ◌<◌, ◌≤◌, Bool, true, false, refl, sym, ap, subst, cond, arith, List, [], ◌∷◌, length, take, map, get_or, Option, Some, None, Result, Ok, Err, inl, inr}
use Rattle.std.specs.Prelude.{IfOk, nat_lt}
use Rattle.std.specs.List.{count_by, flat_map, list_all, range_with_len}
use Rattle.std.proofs.Math.Seq.{take-length}
use Rattle.std.proofs.lemmas.Bool.{cases_Bool, false≢true, false_from_ne_true}
use Rattle.std.proofs.lemmas.Bool.Decides.{nat_tests}
use Rattle.std.proofs.lemmas.List.Folds.{list_all_more, list_any_at}
use Rattle.std.proofs.lemmas.List.FromFn.{get_or-range_with_len, length-range_with_len}
use Rattle.std.proofs.lemmas.List.Recursion.{is_count_by}
use Rattle.std.proofs.lemmas.List.Sums.{count_by_more_no, count_by_more_yes}
use Rattle.std.proofs.lemmas.Option.{slice_get-get_or}
use Rattle.pl_base.specs.Answers.{Answers}
use Rattle.pl_base.proofs.FindLaws.{any_missed}
use Rattle.pl_base.proofs.AnswerLaws.{ok_same}
use Rattle.pl_script.specs.declared.TheConstants.{MAX_LOADERS, MAX_RUNS}
use Rattle.pl_script.specs.declared.line.Line.{Line}
use Rattle.pl_script.specs.declared.line.Line.TheVariants.{Wrong, Load, Runs, Open, Rename}
use Rattle.pl_script.specs.declared.script.Script.{Script}
use Rattle.pl_script.specs.declared.fault.ScriptFault.{ScriptFault}
use Rattle.pl_script.specs.Grammar.{line, lines_of}
use Rattle.pl_script.specs.Limits.{first_wrong, is_load, is_run, is_wrong, is_wrong_at, is_wrong_in, loaders}
use Rattle.pl_script.specs.Script.{IsScript, events_of, gathered, is_memory, is_of, loads_of, runs_of, script, script_of, wrong_at}
use Rattle.pl_script.proofs.NamedLaws.{all_named, is_named, loads_named, runs_named}

-- ---- a line that is not wrong

not_wrong_at : (lines : List Line) (i : ℕ) → i < length lines → first_wrong lines ≡ None → is_wrong_at (loaders lines) lines i ≡ false
unfolding first_wrong
not_wrong_at lines i lt none = false_from_ne_true (is_wrong_at (loaders lines) lines i) (λ wrong.
    let at : get_or (range_with_len 0 (length lines)) i 0 ≡ i = get_or-range_with_len 0 (length lines) i 0 lt ∙ omega arith in
    let hit = list_any_at (is_wrong_at (loaders lines) lines) (range_with_len 0 (length lines)) i 0 (omega (arith, length-range_with_len 0 (length lines))) (ap (is_wrong_at (loaders lines) lines) at ∙ wrong) in
    false≢true (sym (any_missed (is_wrong_at (loaders lines) lines) (range_with_len 0 (length lines)) none) ∙ hit))

not_wrong : (lines : List Line) (i : ℕ) (d : Line) → i < length lines → first_wrong lines ≡ None → is_wrong (loaders lines) (take i lines) (get_or lines i d) ≡ false
unfolding is_wrong_at
not_wrong lines i d lt none = sym (ap (is_wrong_in (loaders lines) (take i lines)) (slice_get-get_or lines i d lt)) ∙ not_wrong_at lines i lt none

within_loads : (made : ℕ) (before : List Line) (l : Line) → is_load l ≡ true → is_wrong made before l ≡ false → count_by is_load before < MAX_LOADERS
unfolding is_wrong
within_loads made before Wrong load fine = absurd (false≢true load)
within_loads made before (Load name) load fine = grind (arith, nat_tests)
within_loads made before (Runs run) load fine = absurd (false≢true load)
within_loads made before (Open loader) load fine = absurd (false≢true load)
within_loads made before Rename load fine = absurd (false≢true load)

within_runs : (made : ℕ) (before : List Line) (l : Line) → is_run l ≡ true → is_wrong made before l ≡ false → count_by is_run before < MAX_RUNS
unfolding is_wrong
within_runs made before Wrong run fine = absurd (false≢true run)
within_runs made before (Load name) run fine = absurd (false≢true run)
within_runs made before (Runs r) run fine = grind (arith, nat_tests)
within_runs made before (Open loader) run fine = absurd (false≢true run)
within_runs made before Rename run fine = absurd (false≢true run)

-- the events of a line are of loaders that are made
abbrev opens_made : ℕ → Line → Bool
opens_made made l = list_all (is_of made) (events_of l)

made_open : (made : ℕ) (before : List Line) (l : Line) → is_wrong made before l ≡ false → opens_made made l ≡ true
unfolding is_wrong
made_open made before Wrong fine = refl
made_open made before (Load name) fine = refl
made_open made before (Runs run) fine = refl
made_open made before (Open loader) fine = let below : nat_lt loader made ≡ true = grind (arith, nat_tests) in rw below refl
made_open made before Rename fine = refl

-- ---- so many lines

record IsWithin (lines : List Line) (n : ℕ) : Type 0 where
  loads : count_by is_load (take n lines) ≤ MAX_LOADERS
  runs : count_by is_run (take n lines) ≤ MAX_RUNS
  opens : list_all (opens_made (loaders lines)) (take n lines) ≡ true

count_more : (p : Line → Bool) (lines : List Line) (n most : ℕ) (d : Line) → n < length lines → count_by p (take n lines) ≤ most → (p (get_or lines n d) ≡ true → count_by p (take n lines) < most) → count_by p (take (n + 1) lines) ≤ most
count_more p lines n most d lt so_far room = elim (cases_Bool (p (get_or lines n d))) [
  | inl hit ↦ omega (arith, count_by_more_yes p lines n d lt hit, room hit)
  | inr miss ↦ omega (arith, count_by_more_no p lines n d lt miss, so_far)
]

within_more : (lines : List Line) (n : ℕ) → first_wrong lines ≡ None → n < length lines → IsWithin lines n → IsWithin lines (n + 1)
within_more lines n none lt so_far =
    let fine = not_wrong lines n Wrong lt none in
    let at = get_or lines n Wrong in
    record {
      loads = count_more is_load lines n MAX_LOADERS Wrong lt so_far.loads (λ load. within_loads (loaders lines) (take n lines) at load fine);
      runs = count_more is_run lines n MAX_RUNS Wrong lt so_far.runs (λ run. within_runs (loaders lines) (take n lines) at run fine);
      opens = list_all_more (opens_made (loaders lines)) lines n Wrong lt ∙ rw (so_far.opens, made_open (loaders lines) (take n lines) at fine) refl;
    }

within : (lines : List Line) (n : ℕ) → first_wrong lines ≡ None → n ≤ length lines → IsWithin lines n
within lines zero none le = record { loads = omega arith; runs = omega arith; opens = refl }
within lines (suc n) none le = subst (IsWithin lines) (omega arith) (within_more lines n none (omega arith) (within lines n none (omega arith)))

-- ---- what lines ask for

load_counted : (l : Line) (lines : List Line) → length (flat_map loads_of (l ∷ lines)) ≡ cond (is_load l) (1 + length (flat_map loads_of lines)) (length (flat_map loads_of lines))
load_counted Wrong lines = refl
load_counted (Load name) lines = omega arith
load_counted (Runs run) lines = refl
load_counted (Open loader) lines = refl
load_counted Rename lines = refl

loads_counted : (lines : List Line) → length (flat_map loads_of lines) ≡ count_by is_load lines
loads_counted lines = is_count_by (λ ls. length (flat_map loads_of ls)) is_load refl load_counted lines

run_counted : (l : Line) (lines : List Line) → length (flat_map runs_of (l ∷ lines)) ≡ cond (is_run l) (1 + length (flat_map runs_of lines)) (length (flat_map runs_of lines))
run_counted Wrong lines = refl
run_counted (Load name) lines = refl
run_counted (Runs run) lines = omega arith
run_counted (Open loader) lines = refl
run_counted Rename lines = refl

runs_counted : (lines : List Line) → length (flat_map runs_of lines) ≡ count_by is_run lines
runs_counted lines = is_count_by (λ ls. length (flat_map runs_of ls)) is_run refl run_counted lines

events_made : (made : ℕ) (lines : List Line) → list_all (opens_made made) lines ≡ true → list_all (is_of made) (flat_map events_of lines) ≡ true
events_made made [] opens = refl
events_made made (Wrong ∷ lines) opens = events_made made lines opens
events_made made (Load name ∷ lines) opens = events_made made lines opens
events_made made (Runs run ∷ lines) opens = events_made made lines opens
events_made made (Open loader ∷ lines) opens = elim (cases_Bool (nat_lt loader made)) [
  | inl below ↦ rw below (events_made made lines (rw below at opens))
  | inr past ↦ absurd (false≢true (rw past at opens))
]
events_made made (Rename ∷ lines) opens = events_made made lines opens

-- all that are made are there
made_all : (lines : List Line) → count_by is_load lines ≤ MAX_LOADERS → loaders lines ≡ length (flat_map loads_of lines)
unfolding loaders
made_all lines few = omega (arith, loads_counted lines, few)

gathered_fine : (lines : List Line) → list_all is_named lines ≡ true → first_wrong lines ≡ None → IsScript (gathered lines)
unfolding gathered
gathered_fine lines named none =
    let all : IsWithin lines (length lines) = within lines (length lines) none (omega arith) in
    let loads : count_by is_load lines ≤ MAX_LOADERS = subst (λ ls. count_by is_load ls ≤ MAX_LOADERS) (take-length lines) all.loads in
    let runs : count_by is_run lines ≤ MAX_RUNS = subst (λ ls. count_by is_run ls ≤ MAX_RUNS) (take-length lines) all.runs in
    let opens : list_all (opens_made (loaders lines)) lines ≡ true = subst (λ ls. list_all (opens_made (loaders lines)) ls ≡ true) (take-length lines) all.opens in
    record {
      loads = loads_named lines named;
      runs = runs_named lines named;
      events = subst (λ made. list_all (is_of made) (flat_map events_of lines) ≡ true) (made_all lines loads) (events_made (loaders lines) lines opens);
      few_loads = omega (arith, loads_counted lines, loads);
      few_runs = omega (arith, runs_counted lines, runs);
    }

script_fine : (lines : List Line) (s : Script) → list_all is_named lines ≡ true → script_of lines ≡ Ok s → IsScript s
unfolding script_of
script_fine lines s named is = go (first_wrong lines) refl
  where
    go : (found : Option ℕ) → first_wrong lines ≡ found → IsScript s
    go None none = subst IsScript (ok_same (gathered lines) s (rw none at is)) (gathered_fine lines named none)
    go (Some index) some = absurd (let none : ◌≡◌ {A = Result Script ScriptFault} (Err (wrong_at index)) (Ok s) = rw some at is in cc)

-- what is read of a text
pub is_script : (text : List ℕ) (result : Result Script ScriptFault) → Answers is_memory result (script text) → IfOk result IsScript
unfolding script
is_script text (Ok s) answers = script_fine (map line (lines_of text)) s (all_named (lines_of text)) answers
is_script text (Err fault) answers = tt
