-- A folder in memory in which runs go on stands for them.
use Rattle.std.proofs.Common.{◌≡◌, ◌≢◌, ◌∙◌, ◌+◌, ◌-◌, ◌<◌, ◌≤◌, ℕ, zero, suc, List, [], ◌∷◌, ◌++◌, length, map, take, drop, get_or, Result, Ok, Err, Bool, true, false, refl, sym, ap, subst, append_assoc, arith}
use Rattle.std.specs.Prelude.{nat_lt, if◌then◌else◌}
use Rattle.std.specs.Borrow.{Bor}
use Rattle.std.specs.FinMap.{get}
use Rattle.std.proofs.lemmas.Bool.{lt-ltb, le-ltb}
use Rattle.std.proofs.lemmas.List.{append-nil}
use Rattle.pl_base.specs.Files.{Files}
use Rattle.pl_change.specs.declared.cause.Cause.{Cause}
use Rattle.pl_batch.specs.declared.run.Run.{Run}
use Rattle.pl_journal.specs.Parts.{ReadsDone}
use Rattle.pl_journal.specs.declared.change.Change.{Change}
use Rattle.pl_journal.specs.declared.step.Step.{Step}
use Rattle.pl_weave.specs.Running.{AreRuns, Begins, GoesOn, Idles, IsUnderWay, Stands, StandsBy, Works, files_in}
use Rattle.pl_weave.specs.Runs.{Runs, begun, begun_by, progress, renamed, renamed_by, run_rows, under_way, with_row}
use Rattle.pl_weave.specs.declared.progress.Progress.{Progress}
use Rattle.pl_weave.specs.declared.progress.Progress.TheVariants.{Waits, Refused, Does}
use Rattle.pl_weave.specs.declared.running.Running.{Running}
use Rattle.pl_weave.proofs.UnderWayLemmas.{left_count, reads_done}

-- ---- a run begins

begun_is : (files : Files) (finished : List Progress) (run : Run) (rest : List Run) (r : Result (List Change) Cause) → run_rows run files ≡ r → begun files finished (run ∷ rest) ≡ begun_by files finished rest (λ more. begun files more rest) r
begun_is files finished run rest r is = ap (begun_by files finished rest (λ more. begun files more rest)) is

-- one that has no rows has finished, and the next one begins
pub begins_more : (files : Files) (finished : List Progress) (run : Run) (rest : List Run) (old new : Running) → old.finished ≡ finished → Begins (run_rows run files) files old new → length new.steps ≤ new.done → Idles files new × (begun files new.finished rest ≡ begun files finished (run ∷ rest))
begins_more files finished run rest old new was begins none = by (run_rows run files) refl begins
  where
    with_more : (p : Progress) → new.finished ≡ old.finished ++ p ∷ [] → begun files new.finished rest ≡ begun files (finished ++ p ∷ []) rest
    with_more p is = ap (λ (f : List Progress). begun files f rest) (is ∙ ap (λ (f : List Progress). f ++ p ∷ []) was)

    by : (r : Result (List Change) Cause) → run_rows run files ≡ r → Begins r files old new → Idles files new × (begun files new.finished rest ≡ begun files finished (run ∷ rest))
    by (Err cause) is b = (b.0, with_more (Refused cause) b.1 ∙ sym (begun_is files finished run rest (Err cause) is))
    by (Ok []) is b = (b.0, with_more (Does 0 0) b.1 ∙ sym (begun_is files finished run rest (Ok []) is))
    by (Ok (row ∷ rows)) is b = absurd (omega (arith, none, b.0.some))

idle_none : (files : Files) (m : Running) → Idles files m → length m.steps ≡ 0
idle_none files m idle = ap (λ steps. length steps) idle.steps

-- one that has rows is under way
pub begins_works : (files : Files) (finished : List Progress) (run : Run) (rest : List Run) (old new : Running) (w : Bor (List Run)) → old.finished ≡ finished → Begins (run_rows run files) files old new → new.done < length new.steps → w.now ≡ rest → AreRuns rest
    → Stands (record new { waiting = w }) (begun files finished (run ∷ rest))
begins_works files finished run rest old new w was begins some waits runs = by (run_rows run files) refl begins
  where
    by : (r : Result (List Change) Cause) → run_rows run files ≡ r → Begins r files old new → Stands (record new { waiting = w }) (begun files finished (run ∷ rest))
    by (Err cause) is b = absurd (omega (arith, some, idle_none files new b.0))
    by (Ok []) is b = absurd (omega (arith, some, idle_none files new b.0))
    by (Ok (row ∷ rows)) is b = subst (λ (r : Runs). Stands (record new { waiting = w }) r) (sym (begun_is files finished run rest (Ok (row ∷ rows)) is)) (record {
      finished = b.1 ∙ was;
      waiting = waits;
      done = b.2;
      folder = record { under_way = b.0.under_way; some = b.0.some };
      runs = runs;
    })

-- ---- the parts of it

pub idles_same : (files : Files) (old new : Running) → files_in new.held ≡ files_in old.held → new.steps ≡ old.steps → new.done ≡ old.done → Idles files old → Idles files new
idles_same files old new held steps done idle = record { same = held ∙ idle.same; no_own = idle.no_own; stored = idle.stored; steps = steps ∙ idle.steps; done = done ∙ idle.done }

pub begins_none : (files : Files) (old new : Running) (rows : List Change) → rows ≡ [] → Idles files new → new.finished ≡ old.finished ++ Does 0 0 ∷ [] → Begins (Ok rows) files old new
begins_none files old new rows none idle finished = subst (λ (xs : List Change). Begins (Ok xs) files old new) (sym none) (idle, finished)

pub begins_some : (files : Files) (old new : Running) (rows : List Change) → rows ≢ [] → IsUnderWay new.steps 0 rows files (files_in new.held) → new.done ≡ 0 → new.finished ≡ old.finished → Begins (Ok rows) files old new
begins_some files old new [] some u done finished = absurd (some refl)
begins_some files old new (row ∷ rows) some u done finished = (
  record {
    under_way = subst (λ (k : ℕ). IsUnderWay new.steps k (row ∷ rows) files (files_in new.held)) (sym done) u;
    some = omega (arith, done, left_count u);
  },
  finished,
  done,
)

pub begins_refused : (files : Files) (old new : Running) (cause : Cause) → Idles files new → new.finished ≡ old.finished ++ Refused cause ∷ [] → Begins (Err cause) files old new
begins_refused files old new cause idle finished = (idle, finished)

-- what came before counts by what has finished alone
pub begins_from : (files : Files) (mid old new : Running) (r : Result (List Change) Cause) → mid.finished ≡ old.finished → Begins r files mid new → Begins r files old new
begins_from files mid old new (Err cause) same b = (b.0, b.1 ∙ ap (λ (f : List Progress). f ++ Refused cause ∷ []) same)
begins_from files mid old new (Ok []) same b = (b.0, b.1 ∙ ap (λ (f : List Progress). f ++ Does 0 0 ∷ []) same)
begins_from files mid old new (Ok (row ∷ rows)) same b = (b.0, b.1 ∙ same, b.2)

-- the rows begin over the files that the folder has
pub under_way_of : (files held new : Files) (rows : List Change) (steps : List Step) → held ≡ files → IsUnderWay steps 0 rows held new → IsUnderWay steps 0 rows files new
under_way_of files held new rows steps same u = subst (λ (f : Files). IsUnderWay steps 0 rows f new) same u

-- no run waits
pub rests_stands : (files : Files) (m : Running) (w : Bor (List Run)) → Idles files m → w.now ≡ [] → Stands (record m { waiting = w }) (begun files m.finished [])
rests_stands files m w idle none = record {
  finished = refl;
  waiting = none;
  done = idle.done;
  folder = record { same = idle.same; no_own = idle.no_own; stored = idle.stored; steps = idle.steps; done = idle.done };
  runs = tt;
}

-- ---- a row more

-- what is left of a run under way
pub record LeftOf (m : Running) (r : Runs) : Type 0 where
  pub row : Change
  pub rows : List Change
  pub left_is : r.left ≡ row ∷ rows
  pub works : Works (row ∷ rows) r.files m

pub left_of : (m : Running) (r : Runs) → Stands m r → m.done < length m.steps → LeftOf m r
left_of m r stands some = by r.left refl stands.folder
  where
    by : (left : List Change) → r.left ≡ left → StandsBy left r.files m → LeftOf m r
    by [] is idle = absurd (omega (arith, some, idle_none r.files m idle))
    by (row ∷ rows) is works = record { row = row; rows = rows; left_is = is; works = works }

-- the folder is one whose next row can be done
pub goes_done : (m : Running) → GoesOn m → m.done < length m.steps → ReadsDone m.steps m.done (get (files_in m.held))
goes_done m goes some = reads_done (left_of m goes.0 goes.1 some).works.under_way

-- without a run under way nothing is done
pub stands_still : (m : Running) (r : Runs) → length m.steps ≤ m.done → Stands m r → Stands m (renamed r)
stands_still m r none stands = by r.left refl stands.folder
  where
    by : (left : List Change) → r.left ≡ left → StandsBy left r.files m → Stands m (renamed r)
    by [] is idle = subst (λ (left : List Change). Stands m (renamed_by r left)) (sym is) stands
    by (row ∷ rows) is works = absurd (omega (arith, none, works.some))

-- with a row more that is not the last
pub stands_on : (old new : Running) (r : Runs) (it : LeftOf old r) → Stands old r → IsUnderWay new.steps new.done it.rows (with_row r.files it.row) (files_in new.held) → new.done ≡ old.done + 1 → new.finished ≡ old.finished → new.waiting ≡ old.waiting → new.done < length new.steps
    → Stands new (renamed r)
stands_on old new r it stands u done finished waiting some = by it.rows refl u
  where
    by : (rows : List Change) → it.rows ≡ rows → IsUnderWay new.steps new.done rows (with_row r.files it.row) (files_in new.held) → Stands new (renamed r)
    by [] is u = absurd (omega (arith, some, left_count u))
    by (more ∷ rows) is u = subst (λ (left : List Change). Stands new (renamed_by r left)) (sym (it.left_is ∙ ap (λ (xs : List Change). it.row ∷ xs) is)) (record {
      finished = finished ∙ stands.finished;
      waiting = ap (λ (w : Bor (List Run)). w.now) waiting ∙ stands.waiting;
      done = done ∙ ap (λ n. n + 1) stands.done;
      folder = record { under_way = u; some = some };
      runs = stands.runs;
    })

-- with the last row nothing is left
pub last_left : (new : Running) (r : Runs) (row : Change) (rows : List Change) → IsUnderWay new.steps new.done rows (with_row r.files row) (files_in new.held) → length new.steps ≤ new.done → rows ≡ []
last_left new r row [] u none = refl
last_left new r row (more ∷ rows) u none = absurd (omega (arith, none, left_count u))

-- the run has finished, and the next one begins
pub renamed_last : (old : Running) (r : Runs) (it : LeftOf old r) (ended : Running) → it.rows ≡ [] → Stands old r → ended.finished ≡ old.finished ++ Does (old.done + 1) (old.done + 1) ∷ [] → ended.waiting ≡ old.waiting
    → begun (with_row r.files it.row) ended.finished ended.waiting.now ≡ renamed r
renamed_last old r it ended last stands finished waiting =
    ap (λ (w : Bor (List Run)). begun (with_row r.files it.row) ended.finished w.now) waiting
    ∙ ap (λ (w : List Run). begun (with_row r.files it.row) ended.finished w) stands.waiting
    ∙ ap (λ (f : List Progress). begun (with_row r.files it.row) f r.waiting) (finished ∙ ap (λ (f : List Progress). f ++ Does (old.done + 1) (old.done + 1) ∷ []) stands.finished ∙ ap (λ (n : ℕ). r.finished ++ Does (n + 1) (n + 1) ∷ []) stands.done)
    ∙ sym (ap (renamed_by r) (it.left_is ∙ ap (λ (xs : List Change). it.row ∷ xs) last))

-- ---- the first of a list, and those behind it

take_whole : {A : Type 0} (xs : List A) (n : ℕ) → n ≡ length xs → take n xs ≡ xs
take_whole [] zero is = refl
take_whole [] (suc n) is = absurd (omega (arith, is))
take_whole (x ∷ xs) zero is = absurd (omega (arith, is))
take_whole (x ∷ xs) (suc n) is = ap (λ (ys : List _). x ∷ ys) (take_whole xs n (omega (arith, is)))

pub head_rest : {A : Type 0} (xs : List A) (d : A) → 1 ≤ length xs → xs ≡ get_or xs 0 d ∷ take (length xs - 1) (drop 1 xs)
head_rest [] d some = absurd (omega (arith, some))
head_rest (x ∷ xs) d some = ap (λ (ys : List _). x ∷ ys) (sym (take_whole xs (length (x ∷ xs) - 1) (omega arith)))

-- ---- what is told

-- one run more that waits
pub waits_push : (xs : List Run) (i : ℕ) → i < length xs → map (λ (run : Run). Waits) (take (i + 1) xs) ≡ map (λ (run : Run). Waits) (take i xs) ++ Waits ∷ []
waits_push [] i lt = absurd (omega (arith, lt))
waits_push (x ∷ xs) zero lt = refl
waits_push (x ∷ xs) (suc i) lt =
    let later : suc i + 1 ≡ suc (i + 1) = omega arith in
    ap (λ (n : ℕ). map (λ (run : Run). Waits) (take n (x ∷ xs))) later ∙ ap (λ (ps : List Progress). Waits ∷ ps) (waits_push xs i (omega (arith, lt)))

pub told_is : (m : Running) (r : Runs) (mid told : List Progress) → Stands m r → mid ≡ m.finished ++ (if nat_lt m.done (length m.steps) then Does m.done (length m.steps) ∷ [] else []) → told ≡ mid ++ map (λ run. Waits) m.waiting.now → told ≡ progress r
told_is m r mid told stands was is =
    is
    ∙ ap (λ (xs : List Progress). xs ++ map (λ run. Waits) m.waiting.now) (was ∙ ap (λ (xs : List Progress). xs ++ here) stands.finished ∙ ap (λ (xs : List Progress). r.finished ++ xs) (by r.left refl stands.folder))
    ∙ ap (λ (w : List Run). (r.finished ++ under_way r r.left) ++ map (λ run. Waits) w) stands.waiting
    ∙ simp append_assoc
  where
    here : List Progress
    here = if nat_lt m.done (length m.steps) then Does m.done (length m.steps) ∷ [] else []

    by : (left : List Change) → r.left ≡ left → StandsBy left r.files m → here ≡ under_way r r.left
    by [] left_is idle =
        let none : nat_lt m.done (length m.steps) ≡ false = le-ltb m.done (length m.steps) (omega (arith, idle_none r.files m idle)) in
        ap (λ (b : Bool). if b then Does m.done (length m.steps) ∷ [] else []) none ∙ sym (ap (under_way r) left_is)
    by (row ∷ rows) left_is works =
        let some : nat_lt m.done (length m.steps) ≡ true = lt-ltb m.done (length m.steps) works.some in
        ap (λ (b : Bool). if b then Does m.done (length m.steps) ∷ [] else []) some
        ∙ ap (λ (n : ℕ). Does m.done n ∷ []) (left_count works.under_way)
        ∙ ap (λ (n : ℕ). Does n (n + length (row ∷ rows)) ∷ []) stands.done
        ∙ sym (ap (under_way r) left_is)
