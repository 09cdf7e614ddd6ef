-- The history of a weave's folder.
use Rattle.std.proofs.Common.{◌≡◌, ◌∙◌, ℕ, zero, suc, true, cond, List, [], ◌∷◌, ◌++◌, map, Option, Some, None, Result, Ok, Err, refl, sym, ap, subst, inl, inr}
use Rattle.std.specs.Prelude.{◌⊎◌, fold, slice_get}
use Rattle.std.specs.FinMap.{get}
use Rattle.pl_base.specs.Files.{Files}
use Rattle.pl_base.specs.Names.{is_valid_name}
use Rattle.pl_batch.specs.Changes.{run_meant}
use Rattle.pl_change.specs.declared.cause.Cause.{Cause}
use Rattle.pl_batch.specs.declared.run.Run.{Run}
use Rattle.pl_conflict.specs.Format.{format}
use Rattle.pl_conflict.proofs.FormatLaws.{format_kept}
use Rattle.law_folder.specs.Sound.{KeepsTheRule, named}
use Rattle.law_folder.specs.Steps.{HasLast, IsPastAll}
use Rattle.law_folder.proofs.StepLemmas.{runs_steps}
use Rattle.law_folder.proofs.WholeLemmas.{runs_safe}
use Rattle.pl_folder.specs.Disk.{View}
use Rattle.pl_journal.specs.Meaning.{rows_for}
use Rattle.pl_journal.specs.Spelling.{differ, name_of}
use Rattle.pl_journal.specs.declared.change.Change.{Change}
use Rattle.pl_rewrite.specs.Skipped.{skip_causes}
use Rattle.pl_place.specs.Policy.{Choice}
use Rattle.pl_rewrite.specs.History.{Happened}
use Rattle.pl_script.specs.declared.script.Event.{Event}
use Rattle.pl_script.specs.declared.script.Event.TheVariants.{Open, Rename}
use Rattle.law_sound.specs.History.{Held}
use Rattle.law_sound.specs.Rule as sound
use Rattle.law_sound.proofs.Theorems.{histories}
use Rattle.pl_weave.specs.Opening.{Opened, led_to, opened, seen_of, taken_as, wanted}
use Rattle.pl_weave.specs.Runs.{Runs, begun, begun_by, renamed, renamed_by, run_rows, with_row}
use Rattle.pl_weave.specs.declared.progress.Progress.{Progress}
use Rattle.pl_weave.specs.declared.progress.Progress.TheVariants.{Does, Refused}
use Rattle.pl_weave.proofs.QuietLemmas.{rows_meant}
use Rattle.pl_weave.specs.Taking.{held_file}
use Rattle.pl_weave.specs.Weaving.{Weaving, after, opened_at, opened_by, opened_once, woven}
use Rattle.pl_weave.specs.declared.seen.Seen.{Seen}
use Rattle.pl_loader.specs.Loading.{Loading}
use Rattle.pl_loader.specs.declared.fault.LoadFault.{LoadFault}
use Rattle.law_loads.specs.Weaves.{HasHistory, SawFile, WovenHaveAHistory}
use Rattle.law_loads.proofs.RowLemmas.{applied_is, first_done, first_stands, made, rest_apart, rows_apart}

-- ---- moments

held_now : (now : sound.Files) (past : List sound.Files) (n file : List ℕ) → now n ≡ Some file → Held now past n file
held_now now [] n file there = there
held_now now (before ∷ past) n file there = inl there

-- the folder of now keeps the rule
rule_now : (v : View) (past : List sound.Files) (last : ℕ) → Happened (named v) past last → KeepsTheRule v
rule_now v past last happened = (histories (format skip_causes) (format_kept skip_causes) (named v) past last happened).1 (named v) (held_now (named v) past)

-- ---- runs

-- a history up to the run under way as if all its rows were made, in which what was held before was held, and each file that stands now was
record Goes (r : Runs) (begin : sound.Files) (before : List sound.Files) : Type 0 where
  past : List sound.Files
  last : ℕ
  happened : Happened (named (made r.left (get r.files))) past last
  has : HasLast (made r.left (get r.files)) last
  apart : differ name_of (rows_for r.left) ≡ true
  held : (n file : List ℕ) → named (get r.files) n ≡ Some file → Held (named (made r.left (get r.files))) past n file
  keeps : (n file : List ℕ) → Held begin before n file → Held (named (made r.left (get r.files))) past n file

-- a run begins, or those that wait finish at once
goes_begun : (files : Files) (finished : List Progress) (runs : List Run) (past : List sound.Files) (last : ℕ) → Happened (named (get files)) past last → HasLast (get files) last → Goes (begun files finished runs) (named (get files)) past
goes_begun files finished [] past last happened has = record {
  past = past;
  last = last;
  happened = happened;
  has = has;
  apart = refl;
  held = held_now (named (get files)) past;
  keeps = λ n file h. h;
}
goes_begun files finished (run ∷ runs) past last happened has = by (λ more. goes_begun files more runs past last happened has) (run_rows run files) refl
  where
    by : ((more : List Progress) → Goes (begun files more runs) (named (get files)) past) → (r : Result (List Change) Cause) → run_rows run files ≡ r
        → Goes (begun_by files finished runs (λ more. begun files more runs) r) (named (get files)) past
    by next (Err cause) is = next (finished ++ Refused cause ∷ [])
    by next (Ok []) is = next (finished ++ Does 0 0 ∷ [])
    by next (Ok (row ∷ rows)) rows_are =
        let is : run_meant run files ≡ Ok (row ∷ rows) = rows_meant run files (row ∷ rows) rows_are in
        let step = runs_steps run files (row ∷ rows) last (rule_now (get files) past last happened) has is in
        let made_all = applied_is (row ∷ rows) (get files) in
        record {
          past = named (get files) ∷ past;
          last = step.0;
          happened = subst (λ (v : View). Happened (named v) (named (get files) ∷ past) step.0) made_all (last, happened, step.2);
          has = subst (λ (v : View). HasLast v step.0) made_all step.1;
          apart = rows_apart (row ∷ rows) ((runs_safe run).fits files (row ∷ rows) is);
          held = λ n file there. inr (held_now (named (get files)) past n file there);
          keeps = λ n file h. inr h;
        }

named_same : (v w : View) (n : List ℕ) → v n ≡ w n → named v n ≡ named w n
named_same v w n is = ap (λ o. cond (is_valid_name n) o None) is

-- one row of a run that goes on
goes_on : (r : Runs) (row more : Change) (rows : List Change) (begin : sound.Files) (before : List sound.Files) → r.left ≡ row ∷ more ∷ rows → Goes r begin before → Goes (renamed_by r (row ∷ more ∷ rows)) begin before
goes_on r row more rows begin before is goes =
    let left : List Change = more ∷ rows in
    let apart : differ name_of (rows_for (row ∷ left)) ≡ true = subst (λ (rs : List Change). differ name_of (rows_for rs) ≡ true) is goes.apart in
    let same : made r.left (get r.files) ≡ made left (get (with_row r.files row)) = ap (λ (rs : List Change). made rs (get r.files)) is ∙ sym (first_done r.files row left apart) in
    let stays : (n file : List ℕ) → named (get (with_row r.files row)) n ≡ Some file → Held (named (made r.left (get r.files))) goes.past n file =
    λ n file there. elim (first_stands r.files row left n) [
      | inl old ↦ goes.held n file (sym (named_same (get (with_row r.files row)) (get r.files) n old) ∙ there)
      | inr new ↦
          held_now (named (made r.left (get r.files))) goes.past n file
          (sym (named_same (get (with_row r.files row)) (made r.left (get r.files)) n (new ∙ ap (λ (rs : List Change). made rs (get r.files) n) (sym is))) ∙ there)
    ] in
    record {
      past = goes.past;
      last = goes.last;
      happened = subst (λ (v : View). Happened (named v) goes.past goes.last) same goes.happened;
      has = subst (λ (v : View). HasLast v goes.last) same goes.has;
      apart = rest_apart row left apart;
      held = λ n file there. subst (λ (v : View). Held (named v) goes.past n file) same (stays n file there);
      keeps = λ n file h. subst (λ (v : View). Held (named v) goes.past n file) same (goes.keeps n file h);
    }

-- the last row of a run: it has finished, and the next one begins
goes_last : (r : Runs) (row : Change) (finished : List Progress) (begin : sound.Files) (before : List sound.Files) → r.left ≡ row ∷ [] → Goes r begin before → Goes (begun (with_row r.files row) finished r.waiting) begin before
goes_last r row finished begin before is goes =
    let apart : differ name_of (rows_for (row ∷ [])) ≡ true = subst (λ (rs : List Change). differ name_of (rows_for rs) ≡ true) is goes.apart in
    let same : made r.left (get r.files) ≡ get (with_row r.files row) = ap (λ (rs : List Change). made rs (get r.files)) is ∙ sym (first_done r.files row [] apart) in
    let next = goes_begun (with_row r.files row) finished r.waiting goes.past goes.last (subst (λ (v : View). Happened (named v) goes.past goes.last) same goes.happened) (subst (λ (v : View). HasLast v goes.last) same goes.has) in
    record {
      past = next.past;
      last = next.last;
      happened = next.happened;
      has = next.has;
      apart = next.apart;
      held = next.held;
      keeps = λ n file h. next.keeps n file (subst (λ (v : View). Held (named v) goes.past n file) same (goes.keeps n file h));
    }

goes_renamed : (r : Runs) (begin : sound.Files) (before : List sound.Files) (left : List Change) → r.left ≡ left → Goes r begin before → Goes (renamed_by r left) begin before
goes_renamed r begin before [] is goes = goes
goes_renamed r begin before (row ∷ []) is goes = goes_last r row _ begin before is goes
goes_renamed r begin before (row ∷ more ∷ rows) is goes = goes_on r row more rows begin before is goes

-- ---- loaders

-- each file among these has this
abbrev SawIn : (List ℕ → List ℕ → Type 0) → List Seen → Type 0
SawIn P seen = (n bytes : List ℕ) → SawFile seen n bytes → P n bytes

-- each file that these loaders saw has this
abbrev AllSaw : (List ℕ → List ℕ → Type 0) → List (Opened (Unit {0})) → Type 0
AllSaw P [] = Unit {0}
AllSaw P (o ∷ os) = SawIn P o.seen × AllSaw P os

saw_weaker : (P Q : List ℕ → List ℕ → Type 0) → ((n bytes : List ℕ) → P n bytes → Q n bytes) → (os : List (Opened (Unit {0}))) → AllSaw P os → AllSaw Q os
saw_weaker P Q more [] saw = tt
saw_weaker P Q more (o ∷ os) saw = (λ n bytes it. more n bytes (saw.0 n bytes it), saw_weaker P Q more os saw.1)

saw_begun : (P : List ℕ → List ℕ → Type 0) (names : List (List ℕ)) → AllSaw P (map (opened tt) names)
saw_begun P [] = tt
saw_begun P (name ∷ names) = (λ n bytes it. absurd it, saw_begun P names)

led_seen : (o : Opened (Unit {0})) (s : Seen) (r : Result Loading LoadFault) → (led_to o s r).seen ≡ o.seen ++ s ∷ []
led_seen o s (Ok walk) = refl
led_seen o s (Err fault) = refl

saw_push : (seen : List Seen) (s : Seen) (n bytes : List ℕ) → SawFile (seen ++ s ∷ []) n bytes → SawFile seen n bytes ⊎ ((s.name ≡ n) × (s.file ≡ Some bytes))
saw_push [] s n bytes (inl it) = inr it
saw_push [] s n bytes (inr none) = absurd none
saw_push (first ∷ seen) s n bytes (inl it) = inl (inl it)
saw_push (first ∷ seen) s n bytes (inr later) = elim (saw_push seen s n bytes later) [
  | inl old ↦ inl (inr old)
  | inr new ↦ inr new
]

-- all that stands has this
abbrev AllStand : (List ℕ → List ℕ → Type 0) → Files → Type 0
AllStand P files = (n bytes : List ℕ) → held_file files n ≡ Some bytes → P n bytes

saw_once : (P : List ℕ → List ℕ → Type 0) (choose : Choice) (files : Files) → AllStand P files → (o : Opened (Unit {0})) → SawIn P o.seen → SawIn P (opened_once choose files o).seen
saw_once P choose files stand o saw = by (wanted o)
  where
    by : (wants : Option (List ℕ)) → SawIn P (opened_by choose files o wants).seen
    by None = saw
    by (Some name) = λ n bytes it. elim (saw_push o.seen (seen_of name (held_file files name)) n bytes
        (subst (λ (seen : List Seen). SawFile seen n bytes) (led_seen o (seen_of name (held_file files name)) (taken_as choose o.load.walk name (held_file files name))) it)) [
          | inl old ↦ saw n bytes old
          | inr new ↦ subst (λ (m : List ℕ). P m bytes) new.0 (stand name bytes new.1)
        ]

saw_at : (P : List ℕ → List ℕ → Type 0) (choose : Choice) (files : Files) → AllStand P files → (k : ℕ) (os : List (Opened (Unit {0}))) → AllSaw P os → AllSaw P (opened_at choose files k os)
saw_at P choose files stand k [] saw = tt
saw_at P choose files stand zero (o ∷ os) saw = (saw_once P choose files stand o saw.0, saw.1)
saw_at P choose files stand (suc k) (o ∷ os) saw = (saw.0, saw_at P choose files stand k os saw.1)

some_loader : (a b : Opened (Unit {0})) → ◌≡◌ {A = Option (Opened (Unit {0}))} (Some a) (Some b) → a ≡ b
some_loader a b e = cc

none_loader : (b : Opened (Unit {0})) → ◌≡◌ {A = Option (Opened (Unit {0}))} None (Some b) → ⊥
none_loader b e = cc

saw_one : (P : List ℕ → List ℕ → Type 0) (os : List (Opened (Unit {0}))) (k : ℕ) (o : Opened (Unit {0})) → AllSaw P os → slice_get os k ≡ Some o → SawIn P o.seen
saw_one P [] k o saw there = absurd (none_loader o there)
saw_one P (p ∷ os) zero o saw there = subst (λ (q : Opened (Unit {0})). SawIn P q.seen) (some_loader p o there) saw.0
saw_one P (p ∷ os) (suc k) o saw there = saw_one P os k o saw.1 there

-- ---- the weave

record Going (w : Weaving) : Type 0 where
  begin : sound.Files
  before : List sound.Files
  goes : Goes w.runs begin before
  saw : AllSaw (Held (named (made w.runs.left (get w.runs.files))) goes.past) w.loaders

going_after : (choose : Choice) (w : Weaving) (event : Event) → Going w → Going (after choose w event)
going_after choose w (Open loader) going = record {
  begin = going.begin;
  before = going.before;
  goes = going.goes;
  saw = saw_at (Held (named (made w.runs.left (get w.runs.files))) going.goes.past) choose w.runs.files going.goes.held loader w.loaders going.saw;
}
going_after choose w Rename going =
    let now : sound.Files = named (made w.runs.left (get w.runs.files)) in
    let so_far : Goes w.runs now going.goes.past = record {
      past = going.goes.past;
      last = going.goes.last;
      happened = going.goes.happened;
      has = going.goes.has;
      apart = going.goes.apart;
      held = going.goes.held;
      keeps = λ n file h. h;
    } in
    let next = goes_renamed w.runs now going.goes.past w.runs.left refl so_far in
    record {
      begin = now;
      before = going.goes.past;
      goes = next;
      saw = saw_weaker (Held now going.goes.past) (Held (named (made (renamed w.runs).left (get (renamed w.runs).files))) next.past) next.keeps w.loaders going.saw;
    }

going_all : (choose : Choice) (w : Weaving) (events : List Event) → Going w → Going (fold (after choose) w events)
going_all choose w [] going = going
going_all choose w (event ∷ events) going = going_all choose (after choose w event) events (going_after choose w event going)

going_begun : (files : Files) (names : List (List ℕ)) (runs : List Run) → KeepsTheRule (get files) → IsPastAll (get files) → Going (record { loaders = map (opened tt) names; runs = begun files [] runs })
going_begun files names runs rule past =
    let goes = goes_begun files [] runs [] past.last (rule, past.bounds) past.has in
    record {
      begin = named (get files);
      before = [];
      goes = goes;
      saw = saw_begun (Held (named (made (begun files [] runs).left (get (begun files [] runs).files))) goes.past) names;
    }

history_of : (w : Weaving) → Going w → HasHistory w
history_of w going = record {
  now = named (made w.runs.left (get w.runs.files));
  past = going.goes.past;
  last = going.goes.last;
  happened = going.goes.happened;
  held = λ k o n bytes there it. saw_one (Held (named (made w.runs.left (get w.runs.files))) going.goes.past) w.loaders k o going.saw there n bytes it;
}

pub woven_have_a_history : WovenHaveAHistory
woven_have_a_history choose files names runs events rule past =
    history_of (woven choose files names runs events) (going_all choose (record { loaders = map (opened tt) names; runs = begun files [] runs }) events (going_begun files names runs rule past))
