-- A run from its plan, and what it makes of all names.
use Rattle.std.proofs.Common.{◌≡◌, ℕ, Bool, true, false, List, [], ◌∷◌, ◌++◌, Option, Some, None, Result, Ok, refl, sym, ap, subst, ◌∙◌}
use Rattle.std.specs.Prelude.{◌||◌, map}
use Rattle.std.specs.List.{cons_option, filter_map, list_any}
use Rattle.pl_base.specs.Answers.{◌>>=◌}
use Rattle.pl_base.proofs.AnswerLaws.{bind_ok, ok_same}
use Rattle.pl_elf.specs.declared.range.Range.{Range}
use Rattle.pl_journal.specs.declared.change.Change.{Change}
use Rattle.pl_cone.specs.Plans.{planned, slots, stale, stamp_for, standings}
use Rattle.pl_cone.specs.declared.planning.Asked.{Asked}
use Rattle.pl_cone.specs.declared.skip.PlanningFault.{PlanningFault}
use Rattle.pl_cone.specs.Plans.{RunPlan}
use Rattle.pl_slots.specs.declared.slot.Slot.{Slot}
use Rattle.law_sound.specs.Rule.{Files}
use Rattle.pl_rewrite.specs.Changes.{change, changes, is_given, next_cache}
use Rattle.pl_rewrite.specs.Outcomes.{with_made}
use Rattle.pl_rewrite.specs.Reports.{report, row_of, state_after}
use Rattle.pl_rewrite.specs.Rewriting.{rewrite, rewritten, rewritten_with, run_made}
use Rattle.pl_rewrite.specs.declared.rewriting.MadeFiles.{MadeFiles}
use Rattle.pl_rewrite.specs.declared.rewriting.Made.{Made}
use Rattle.pl_rewrite.specs.declared.rewriting.ReportRow.{ReportRow}

-- ---- what a plan says of its names

abbrev plan_with : Files → List (List ℕ) → Range → List Slot → ℕ → RunPlan
plan_with files ns region rows stamp = record { standings = standings files region ns; slots = rows; stale = stale files region rows ns; stamp = stamp }

-- and of its stamp
pub plan_stamp : (files : Files) (ns : List (List ℕ)) (a : Asked) (p : RunPlan) → planned files ns a ≡ Ok p → stamp_for files ns a (stale files a.region p.slots ns) ≡ Ok p.stamp
unfolding planned
plan_stamp files ns a p e =
    let q = bind_ok (slots files ns a) (λ rows. stamp_for files ns a (stale files a.region rows ns) >>= λ stamp. Ok (plan_with files ns a.region rows stamp)) p e in
    let r = bind_ok (stamp_for files ns a (stale files a.region q.0 ns)) (λ stamp. Ok (plan_with files ns a.region q.0 stamp)) p q.2 in
    let same : plan_with files ns a.region q.0 r.0 ≡ p = ok_same (plan_with files ns a.region q.0 r.0) p r.2 in
    subst (λ (x : RunPlan). stamp_for files ns a (stale files a.region x.slots ns) ≡ Ok x.stamp) same r.1

-- ---- one name more

given_append : {X Y : Type 0} (h : X → Option Y) (xs : List X) (x : X) → filter_map h (xs ++ x ∷ []) ≡ filter_map h xs ++ cons_option (h x) []
given_append h [] x = refl
given_append {Y = Y} h (y ∷ xs) x = ap (cons_option (h y)) (given_append h xs x) ∙ by_first (h y)
  where
    by_first : (o : Option Y) → cons_option o (filter_map h xs ++ cons_option (h x) []) ≡ cons_option o (filter_map h xs) ++ cons_option (h x) []
    by_first None = refl
    by_first (Some z) = refl

map_append : {X Y : Type 0} (f : X → Y) (xs : List X) (x : X) → map f (xs ++ x ∷ []) ≡ map f xs ++ f x ∷ []
map_append f [] x = refl
map_append {Y = Y} f (y ∷ xs) x = ap (λ (zs : List Y). f y ∷ zs) (map_append f xs x)

or_none : (b : Bool) → (b || false) ≡ b
or_none true = refl
or_none false = refl

any_append : {X : Type 0} (q : X → Bool) (xs : List X) (x : X) → list_any q (xs ++ x ∷ []) ≡ (list_any q xs || q x)
any_append q [] x = or_none (q x)
any_append q (y ∷ xs) x = ap (λ (b : Bool). q y || b) (any_append q xs x) ∙ by_first (q y)
  where
    by_first : (b : Bool) → (b || (list_any q xs || q x)) ≡ ((b || list_any q xs) || q x)
    by_first true = refl
    by_first false = refl

-- what is made of a name
abbrev made_at : Files → Range → RunPlan → List ℕ → Made
made_at files region p n = record { change = change files region p n; state = state_after files region p n; given = is_given files region p n }

abbrev make : List Change → List ReportRow → Bool → MadeFiles
make rows states given = record { rows = rows; states = states; given = given }

pub made_append : (files : Files) (region : Range) (p : RunPlan) (ns : List (List ℕ)) (n : List ℕ) → with_made (run_made files ns region p) n (made_at files region p n) ≡ run_made files (ns ++ n ∷ []) region p
unfolding changes
made_append files region p ns n =
    let rows = filter_map (change files region p) ns ++ cons_option (change files region p n) [] in
    let states = map (row_of files region p) ns ++ row_of files region p n ∷ [] in
    sym (
    ap (λ (x : List Change). make x (map (row_of files region p) (ns ++ n ∷ [])) (list_any (is_given files region p) (ns ++ n ∷ []))) (given_append (change files region p) ns n)
    ∙ (ap (λ (x : List ReportRow). make rows x (list_any (is_given files region p) (ns ++ n ∷ []))) (map_append (row_of files region p) ns n)
    ∙ ap (λ (x : Bool). make rows states x) (any_append (is_given files region p) ns n)))

pub made_none : (files : Files) (region : Range) (p : RunPlan) (rows : List Change) (states : List ReportRow) → rows ≡ [] → states ≡ [] → ◌≡◌ {A = MadeFiles} (record { rows = rows; states = states; given = false }) (run_made files [] region p)
unfolding changes
made_none files region p rows states none also = ap (λ (x : List Change). make x states false) none ∙ ap (λ (x : List ReportRow). make [] x false) also

-- ---- the whole

-- with what is made of all files
pub rewritten_is : (files : Files) (ns : List (List ℕ)) (a : Asked) (p : RunPlan) (made : MadeFiles) → made ≡ run_made files ns a.region p → rewritten_with a p made ≡ rewritten files ns a p
unfolding next_cache report
rewritten_is files ns a p made is = ap (rewritten_with a p) is

-- by a plan
pub rewrite_is : (files : Files) (ns : List (List ℕ)) (a : Asked) (p : RunPlan) → planned files ns a ≡ Ok p → rewrite files ns a ≡ Ok (rewritten files ns a p)
unfolding rewrite
rewrite_is files ns a p plan = ap (λ (r : Result RunPlan PlanningFault). r >>= λ q. Ok (rewritten files ns a q)) plan
