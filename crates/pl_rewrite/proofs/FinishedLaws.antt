-- What is made of all files by their outcomes is what a run makes of them.
use Rattle.std.proofs.Common.{◌≡◌, ℕ, List, [], ◌∷◌, ◌++◌, Ok, refl, sym, ap, subst, ◌∙◌, append_assoc}
use Rattle.std.specs.Prelude.{if◌then◌else◌}
use Rattle.std.specs.List.{All, AllZip}
use Rattle.std.proofs.lemmas.List.{append-nil}
use Rattle.pl_cone.specs.Plans.{RunPlan, Standing, planned}
use Rattle.pl_cone.specs.Table.{IsPlan, IsRunTable, names_where, planned_by}
use Rattle.pl_cone.specs.Taken.{AreTaken, HasItsEntry, files_in, names_of, taken_of}
use Rattle.pl_cone.specs.declared.planning.Asked.{Asked}
use Rattle.pl_cone.specs.declared.planning.RowPlan.{RowPlan}
use Rattle.pl_cone.specs.declared.table.RunTable.{RunTable}
use Rattle.pl_cone.specs.declared.taken.Taken.{Taken}
use Rattle.pl_cone.proofs.PlanLaws.{standings_are}
use Rattle.pl_elf.specs.declared.range.Range.{Range}
use Rattle.pl_slots.specs.declared.slot.Slot.{Slot}
use Rattle.law_sound.specs.Rule.{Files}
use Rattle.pl_rewrite.specs.Outcomes as outcomes
use Rattle.pl_rewrite.specs.Outcomes.{AreOutcomes, IsOutcome, MayBe, made_from, planned_of, with_made}
use Rattle.pl_rewrite.specs.Rewriting.{AreDecided, rewritten, run_made}
use Rattle.pl_rewrite.specs.declared.rewriting.MadeFiles.{MadeFiles}
use Rattle.pl_rewrite.specs.declared.rewriting.Made.{Made}
use Rattle.pl_rewrite.specs.declared.outcomes.RowOutcome.{RowOutcome}
use Rattle.pl_rewrite.specs.declared.rewriting.Rewritten.{Rewritten}
use Rattle.pl_rewrite.proofs.PlanLaws.{made_append, made_none, rewritten_is}

from_names : (files : Files) (region : Range) (p : RunPlan) (before : List (List ℕ)) (ts : List Taken) (os : List RowOutcome) → AllZip (IsOutcome files region p) ts os → made_from (run_made files before region p) ts os ≡ run_made files (before ++ names_of ts) region p
unfolding made_from
from_names files region p before [] [] zip = ap (λ (ns : List (List ℕ)). run_made files ns region p) (sym (append-nil before))
from_names files region p before [] (o ∷ os) zip = absurd zip
from_names files region p before (t ∷ ts) [] zip = absurd zip
from_names files region p before (t ∷ ts) (o ∷ os) zip =
    ap (λ (m : Made). made_from (with_made (run_made files before region p) t.name m) ts os) zip.0.meant
    ∙ ap (λ (all : MadeFiles). made_from all ts os) (made_append files region p before t.name)
    ∙ from_names files region p (before ++ t.name ∷ []) ts os zip.1
    ∙ ap (λ (ns : List (List ℕ)). run_made files ns region p) (append_assoc before (t.name ∷ []) (names_of ts))

pub all_are : (files : Files) (region : Range) (p : RunPlan) (ts : List Taken) (os : List RowOutcome) → AllZip (IsOutcome files region p) ts os → outcomes.all_made ts os ≡ run_made files (names_of ts) region p
all_are files region p ts os zip = ap (λ (all : MadeFiles). made_from all ts os) (made_none files region p [] [] refl refl) ∙ from_names files region p [] ts os zip

-- ---- what is asked of them

pub files_read : (region : Range) (ts : List Taken) → AreTaken region ts → All HasItsEntry ts
unfolding taken_of
files_read region ts are = λ k d lt. ap (λ (t : Taken). t.entry) (are.each k d lt).is

pub all_may : (files : Files) (region : Range) (p : RunPlan) (ts : List Taken) (os : List RowOutcome) → AllZip (IsOutcome files region p) ts os → AllZip MayBe ts os
all_may files region p [] [] zip = tt
all_may files region p [] (o ∷ os) zip = absurd zip
all_may files region p (t ∷ ts) [] zip = absurd zip
all_may files region p (t ∷ ts) (o ∷ os) zip = (zip.0.may, all_may files region p ts os zip.1)

abbrev left_with : MadeFiles → List Slot → ℕ → Rewritten
left_with made slots last = record { rows = made.rows; cache = record { last = last; rows = slots }; report = record { rows = made.states } }

-- the whole, by the cache's last stamp
pub whole_is : (a : Asked) (ts : List Taken) (p : RowPlan) (os : List RowOutcome) (made : MadeFiles) (last : ℕ) → AreDecided ts a p os → made ≡ outcomes.all_made ts os → last ≡ (if made.given then p.stamp else a.last)
    → left_with made p.slots last ≡ rewritten (files_in ts) (names_of ts) a (planned_of ts a p)
whole_is a ts p os made last are is stamp =
    ap (left_with made p.slots) stamp
    ∙ rewritten_is (files_in ts) (names_of ts) a (planned_of ts a p) made (is ∙ all_are (files_in ts) a.region (planned_of ts a p) ts os are.each)

-- ---- by a table and its plan

abbrev plan_with : List Standing → List Slot → List (List ℕ) → ℕ → RunPlan
plan_with standings slots stale stamp = record { standings = standings; slots = slots; stale = stale; stamp = stamp }

same_plan : (t : RunTable) (a : Asked) (p : RowPlan) → IsRunTable a.region t → planned_by t p ≡ planned_of t.files.now a p
same_plan t a p is = ap (λ (ss : List Standing). plan_with ss p.slots (names_where t.files.now p.stale) p.stamp) (standings_are a.region t is)

table_decided : (t : RunTable) (a : Asked) (p : RowPlan) (os : List RowOutcome) → IsRunTable a.region t → IsPlan t a p → planned (files_in t.files.now) (names_of t.files.now) a ≡ Ok (planned_by t p) → AreOutcomes t p os
    → (planned (files_in t.files.now) (names_of t.files.now) a ≡ Ok (planned_of t.files.now a p)) × AreDecided t.files.now a p os
table_decided t a p os is plan is_planned made = (
  is_planned ∙ ap (λ (q : RunPlan). Ok q) (same_plan t a p is),
  record { taken = is.taken; each = subst (λ (q : RunPlan). AllZip (IsOutcome (files_in t.files.now) a.region q) t.files.now os) (same_plan t a p is) (made a is plan) },
)

pub decided_is : (t : RunTable) (ts : List Taken) (a : Asked) (p : RowPlan) (os : List RowOutcome) → t.files.now ≡ ts → IsRunTable a.region t → IsPlan t a p → planned (files_in t.files.now) (names_of t.files.now) a ≡ Ok (planned_by t p) → AreOutcomes t p os
    → (planned (files_in ts) (names_of ts) a ≡ Ok (planned_of ts a p)) × AreDecided ts a p os
decided_is t ts a p os same is plan made outcome =
    subst (λ (us : List Taken). (planned (files_in us) (names_of us) a ≡ Ok (planned_of us a p)) × AreDecided us a p os) same (table_decided t a p os is plan made outcome)
