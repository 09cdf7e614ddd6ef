use Rattle.std.proofs.Common.{◌≡◌, Bool, true, false, List, Result, Ok, Err, sym, ap, subst, ◌∙◌}
use Rattle.std.specs.Prelude.{MatchBool, ⊤}
use Rattle.std.proofs.lemmas.Result.{err_from_is_err_and}
use Rattle.pl_base.specs.Answers.{◌>>=◌, Answers}
use Rattle.pl_cone.specs.Faulted.{is_memory}
use Rattle.pl_cone.specs.Plans.{RunPlan, planned}
use Rattle.pl_cone.specs.Taken.{AreTaken, files_in, names_of}
use Rattle.pl_cone.specs.declared.skip.PlanningFault.{PlanningFault}
use Rattle.pl_cone.specs.declared.taken.Taken.{Taken}
use Rattle.pl_rewrite.specs.Outcomes.{planned_of}
use Rattle.pl_rewrite.specs.Rewriting.{rewrite, rewritten}
use Rattle.pl_rewrite.specs.declared.rewriting.Rewritten.{Rewritten}
use Rattle.pl_rewrite.proofs.FinishedLaws.{decided_is}
use Rattle.pl_rewrite.proofs.PlanLaws.{rewrite_is}
use Rattle.pl_rewrite.proofs.rewriting.rewrite.Goals as goal

-- a run without a plan ends with the cause
stops : (planning : Result RunPlan PlanningFault) (f : RunPlan → Result Rewritten PlanningFault) (e : PlanningFault) → Answers is_memory (Err e) planning → Answers is_memory (Err e) (planning >>= f)
stops planning f e is = by_test (is_memory e) is
  where
    by_test : (b : Bool) → MatchBool b ⊤ (planning ≡ Err e) → MatchBool b ⊤ ((planning >>= f) ≡ Err e)
    by_test true given = tt
    by_test false given = ap (λ (r : Result RunPlan PlanningFault). r >>= f) given

pub of-requires : goal.of-requires
of-requires c = (c.args.asked.now.region, subst (AreTaken c.args.asked.now.region) (sym c.as_slice.ensures) c.requires)

pub plan_of-requires : goal.plan_of-requires
plan_of-requires c =
    let a = c.args.asked.now in
    c.in_ok-table.ensures.table a.region (subst (AreTaken a.region) (sym (c.in_ok-table.ensures.files ∙ c.as_slice.ensures)) c.requires)

pub returns-in_err-plan : goal.returns-in_err-plan
unfolding rewrite
returns-in_err-plan c =
    let a = c.args.asked.now in
    let same = c.in_ok-table.ensures.files ∙ c.as_slice.ensures in
    let p = err_from_is_err_and c.from_residual-in_err-plan.result c.from_residual-in_err-plan.ensures.1 in
    let stopped : Answers is_memory (Err p.0) (planned (files_in c.args.files) (names_of c.args.files) a) =
    subst (λ (ts : List Taken). Answers is_memory (Err p.0) (planned (files_in ts) (names_of ts) a)) same
    (subst (λ (e : PlanningFault). Answers is_memory (Err e) (planned (files_in c.in_ok-table.table.files.now) (names_of c.in_ok-table.table.files.now) a)) (sym p.2) c.in_err-plan.ensures.planned) in
    rw p.1 (stops (planned (files_in c.args.files) (names_of c.args.files) a) (λ (q : RunPlan). Ok (rewritten (files_in c.args.files) (names_of c.args.files) a q)) p.0 stopped)

pub outcomes-requires : goal.outcomes-requires
outcomes-requires c =
    let a = c.args.asked.now in
    record {
      asked = a;
      table = c.in_ok-table.ensures.table a.region (subst (AreTaken a.region) (sym (c.in_ok-table.ensures.files ∙ c.as_slice.ensures)) c.requires);
      planned = c.in_ok-plan.ensures.planned;
      plan = c.in_ok-plan.ensures.rows;
    }

pub finish-requires : goal.finish-requires
finish-requires c =
    let a = c.args.asked.now in
    let same = c.in_ok-table.ensures.files ∙ c.as_slice.ensures in
    let table = c.in_ok-table.ensures.table a.region (subst (AreTaken a.region) (sym same) c.requires) in
    (decided_is c.in_ok-table.table c.args.files a c.in_ok-plan.plan c.in_ok-outcomes.outcomes.items same table c.in_ok-plan.ensures.rows c.in_ok-plan.ensures.planned c.in_ok-outcomes.ensures).1

pub returns : goal.returns
returns c =
    let a = c.args.asked.now in
    let ts = c.args.files in
    let p = c.in_ok-plan.plan in
    let same = c.in_ok-table.ensures.files ∙ c.as_slice.ensures in
    let table = c.in_ok-table.ensures.table a.region (subst (AreTaken a.region) (sym same) c.requires) in
    let decided = decided_is c.in_ok-table.table ts a p c.in_ok-outcomes.outcomes.items same table c.in_ok-plan.ensures.rows c.in_ok-plan.ensures.planned c.in_ok-outcomes.ensures in
    rewrite_is (files_in ts) (names_of ts) a (planned_of ts a p) decided.0 ∙ ap (λ (x : Rewritten). Ok x) (sym c.in_ok-finish.ensures)
