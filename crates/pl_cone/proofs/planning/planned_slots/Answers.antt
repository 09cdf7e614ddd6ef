use Rattle.std.proofs.Common.{◌≡◌, ◌<◌, ℕ, Bool, true, false, List, Result, Err, sym, ap, subst, ◌∙◌}
use Rattle.std.specs.Prelude.{MatchBool, ⊤, if◌then◌else◌}
use Rattle.std.specs.List.{All}
use Rattle.std.proofs.lemmas.Result.{err_from_is_err_and}
use Rattle.pl_base.specs.Answers.{because}
use Rattle.pl_share.specs.Disjoint.{disjoint}
use Rattle.pl_share.specs.Shared.{plan_shared}
use Rattle.pl_slots.specs.Plan.{plan}
use Rattle.pl_slots.specs.Plan as slots
use Rattle.pl_slots.specs.declared.fault.PlanFault.{PlanFault}
use Rattle.pl_slots.specs.declared.fault.PlanFault.TheVariants.{NoSlot, NoMemory}
use Rattle.pl_slots.specs.declared.slot.Slot.{Slot}
use Rattle.pl_slots.specs.declared.slot.Want.{Want}
use Rattle.pl_cone.specs.Faulted.{is_memory, of_plan}
use Rattle.pl_cone.specs.Slots.{HaveWantedNames, table_slots, table_walks, table_wants}
use Rattle.pl_cone.specs.declared.planning.Asked.{Asked}
use Rattle.pl_cone.specs.declared.skip.PlanningFault.{PlanningFault}
use Rattle.pl_cone.specs.declared.table.RunTable.{RunTable}
use Rattle.pl_cone.proofs.ServeLaws.{apart_names, shared_names}
use Rattle.pl_cone.proofs.WantLaws.{wants_aligned, wants_spanned}
use Rattle.pl_cone.proofs.planning.planned_slots.Goals as goal

abbrev chosen : Asked → List Want → List (List ℕ) → Bool → Result (List Slot) PlanningFault
chosen a ws rows share = because of_plan (if share then plan_shared a.rows.now ws rows a.region else plan (disjoint a.rows.now ws a.region) ws a.region)

shared_is : (t : RunTable) (a : Asked) (ws : List Want) (rows : List (List ℕ)) → a.share ≡ true → ws ≡ table_wants t → rows ≡ table_walks t → because of_plan (plan_shared a.rows.now ws rows a.region) ≡ table_slots t a
shared_is t a ws rows share wants walks = rw (wants, walks) (sym (ap (chosen a (table_wants t) (table_walks t)) share))

apart_is : (t : RunTable) (a : Asked) (ws : List Want) (kept : List Slot) → a.share ≡ false → ws ≡ table_wants t → kept ≡ disjoint a.rows.now ws a.region → because of_plan (plan kept ws a.region) ≡ table_slots t a
apart_is t a ws kept share wants is = rw (is, wants) (sym (ap (chosen a (table_wants t) (table_walks t)) share))

-- a plan that stops
stops : (e : PlanFault) (meant : Result (List Slot) PlanFault) → MatchBool (slots.is_memory e) ⊤ (meant ≡ Err e) → MatchBool (is_memory (of_plan e)) ⊤ (because of_plan meant ≡ Err (of_plan e))
stops (NoSlot name span hole) meant same = ap (because of_plan) same
stops NoMemory meant same = tt

pub plan_shared-requires : goal.plan_shared-requires
plan_shared-requires c = rw (c.as_slice-wants.ensures, c.requires.wanting.wants) (wants_aligned c.requires.table.0 c.args.table.now c.requires.table.1)

pub disjoint-requires : goal.disjoint-requires
disjoint-requires c = rw (c.as_slice-wants.ensures, c.requires.wanting.wants) (wants_aligned c.requires.table.0 c.args.table.now c.requires.table.1)

pub plan-requires : goal.plan-requires
plan-requires c = rw (c.as_slice-wants.ensures, c.requires.wanting.wants) (wants_aligned c.requires.table.0 c.args.table.now c.requires.table.1)

pub returns-in_err-plan_shared-clause-value : goal.returns-in_err-plan_shared-clause-value
returns-in_err-plan_shared-clause-value c =
    let told : c.as_slice-wants.result.now ≡ table_wants c.args.table.now = c.as_slice-wants.ensures ∙ c.requires.wanting.wants in
    let p = err_from_is_err_and c.from_residual-in_err-plan_shared.result c.from_residual-in_err-plan_shared.ensures.1 in
    rw (p.1, p.2, ← shared_is c.args.table.now c.args.asked.now c.as_slice-wants.result.now c.in_ok-walks.walks.rows c.if-asked.true told c.in_ok-walks.ensures) (stops _ _ c.in_err-plan_shared.ensures.exact)

pub returns-in_ok-plan_shared-clause-value : goal.returns-in_ok-plan_shared-clause-value
returns-in_ok-plan_shared-clause-value c =
    let told : c.as_slice-wants.result.now ≡ table_wants c.args.table.now = c.as_slice-wants.ensures ∙ c.requires.wanting.wants in
    sym (shared_is c.args.table.now c.args.asked.now c.as_slice-wants.result.now c.in_ok-walks.walks.rows c.if-asked.true told c.in_ok-walks.ensures) ∙ ap (because of_plan) c.in_ok-plan_shared.ensures.exact

pub returns-in_ok-plan_shared-clause-names : goal.returns-in_ok-plan_shared-clause-names
returns-in_ok-plan_shared-clause-names c =
    let told : c.as_slice-wants.result.now ≡ table_wants c.args.table.now = c.as_slice-wants.ensures ∙ c.requires.wanting.wants in
    let spans : All (λ w. 0 < w.span) c.as_slice-wants.result.now = subst (λ (ws : List Want). All (λ w. 0 < w.span) ws) (sym told) (wants_spanned c.requires.table.0 c.args.table.now c.requires.table.1) in
    subst (λ (ws : List Want). HaveWantedNames ws c.in_ok-plan_shared.field-0) told (shared_names c.args.asked.now.region c.as_slice-wants.result.now _ (c.in_ok-plan_shared.ensures.serve spans))

pub returns-in_err-plan-clause-value : goal.returns-in_err-plan-clause-value
returns-in_err-plan-clause-value c =
    let told : c.as_slice-wants.result.now ≡ table_wants c.args.table.now = c.as_slice-wants.ensures ∙ c.requires.wanting.wants in
    let p = err_from_is_err_and c.from_residual-in_err-plan.result c.from_residual-in_err-plan.ensures.1 in
    rw (p.1, p.2, ← apart_is c.args.table.now c.args.asked.now c.as_slice-wants.result.now c.as_slice.result.now c.if-asked.false told (c.as_slice.ensures ∙ c.in_ok-kept.ensures.exact)) (stops _ _ c.in_err-plan.ensures.exact)

pub returns-in_ok-plan-clause-value : goal.returns-in_ok-plan-clause-value
returns-in_ok-plan-clause-value c =
    let told : c.as_slice-wants.result.now ≡ table_wants c.args.table.now = c.as_slice-wants.ensures ∙ c.requires.wanting.wants in
    sym (apart_is c.args.table.now c.args.asked.now c.as_slice-wants.result.now c.as_slice.result.now c.if-asked.false told (c.as_slice.ensures ∙ c.in_ok-kept.ensures.exact)) ∙ ap (because of_plan) c.in_ok-plan.ensures.exact

pub returns-in_ok-plan-clause-names : goal.returns-in_ok-plan-clause-names
returns-in_ok-plan-clause-names c =
    let told : c.as_slice-wants.result.now ≡ table_wants c.args.table.now = c.as_slice-wants.ensures ∙ c.requires.wanting.wants in
    let spans : All (λ w. 0 < w.span) c.as_slice-wants.result.now = subst (λ (ws : List Want). All (λ w. 0 < w.span) ws) (sym told) (wants_spanned c.requires.table.0 c.args.table.now c.requires.table.1) in
    subst (λ (ws : List Want). HaveWantedNames ws c.in_ok-plan.field-0) told (apart_names _ c.args.asked.now.region c.as_slice-wants.result.now _ (c.in_ok-plan.ensures.serve spans))
