use Rattle.std.proofs.Common.{length, ap, subst, sym, ◌∙◌, arith}
use Rattle.std.proofs.lemmas.List.{length-map}
use Rattle.std.proofs.lemmas.Result.{IfOk-weaker}
use Rattle.pl_cone.specs.Plans.{cause_of, is_stale}
use Rattle.pl_cone.specs.Skipped.{skip_of}
use Rattle.pl_cone.specs.Taken.{files_in}
use Rattle.pl_rewrite.proofs.CandidateRowLaws.{numbered_is}
use Rattle.pl_rewrite.specs.Rows.{AreDigests}
use Rattle.pl_rewrite.proofs.FinishedLaws.{files_read}
use Rattle.pl_rewrite.proofs.RowOutcomeLaws.{plan_again, rows_are, table_again}
use Rattle.pl_rewrite.proofs.StaleRowLaws.{column, links_are}
use Rattle.pl_rewrite.proofs.outcomes.outcomes.Goals as goal

pub digests_of-requires-clause-taken : goal.digests_of-requires-clause-taken
digests_of-requires-clause-taken c = files_read c.requires.asked.region c.args.table.files.now c.requires.table.taken

pub digests_of-requires-clause-one_each : goal.digests_of-requires-clause-one_each
digests_of-requires-clause-one_each c =
    let t = c.args.table in
    ap length c.as_slice-stale.ensures ∙ (ap length c.requires.plan.stale ∙ length-map t.files.now (λ x. is_stale (files_in t.files.now) c.requires.asked.region c.args.plan.now.slots x.name))

pub made_of-made-requires-clause-run : goal.made_of-made-requires-clause-run
made_of-made-requires-clause-run c =
    let a = c.requires.asked in
    let t = c.args.table in
    let p = c.args.plan.now in
    let again = table_again a.region t c.as_slice.result.now c.as_slice.ensures c.requires.table in
    let plan = plan_again t c.as_slice.result.now a p c.requires.plan in
    record {
      numbered = numbered_is _ t.links t.causes a again p plan c.as_slice-2.ensures c.as_slice-3.ensures (subst (AreDigests t.files.now) (sym c.as_slice-4.ensures.value) c.in_ok-digests.ensures);
      column = column _ t.links t.causes a p c.as_slice-stale.result.now again plan c.as_slice-stale.ensures;
    }

pub made_of-made-requires-clause-links : goal.made_of-made-requires-clause-links
made_of-made-requires-clause-links c =
    let a = c.requires.asked in
    let t = c.args.table in
    let walks = c.as_slice.result.now in
    links_are _ t.links t.causes a c.args.plan.now c.as_slice-stale.result.now (table_again a.region t walks c.as_slice.ensures c.requires.table) (plan_again t walks a c.args.plan.now c.requires.plan) c.as_slice-stale.ensures

pub all_outcomes-requires-clause-made : goal.all_outcomes-requires-clause-made
all_outcomes-requires-clause-made c =
    let a = c.requires.asked in
    let t = c.args.table in
    let plan = c.requires.plan in
    omega (arith, c.in_ok-made.ensures.count, ap length c.as_slice-stale.ensures, ap length plan.stale, length-map t.files.now (λ x. is_stale (files_in t.files.now) a.region c.args.plan.now.slots x.name))

pub all_outcomes-requires-clause-causes : goal.all_outcomes-requires-clause-causes
all_outcomes-requires-clause-causes c =
    let t = c.args.table in
    ap length c.requires.table.causes ∙ length-map t.files.now (λ x. cause_of (skip_of (files_in t.files.now) c.requires.asked.region x.name))

pub returns : goal.returns
returns c =
    let t = c.args.table in
    let p = c.args.plan.now in
    let walks = c.as_slice.result.now in
    IfOk-weaker c.all_outcomes.result _ _
    (λ v all. λ a is plan.
    rows_are _ t.links t.causes a p c.as_slice-stale.result.now (table_again a.region t walks c.as_slice.ensures is) (plan_again t walks a p plan) c.as_slice-2.ensures c.as_slice-3.ensures c.as_slice-stale.ensures c.in_ok-made.field-0.items v.items c.in_ok-made.ensures all)
    c.all_outcomes.ensures
