use Rattle.pl_init.proofs.RowLaws.{steps_stop, steps_own, steps_other, steps_all, seen_own, seen_other}
use Rattle.pl_init.proofs.rightness.are_steps.Goals as goal
use Rattle.pl_init.proofs.rightness.are_steps.Goals.{then-row-member+else-not-is_step, else-row-member}
use Rattle.pl_init.specs.Flags.{AreFlags}
use Rattle.pl_init.specs.Found.{is_seen}
use Rattle.pl_init.specs.Right.{rows_of}
use Rattle.std.proofs.Common.{Bool, List, take, ◌+◌, subst, sym, arith}

pub returns-then-not-is_step-clause-value : goal.returns-then-not-is_step-clause-value
returns-then-not-is_step-clause-value c = steps_stop c.args.graph.now c.args.member c.loop-row.row-index c.args.rows.now c.loop-row.seen c.is_step.result _ c.loop-row-test.true c.if-row-member.true c.is_step.ensures c.loop-row.invariant.seen c.if-not-is_step.true c.loop-row.invariant.so_far

pub loop-row-preserved : goal.loop-row-preserved
loop-row-preserved c =
    elim c.if-row-member.branch [
      | then-row-member+else-not-is_step w ↦ record {
        so_far = steps_own c.args.graph.now c.args.member c.loop-row.row-index c.args.rows.now c.loop-row.seen w.is_step.result _ c.loop-row-test.true w.if-row-member.true w.is_step.ensures c.loop-row.invariant.seen w.if-not-is_step.false c.loop-row.invariant.so_far;
        seen = subst (λ (z : List Bool). AreFlags z (is_seen c.args.member (rows_of (take (c.loop-row.row-index + 1) c.args.rows.now) c.args.member))) (sym w.seen-is)
            (seen_own c.args.member c.loop-row.row-index c.args.rows.now w.flag.new.flags c.loop-row-test.true w.if-row-member.true (w.flag.ensures (is_seen c.args.member (rows_of (take c.loop-row.row-index c.args.rows.now) c.args.member)) c.loop-row.invariant.seen));
      }
      | else-row-member w ↦ record {
        so_far = steps_other c.args.graph.now c.args.member c.loop-row.row-index c.args.rows.now _ c.loop-row-test.true w.if-row-member.false c.loop-row.invariant.so_far;
        seen = subst (λ (z : List Bool). AreFlags z (is_seen c.args.member (rows_of (take (c.loop-row.row-index + 1) c.args.rows.now) c.args.member))) (sym w.seen-is)
            (seen_other c.args.member c.loop-row.row-index c.args.rows.now c.loop-row.seen c.loop-row-test.true w.if-row-member.false c.loop-row.invariant.seen);
      }
    ]

pub returns-clause-value : goal.returns-clause-value
returns-clause-value c = steps_all c.args.graph.now c.args.member c.loop-row.row-index c.args.rows.now _ (omega arith) c.loop-row.invariant.so_far
