use Rattle.pl_init.proofs.RowLaws.{closed_self, closed_stop, closed_own, closed_other, closed_all}
use Rattle.pl_init.proofs.rightness.is_closed.Goals as goal
use Rattle.pl_init.proofs.rightness.is_closed.Goals.{else-row-member-via-then-row-member+else-not-holds_needs-2, else-row-member-via-else-row-member}
use Rattle.pl_init.specs.Right.{rows_of}
use Rattle.std.proofs.Common.{arith}

pub returns-then-not-holds_needs : goal.returns-then-not-holds_needs
returns-then-not-holds_needs c = closed_self c.args.graph.now c.args.member (rows_of c.args.rows.now c.args.member) c.args.seen.now c.holds_needs.result c.requires.graph c.requires.within c.requires.seen c.holds_needs.ensures c.if-not-holds_needs.true

pub returns-then-not-holds_needs-2 : goal.returns-then-not-holds_needs-2
returns-then-not-holds_needs-2 c =
    closed_stop c.args.graph.now c.args.member c.loop-row.row-index c.args.rows.now c.args.seen.now c.holds_needs.result c.holds_needs-then-row-member.result c.requires.graph c.requires.within c.requires.numbered c.requires.seen c.loop-row-test.true c.if-row-member.true c.holds_needs-then-row-member.ensures c.if-not-holds_needs-2.true c.loop-row.invariant

pub loop-row-preserved : goal.loop-row-preserved
loop-row-preserved c =
    elim c.else-row-member.branch [
      | else-row-member-via-then-row-member+else-not-holds_needs-2 w ↦
          closed_own c.args.graph.now c.args.member c.loop-row.row-index c.args.rows.now c.args.seen.now w.holds_needs-then-row-member.result c.requires.graph c.requires.numbered c.requires.seen c.loop-row-test.true w.if-row-member.true w.holds_needs-then-row-member.ensures w.if-not-holds_needs-2.false c.loop-row.invariant
      | else-row-member-via-else-row-member w ↦ closed_other c.args.graph.now c.args.member c.loop-row.row-index c.args.rows.now c.loop-row-test.true w.if-row-member.false c.loop-row.invariant
    ]

pub returns : goal.returns
returns c = closed_all c.args.graph.now c.args.member c.loop-row.row-index c.args.rows.now c.args.seen.now c.holds_needs.result c.requires.graph c.requires.within c.requires.seen c.holds_needs.ensures c.if-not-holds_needs.false (omega arith) c.loop-row.invariant
