use Rattle.std.proofs.Common.{ap, length, arith}
use Rattle.std.proofs.lemmas.List.{length_push}
use Rattle.pl_rewrite.specs.Outcomes.{IsProgramIf}
use Rattle.pl_rewrite.proofs.MadeRowLaws.{programs_more}
use Rattle.pl_rewrite.proofs.RowByRowLaws.{each_nothing}
use Rattle.pl_rewrite.proofs.outcomes.program_outcomes.Goals as goal

pub loop-row-init : goal.loop-row-init
loop-row-init c = (ap length c.new-all.ensures.items, each_nothing (IsProgramIf c.args.work.now.numbered.now c.args.stale.now) c.new-all.result.items c.new-all.ensures.items)

pub program_if-requires-clause-row : goal.program_if-requires-clause-row
program_if-requires-clause-row c = omega (arith, c.requires.count)

pub loop-row-preserved : goal.loop-row-preserved
loop-row-preserved c =
    let n = c.args.work.now.numbered.now in (
      omega (arith, ap length c.in_ok-push.ensures.items, length_push c.loop-row.all.items c.in_ok-program_if.field-0, c.loop-row.invariant.0),
      programs_more n c.args.stale.now c.loop-row.all.items _ c.in_ok-program_if.field-0 c.loop-row.row c.loop-row.invariant.0 c.in_ok-program_if.ensures c.in_ok-push.ensures.items c.loop-row.invariant.1,
    )

pub returns : goal.returns
returns c = record { count = omega (arith, c.loop-row.invariant.0); each = c.loop-row.invariant.1 }
