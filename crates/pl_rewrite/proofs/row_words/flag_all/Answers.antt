use Rattle.std.proofs.Common.{◌<◌, get_or, length, arith}
use Rattle.pl_rewrite.proofs.FlagLaws.{flags_begin, flags_done, flags_more}
use Rattle.pl_rewrite.proofs.row_words.flag_all.Goals as goal

pub loop-row-init : goal.loop-row-init
loop-row-init c = flags_begin c.args.flags.now

pub bounds-flags-row : goal.bounds-flags-row
bounds-flags-row c =
    let lt : get_or c.args.rows.now c.loop-row.row-index 0 < length c.args.flags.now = c.requires c.loop-row.row-index 0 c.loop-row-test.true in
    omega (arith, c.loop-row.invariant.count, lt)

pub loop-row-preserved : goal.loop-row-preserved
loop-row-preserved c = flags_more c.args.rows.now c.loop-row.row-index _ c.args.flags.now c.loop-row.flags c.loop-row-test.true c.loop-row.invariant

pub returns : goal.returns
returns c = flags_done c.args.rows.now c.loop-row.row-index c.args.flags.now c.loop-row.flags c.loop-row-test.false c.loop-row.invariant
