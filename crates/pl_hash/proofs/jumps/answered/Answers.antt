use Rattle.std.proofs.Common.{◌-◌, ◌^◌, arith, sym, ◌∙◌}
use Rattle.pl_hash.proofs.JumpLaws.{begin_rounds, next_round, last_round, rounds_done, done_at}
use Rattle.pl_hash.proofs.jumps.answered.Goals as goal

pub loop-round-init : goal.loop-round-init
loop-round-init c = begin_rounds c.args.table.now c.args.first.items c.in_ok-jumps.jumps.items c.in_ok-jumps.ensures c.requires.few

pub returns-then-all_done : goal.returns-then-all_done
returns-then-all_done c =
    rounds_done c.args.table.now c.args.first.items c.loop-round.queries.items c.loop-round.jumps.items (2 ^ c.loop-round.round) (2 ^ 32 - 1) c.loop-round.invariant (λ i lt. done_at c.loop-round.queries.items (rw (← c.deref.ensures.value) (sym c.all_done.ensures ∙ c.if-all_done.true)) i)

pub loop-round-preserved : goal.loop-round-preserved
loop-round-preserved c = next_round c.args.table.now c.args.first.items c.loop-round.queries.items c.in_ok-queries.queries.items c.loop-round.jumps.items c.in_ok-jumps-2.jumps.items c.loop-round.round (2 ^ 32 - 1) c.loop-round.invariant
    (rw (c.deref-in-loop-round.ensures.value, c.deref-in-loop-round-2.ensures.value) at c.in_ok-queries.ensures) (rw c.deref-in-loop-round-3.ensures.value at c.in_ok-jumps-2.ensures)

pub returns : goal.returns
returns c = last_round c.args.table.now c.args.first.items c.loop-round.queries.items c.loop-round.jumps.items c.loop-round.round (omega (arith, c.loop-round-test.false)) c.loop-round.invariant
