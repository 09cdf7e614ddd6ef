use Rattle.std.proofs.Common.{◌≤◌, Some, None, sym, arith}
use Rattle.pl_hash.specs.Table.{bucket_count}
use Rattle.pl_hash.specs.Chain.{head}
use Rattle.pl_hash.specs.Lengths.{IsKnown, IsLength}
use Rattle.pl_hash.proofs.LengthLaws.{none_noted, one_noted, one_ends_not, all_end}
use Rattle.pl_hash.proofs.lengths.note_all.Goals as goal

pub loop-k-init : goal.loop-k-init
loop-k-init c = record { are = none_noted c.args.table.now c.args.lengths.now c.requires.none; heads = λ j lt. absurd (omega (arith, lt)); ends = λ j lt. absurd (omega (arith, lt)) }

pub returns-in_default-clause-value : goal.returns-in_default-clause-value
returns-in_default-clause-value c =
    let t = c.args.table.now in
    let none : IsLength t c.head-start.result None = rw c.in_default.is at c.chain_length.ensures in
    let here : IsLength t (head t c.loop-k.k) None = rw c.head-start.ensures at none in
    sym (one_ends_not t c.loop-k.k (rw c.bucket_count-k-end.ensures at c.loop-k-test.true) here)

pub loop-k-preserved : goal.loop-k-preserved
loop-k-preserved c =
    let t = c.args.table.now in
    let k = c.loop-k.k in
    let some : IsLength t c.head-start.result (Some c.in-Some.count) = rw c.in-Some.is at c.chain_length.ensures in
    let here : IsLength t (head t k) (Some c.in-Some.count) = rw c.head-start.ensures at some in
    let known : IsKnown c.note.new.lengths (head t k) = rw c.head-start.ensures at c.note.ensures.start in
    one_noted t c.loop-k.lengths c.note.new.lengths k c.in-Some.count c.loop-k.invariant c.note.ensures.known known c.note.ensures.more here.0 here.1

pub returns-clause-value : goal.returns-clause-value
returns-clause-value c =
    let t = c.args.table.now in
    let end : bucket_count t ≤ c.loop-k.k = rw c.bucket_count-k-end.ensures at c.loop-k-test.false in
    sym (all_end t (λ k lt. c.loop-k.invariant.ends k (omega (arith, lt, end))))

pub returns-clause-known : goal.returns-clause-known
returns-clause-known c =
    let t = c.args.table.now in
    let end : bucket_count t ≤ c.loop-k.k = rw c.bucket_count-k-end.ensures at c.loop-k-test.false in
    record { are = c.loop-k.invariant.are; heads = λ k lt. c.loop-k.invariant.heads k (omega (arith, lt, end)) }
