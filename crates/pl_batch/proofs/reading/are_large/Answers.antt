use Rattle.std.proofs.Math.ListN.{drop_of_length-le}
use Rattle.std.proofs.Common.{List, drop, ◌+◌, refl, subst, sym}
use Rattle.pl_journal.proofs.CarryLemmas.{drop_at}
use Rattle.pl_rewrite.specs.TakenFile.{Taken}
use Rattle.pl_batch.proofs.SizeLemmas.{LeftFor, all_left, goes_over, none_left, takes_up}
use Rattle.pl_batch.proofs.reading.are_large.Goals as goal

pub loop-taken-init : goal.loop-taken-init
loop-taken-init c = all_left c.args.files.now

pub returns-then-size-left : goal.returns-then-size-left
returns-then-size-left c =
    let files = c.args.files.now in
    let i = c.loop-taken.taken-index in
    let taken = c.taken-item.result in
    let here = subst (λ (l : List Taken). LeftFor c.loop-taken.left l files) (drop_at files i taken c.loop-taken-test.true c.taken-item.is) c.loop-taken.invariant in
    sym (goes_over c.loop-taken.left taken (drop (i + 1) files) files here c.original_size-size.result c.original_size-size.ensures c.if-size-left.true)

pub loop-taken-preserved : goal.loop-taken-preserved
loop-taken-preserved c =
    let files = c.args.files.now in
    let i = c.loop-taken.taken-index in
    let taken = c.taken-item.result in
    let here = subst (λ (l : List Taken). LeftFor c.loop-taken.left l files) (drop_at files i taken c.loop-taken-test.true c.taken-item.is) c.loop-taken.invariant in
    takes_up c.loop-taken.left taken (drop (i + 1) files) files here c.original_size-size.result c.original_size-size.ensures _ c.if-size-left.false refl

pub returns : goal.returns
returns c =
    let files = c.args.files.now in
    sym (none_left c.loop-taken.left files (subst (λ (l : List Taken). LeftFor c.loop-taken.left l files) (drop_of_length-le files {i = c.loop-taken.taken-index} c.loop-taken-test.false) c.loop-taken.invariant))
