use Rattle.std.proofs.Common.{Some, arith}
use Rattle.pl_hash.specs.Lengths.{IsKnown}
use Rattle.pl_hash.proofs.ChainSymbolLaws.{IsLinked-from}
use Rattle.pl_hash.proofs.LengthLaws.{AreNoted, begin_notes, note_one, notes_done, ends_linked, ends_length}
use Rattle.pl_hash.proofs.lengths.note.Goals as goal

pub loop-at-init : goal.loop-at-init
loop-at-init c = begin_notes c.args.table.now c.args.lengths.now c.args.start c.args.count c.requires.known c.requires.ends

pub returns-then-length_at-gt0-clause-known : goal.returns-then-length_at-gt0-clause-known
returns-then-length_at-gt0-clause-known c =
    let known : IsKnown c.loop-at.lengths c.loop-at.at = rw c.in-Some.is (omega (arith, c.length_at.ensures)) in
    (notes_done c.args.table.now c.args.lengths.now c.loop-at.lengths c.args.start c.loop-at.at c.loop-at.left c.loop-at.invariant known).0

pub returns-then-length_at-gt0-clause-start : goal.returns-then-length_at-gt0-clause-start
returns-then-length_at-gt0-clause-start c =
    let known : IsKnown c.loop-at.lengths c.loop-at.at = rw c.in-Some.is (omega (arith, c.length_at.ensures)) in
    (notes_done c.args.table.now c.args.lengths.now c.loop-at.lengths c.args.start c.loop-at.at c.loop-at.left c.loop-at.invariant known).1

pub returns-then-length_at-gt0-clause-more : goal.returns-then-length_at-gt0-clause-more
returns-then-length_at-gt0-clause-more c = c.loop-at.invariant.more

pub bounds-lengths-index : goal.bounds-lengths-index
bounds-lengths-index c =
    let t = c.args.table.now in
    let are : AreNoted t c.args.lengths.now c.loop-at.lengths c.args.start (Some c.in-Some.index) c.loop-at.left = rw c.in-Some.is at c.loop-at.invariant in
    let link = IsLinked-from t c.in-Some.index (ends_linked t c.in-Some.index c.loop-at.left are.ends) in
    omega (arith, link.below, are.size)

pub following-at-requires-clause-linked : goal.following-at-requires-clause-linked
following-at-requires-clause-linked c =
    let t = c.args.table.now in
    let are : AreNoted t c.args.lengths.now c.loop-at.lengths c.args.start (Some c.in-Some.index) c.loop-at.left = rw c.in-Some.is at c.loop-at.invariant in
    IsLinked-from t c.in-Some.index (ends_linked t c.in-Some.index c.loop-at.left are.ends)

pub overflow_sub-left : goal.overflow_sub-left
overflow_sub-left c =
    let t = c.args.table.now in
    let are : AreNoted t c.args.lengths.now c.loop-at.lengths c.args.start (Some c.in-Some.index) c.loop-at.left = rw c.in-Some.is at c.loop-at.invariant in
    let some = ends_length t c.in-Some.index c.loop-at.left are.ends in
    omega (arith, some)

pub loop-at-smaller : goal.loop-at-smaller
loop-at-smaller c =
    let t = c.args.table.now in
    let are : AreNoted t c.args.lengths.now c.loop-at.lengths c.args.start (Some c.in-Some.index) c.loop-at.left = rw c.in-Some.is at c.loop-at.invariant in
    let some = ends_length t c.in-Some.index c.loop-at.left are.ends in
    omega (arith, some)

pub loop-at-preserved : goal.loop-at-preserved
loop-at-preserved c =
    let t = c.args.table.now in
    let are : AreNoted t c.args.lengths.now c.loop-at.lengths c.args.start (Some c.in-Some.index) c.loop-at.left = rw c.in-Some.is at c.loop-at.invariant in
    rw c.following-at.ensures (note_one t c.args.lengths.now c.loop-at.lengths c.args.start c.in-Some.index c.loop-at.left are)

pub returns-clause-known : goal.returns-clause-known
returns-clause-known c =
    let known : IsKnown c.loop-at.lengths c.loop-at.at = rw c.in_default.is tt in
    (notes_done c.args.table.now c.args.lengths.now c.loop-at.lengths c.args.start c.loop-at.at c.loop-at.left c.loop-at.invariant known).0

pub returns-clause-start : goal.returns-clause-start
returns-clause-start c =
    let known : IsKnown c.loop-at.lengths c.loop-at.at = rw c.in_default.is tt in
    (notes_done c.args.table.now c.args.lengths.now c.loop-at.lengths c.args.start c.loop-at.at c.loop-at.left c.loop-at.invariant known).1

pub returns-clause-more : goal.returns-clause-more
returns-clause-more c = c.loop-at.invariant.more
