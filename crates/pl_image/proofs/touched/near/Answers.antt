use Rattle.std.proofs.Common.{ℕ, ◌+◌, ◌/◌, ap, arith}
use Rattle.pl_image.proofs.TouchLemmas.{in_order, are_near}
use Rattle.pl_image.proofs.touched.near.Goals as goal

pub slice_bounds-result-count : goal.slice_bounds-result-count
slice_bounds-result-count c =
    in_order c.args.patches.now c.args.touched.now (c.args.from / 8) ((c.args.from + c.args.size + 7) / 8) c.before-first.result c.before-end.result c.requires (omega arith) c.before-first.ensures.point (rw c.end.ensures.value at c.before-end.ensures.point)
    c.before-first.ensures.bound c.before-end.ensures.bound

pub slice_bounds-result-start : goal.slice_bounds-result-start
slice_bounds-result-start c =
    in_order c.args.patches.now c.args.touched.now (c.args.from / 8) ((c.args.from + c.args.size + 7) / 8) c.before-first.result c.before-end.result c.requires (omega arith) c.before-first.ensures.point (rw c.end.ensures.value at c.before-end.ensures.point)
    c.before-first.ensures.bound c.before-end.ensures.bound

pub returns : goal.returns
returns c =
    are_near c.args.patches.now c.args.touched.now c.args.from c.args.size ((c.end.result + 7) / 8) c.before-first.result c.before-end.result c.requires (ap (λ (n : ℕ). (n + 7) / 8) c.end.ensures.value) c.before-first.ensures.point c.before-end.ensures.point
    c.before-first.ensures.bound c.before-end.ensures.bound
