use Rattle.std.proofs.Common.{◌+◌, arith}
use Rattle.pl_image.proofs.TouchLemmas.{in_order, are_touching, only_touching}
use Rattle.pl_image.proofs.touched.touching.Goals as goal

pub slice_bounds-result-count : goal.slice_bounds-result-count
slice_bounds-result-count c = in_order c.args.patches.now c.args.touched.now c.args.number (c.args.number + 1) c.before_by-first.result c.before_by-end.result c.requires.index (omega arith) c.before_by-first.ensures.point c.before_by-end.ensures.point c.before_by-first.ensures.bound c.before_by-end.ensures.bound

pub slice_bounds-result-start : goal.slice_bounds-result-start
slice_bounds-result-start c = in_order c.args.patches.now c.args.touched.now c.args.number (c.args.number + 1) c.before_by-first.result c.before_by-end.result c.requires.index (omega arith) c.before_by-first.ensures.point c.before_by-end.ensures.point c.before_by-first.ensures.bound c.before_by-end.ensures.bound

pub returns-clause-touching : goal.returns-clause-touching
returns-clause-touching c = are_touching c.args.patches.now c.args.touched.now c.args.number c.before_by-first.result c.before_by-end.result c.requires.index c.before_by-first.ensures.point c.before_by-end.ensures.point c.before_by-first.ensures.bound c.before_by-end.ensures.bound

pub returns-clause-only : goal.returns-clause-only
returns-clause-only c = only_touching c.args.touched.now c.args.number c.before_by-first.result c.before_by-end.result c.before_by-first.ensures.point c.before_by-end.ensures.point
