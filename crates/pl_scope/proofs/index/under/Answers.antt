use Rattle.std.proofs.Common.{◌≡◌, arith}
use Rattle.pl_scope.specs.ShortIndex.{mixed}
use Rattle.pl_scope.proofs.IndexLaws.{behind_next, in_order, under_exact}
use Rattle.pl_scope.proofs.index.under.Goals as goal

pub end_from-end-requires-clause-behind : goal.end_from-end-requires-clause-behind
end_from-end-requires-clause-behind c = behind_next c.args.index.now c.from-number.result c.first_from-first.result c.first_from-first.ensures.bound c.first_from-first.ensures.point.0

pub slice_bounds-result-end : goal.slice_bounds-result-end
slice_bounds-result-end c = c.end_from-end.ensures.bound

pub slice_bounds-result-start : goal.slice_bounds-result-start
slice_bounds-result-start c = in_order c.args.index.now c.from-number.result c.first_from-first.result c.end_from-end.result c.first_from-first.ensures.point c.end_from-end.ensures.point c.first_from-first.ensures.bound c.end_from-end.ensures.bound

pub slice_bounds-result-count : goal.slice_bounds-result-count
slice_bounds-result-count c = in_order c.args.index.now c.from-number.result c.first_from-first.result c.end_from-end.result c.first_from-first.ensures.point c.end_from-end.ensures.point c.first_from-first.ensures.bound c.end_from-end.ensures.bound

pub returns : goal.returns
returns c =
    let is : c.from-number.result ≡ mixed c.args.hash = omega (arith, c.mixed-own.ensures) in
    let first = c.first_from-first.ensures in
    let end = c.end_from-end.ensures in
    under_exact c.args.index.now c.from-number.result c.first_from-first.result c.end_from-end.result first.point end.point first.bound end.bound
    (in_order c.args.index.now c.from-number.result c.first_from-first.result c.end_from-end.result first.point end.point first.bound end.bound)
    c.args.hash (omega arith) c.requires.small is
