use Rattle.pl_scope.proofs.EntryLaws.{are_between, in_order}
use Rattle.pl_scope.proofs.entries.between.Goals as goal

pub slice_bounds-result-end : goal.slice_bounds-result-end
slice_bounds-result-end c = c.first_at-to.ensures.bound

pub slice_bounds-result-start : goal.slice_bounds-result-start
slice_bounds-result-start c =
    in_order c.args.entries.now c.args.first c.args.end c.first_at-from.result c.first_at-to.result c.first_at-from.ensures.point c.first_at-to.ensures.point c.first_at-from.ensures.bound c.first_at-to.ensures.bound c.requires.range

pub slice_bounds-result-count : goal.slice_bounds-result-count
slice_bounds-result-count c =
    in_order c.args.entries.now c.args.first c.args.end c.first_at-from.result c.first_at-to.result c.first_at-from.ensures.point c.first_at-to.ensures.point c.first_at-from.ensures.bound c.first_at-to.ensures.bound c.requires.range

pub returns : goal.returns
returns c = are_between c.args.entries.now c.args.first c.args.end c.first_at-from.result c.first_at-to.result c.first_at-from.ensures.point c.first_at-to.ensures.point c.first_at-from.ensures.bound c.first_at-to.ensures.bound
