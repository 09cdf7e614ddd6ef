use Rattle.std.proofs.Common.{◌-◌, List, take, drop, subst, sym}
use Rattle.std.specs.List.Sorted.{IsNonDecreasingBy}
use Rattle.pl_scope.specs.Entries.{AreBetween}
use Rattle.pl_scope.specs.declared.entries.Entry.{Entry}
use Rattle.pl_scope.proofs.EntryLaws.{are_between, in_order}
use Rattle.pl_scope.proofs.SortedLaws.{behind_up}
use Rattle.pl_scope.proofs.sorted.range.Goals as goal

pub first_from-from-requires : goal.first_from-from-requires
first_from-from-requires c = subst (λ (es : List Entry). IsNonDecreasingBy (λ e. e.key) es) (sym c.as_slice-entries.ensures.value) c.requires.rising

pub end_from-to-requires-clause-rising : goal.end_from-to-requires-clause-rising
end_from-to-requires-clause-rising c = subst (λ (es : List Entry). IsNonDecreasingBy (λ e. e.key) es) (sym c.as_slice-entries.ensures.value) c.requires.rising

pub end_from-to-requires-clause-behind : goal.end_from-to-requires-clause-behind
end_from-to-requires-clause-behind c = behind_up c.as_slice-entries.result.now c.args.first c.args.end c.first_from-from.result c.requires.range c.first_from-from.ensures

pub slice_bounds-result-end : goal.slice_bounds-result-end
slice_bounds-result-end c = c.end_from-to.ensures.bound

pub slice_bounds-result-start : goal.slice_bounds-result-start
slice_bounds-result-start c =
    in_order c.as_slice-entries.result.now c.args.first c.args.end c.first_from-from.result c.end_from-to.result c.first_from-from.ensures.point c.end_from-to.ensures.point c.first_from-from.ensures.bound c.end_from-to.ensures.bound c.requires.range

pub slice_bounds-result-count : goal.slice_bounds-result-count
slice_bounds-result-count c =
    in_order c.as_slice-entries.result.now c.args.first c.args.end c.first_from-from.result c.end_from-to.result c.first_from-from.ensures.point c.end_from-to.ensures.point c.first_from-from.ensures.bound c.end_from-to.ensures.bound c.requires.range

pub returns : goal.returns
returns c =
    let es = c.as_slice-entries.result.now in
    let from = c.first_from-from.ensures in
    let to = c.end_from-to.ensures in
    subst (λ (xs : List Entry). AreBetween xs c.args.first c.args.end (take (c.end_from-to.result - c.first_from-from.result) (drop c.first_from-from.result es))) c.as_slice-entries.ensures.value
    (are_between es c.args.first c.args.end c.first_from-from.result c.end_from-to.result from.point to.point from.bound to.bound)
