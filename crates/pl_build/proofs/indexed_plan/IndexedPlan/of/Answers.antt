use Rattle.pl_build.proofs.indexed_plan.IndexedPlan.of.Goals as goal

pub invariant_of-result : goal.invariant_of-result
invariant_of-result c = record {
  symbols = rw c.as_slice.ensures at c.in_ok-symbols.ensures;
  versions = rw c.as_slice-2.ensures at c.in_ok-versions.ensures;
  strings = rw c.as_slice-3.ensures at c.in_ok-strings.ensures;
}
