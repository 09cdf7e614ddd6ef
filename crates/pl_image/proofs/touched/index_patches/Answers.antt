use Rattle.std.proofs.Common.{rules}
use Rattle.std.proofs.lemmas.List.Sorted.{IsNonDecreasingBy-from_sort_by_key, answers_always}
use Rattle.pl_image.proofs.TouchLemmas.{index_sorted}
use Rattle.pl_image.proofs.touched.index_patches.Goals as goal

pub returns : goal.returns
returns c =
    index_sorted c.args.patches.now _ _ c.in_ok-touched.ensures c.sort_by_key.ensures.permutation
    (IsNonDecreasingBy-from_sort_by_key (λ t. t.number) _ c.in_ok-sort_by_key.ensures.sorted (λ a r q k. search rules))
    (c.sort_by_key.ensures.stable (λ t. t.number) (answers_always _ _ _ (λ f a r g h. search rules)))
