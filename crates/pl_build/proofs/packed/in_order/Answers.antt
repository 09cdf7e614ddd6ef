use Rattle.std.proofs.Common.{rules, ◌∙◌, ap}
use Rattle.std.proofs.lemmas.List.Sorted.{IsNonDecreasingBy-from_sort_by_key, answers_always}
use Rattle.pl_build.specs.Recipe.{in_order}
use Rattle.pl_build.specs.declared.line.PackedWord.{PackedWord}
use Rattle.pl_build.proofs.PackedLaws.{sorted_in_order}
use Rattle.pl_build.proofs.packed.in_order.Goals as goal

pub returns : goal.returns
returns c =
    c.from_vec.ensures
    ∙ sorted_in_order _ _
    (IsNonDecreasingBy-from_sort_by_key (λ (w : PackedWord). w.offset) _ c.in_ok-sort_by_key.ensures.sorted (λ a r q k. search rules))
    (c.sort_by_key.ensures.stable (λ (w : PackedWord). w.offset) (answers_always _ _ _ (λ f a r g h. search rules)))
    ∙ ap in_order c.into_vec-sorted.ensures
