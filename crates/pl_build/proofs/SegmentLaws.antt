-- How many segments there are at most.
use Rattle.std.proofs.Common.{ℕ, ◌≤◌, Bool, List, length, arith}
use Rattle.std.specs.Prelude.{filter}
use Rattle.std.proofs.lemmas.List.{length-map}
use Rattle.std.proofs.lemmas.List.Sums.{length-filter, count_by-le-length}
use Rattle.pl_build.specs.declared.recipe.Settings.{Settings}
use Rattle.pl_build.specs.declared.roles.PlacedSection.{PlacedSection}
use Rattle.pl_build.specs.Choices.{chosen}
use Rattle.pl_build.specs.Segments.{with_count}

few_chosen : {T : Type 0} (choices : List (Bool × T)) → length (chosen choices) ≤ length choices
unfolding chosen
few_chosen {T = T} choices =
    let there : Bool × T → Bool = λ choice. choice.0 in
    omega (arith, length-map (filter there choices) (λ (choice : Bool × T). choice.1), length-filter there choices, count_by-le-length there choices)

pub few_segments : (s : Settings) (tables_end : ℕ) (dynamic : PlacedSection) (count : ℕ) → length (with_count s tables_end dynamic count) ≤ 7
unfolding with_count
few_segments s tables_end dynamic count = few_chosen _
