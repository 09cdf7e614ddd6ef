use Rattle.std.proofs.Common.{ℕ, List, subst, sym}
use Rattle.std.specs.Prelude.{Err}
use Rattle.pl_base.specs.Answers.{because}
use Rattle.pl_build.specs.Build.{build, Builds}
use Rattle.pl_texts.specs.Stops.{MeansAlone, of_recipe_fault}
use Rattle.pl_cli.specs.Writes.{file_by, recipe_cause}
use Rattle.pl_texts.specs.declared.content.Content.{Content}
use Rattle.pl_cli.proofs.ContentLemmas.{unbuilt}
use Rattle.pl_texts.proofs.StopLemmas.{at_err}
use Rattle.pl_cli.proofs.store.file_by.Goals as goal

pub returns-in_err-build-in-Recipe : goal.returns-in_err-build-in-Recipe
returns-in_err-build-in-Recipe c =
    let fault = c.in_err-build-in-Recipe.field-0.0 in
    let bad = subst (λ (recipe : List ℕ). Builds (Err fault) (build recipe)) c.deref.ensures.value c.in_err-build-in-Recipe.ensures in
    subst (λ (kind : Content). MeansAlone (file_by kind c.args.input.items) c.from_residual.result) (sym c.in-Recipe.is)
    (at_err (λ r. MeansAlone (because recipe_cause (build c.args.input.items)) r) c.from_residual.result (of_recipe_fault fault) c.from_residual.ensures.1 (unbuilt c.args.input.items fault bad))
