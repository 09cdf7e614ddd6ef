use Rattle.std.proofs.Common.{◌<◌, ◌≤◌, ◌∙◌, arith, length, sym}
use Rattle.pl_demo.specs.declared.making.TheConstants.{RECIPE}
use Rattle.pl_demo.proofs.MakingLemmas.{too_long, was_built, was_unbuilt}
use Rattle.pl_demo.proofs.making.made.Goals as goal

pub returns-then-recipe-gt-RECIPE : goal.returns-then-recipe-gt-RECIPE
returns-then-recipe-gt-RECIPE c =
    let more : RECIPE < length c.args.recipe.now = c.if-recipe-gt-RECIPE.true in
    sym (too_long c.args.recipe.now more)

pub returns-in-Ok : goal.returns-in-Ok
returns-in-Ok c =
    let few : length c.args.recipe.now ≤ RECIPE = omega (arith, c.if-recipe-gt-RECIPE.false) in
    c.if_stored.ensures ∙ sym (was_built c.args.recipe.now few c.in-Ok.bytes c.in-Ok.ensures)

pub returns-in-Err : goal.returns-in-Err
returns-in-Err c =
    let few : length c.args.recipe.now ≤ RECIPE = omega (arith, c.if-recipe-gt-RECIPE.false) in
    was_unbuilt c.args.recipe.now few c.in-Err.fault c.unbuilt.result c.in-Err.ensures c.unbuilt.ensures.none c.unbuilt.ensures.bad
