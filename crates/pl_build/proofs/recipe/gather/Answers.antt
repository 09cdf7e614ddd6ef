use Rattle.std.proofs.Common.{length, ap, ◌∙◌, arith}
use Rattle.std.specs.List.{fold}
use Rattle.std.proofs.lemmas.Iterator.Adapters.{YieldsList-from_vec}
use Rattle.std.proofs.lemmas.Iterator.Consumers.{YieldsList-end, YieldsList-turn}
use Rattle.std.proofs.lemmas.List.{length_push, take_all}
use Rattle.pl_build.proofs.LoopLaws.{fold_taken}
use Rattle.pl_build.proofs.PackedLaws.{gathered_in_order}
use Rattle.pl_build.specs.Recipe.{empty, sorted_recipe, pushed}
use Rattle.pl_build.proofs.recipe.gather.Goals as goal

pub loop-line-init : goal.loop-line-init
loop-line-init c = c.empty-recipe.ensures

pub loop-line-preserved : goal.loop-line-preserved
loop-line-preserved c =
    let given = c.into_iter-line-iterator.ensures.into_iter_gives in
    let turn = YieldsList-turn (YieldsList-from_vec {s = c.into_iter-line-iterator.result} c.args.lines.items given.0 (given.1 ∙ c.args.lines.ok.0)) c.loop-line.yielded c.loop-line.line-iterator c.loop-line.yielded_by c.next.result c.next.new.self c.in-Some.line c.in-Some.is c.next.ensures.steps in
    rw (length_push c.loop-line.yielded c.in-Some.line)
    (fold_taken pushed empty c.loop-line.recipe _ c.args.lines.items (length c.loop-line.yielded) c.in-Some.line turn.0 turn.1 c.in_ok-add.ensures c.loop-line.invariant)

pub returns : goal.returns
returns c =
    let given = c.into_iter-line-iterator.ensures.into_iter_gives in
    let end = YieldsList-end (YieldsList-from_vec {s = c.into_iter-line-iterator.result} c.args.lines.items given.0 (given.1 ∙ c.args.lines.ok.0)) c.loop-line.yielded c.loop-line.line-iterator c.loop-line.yielded_by c.next.result c.next.new.self c.in-None.is c.next.ensures.steps in
    c.in_ok-whole.ensures ∙ ap sorted_recipe (c.loop-line.invariant ∙ ap (fold pushed empty) (take_all (length c.loop-line.yielded) c.args.lines.items (omega (arith, end.1)))) ∙ gathered_in_order c.args.lines.items
