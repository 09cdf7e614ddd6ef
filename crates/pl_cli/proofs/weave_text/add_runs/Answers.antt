use Rattle.std.proofs.Common.{◌≡◌, ◌∙◌, ◌∷◌, [], ◌++◌, List, length, length-append, ap, sym, append_assoc, append-nil, arith}
use Rattle.std.specs.Vec.Iter.{into_iter_items}
use Rattle.std.proofs.lemmas.List.{length_push}
use Rattle.pl_cli.specs.Weave.{runs_text}
use Rattle.pl_weave.specs.declared.progress.Progress.{Progress}
use Rattle.pl_cli.proofs.WeaveTextLemmas.{none_left, run_added}
use Rattle.pl_cli.proofs.weave_text.add_runs.Goals as goal

pub overflow_add-number : goal.overflow_add-number
overflow_add-number c =
    let at = c.loop-run in
    let whole = ap length at.invariant.all in
    let parts = length-append at.yielded (into_iter_items at.run-iterator) in
    let step = ap length c.in-Some.ensures.steps.0 in
    omega (arith, at.invariant.number, at.invariant.few, whole, parts, step)

pub loop-run-preserved : goal.loop-run-preserved
loop-run-preserved c =
    let at = c.loop-run in
    let run = c.in-Some.run' in
    let rest = c.next.new.self in
    let steps : into_iter_items at.run-iterator ≡ run ∷ into_iter_items rest = c.in-Some.ensures.steps.0 in
    record {
      number = omega (arith, at.invariant.number, length_push at.yielded run);
      text = run_added at.yielded run at.number c.args.out.now.items at.out.items c.add_run.new.out.items at.invariant.number c.in_ok-add_run.ensures at.invariant.text;
      all = append_assoc at.yielded (run ∷ []) (into_iter_items rest) ∙ rw (← steps) at.invariant.all;
      left = let short = ap length steps in omega (arith, at.invariant.left, c.in-Some.ensures.steps.1, short);
      few = at.invariant.few;
    }

pub returns : goal.returns
returns c =
    let at = c.loop-run in
    let empty : into_iter_items at.run-iterator ≡ [] = none_left _ (sym at.invariant.left ∙ c.in-None.ensures.steps.0) in
    let all : at.yielded ≡ c.args.runs.items = sym (append-nil at.yielded) ∙ rw empty at at.invariant.all ∙ c.into_iter-run-iterator.ensures.into_iter_gives.0 in
    at.invariant.text ∙ ap (λ (ps : List Progress). c.args.out.now.items ++ runs_text 0 ps) all
