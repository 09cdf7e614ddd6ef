use Rattle.std.proofs.Common.{get_or}
use Rattle.std.proofs.lemmas.List.{get_or_default}
use Rattle.std.proofs.lemmas.Result.{err_from_is_err_and}
use Rattle.pl_base.proofs.RunLaws.{run_more, run_fails, run_done}
use Rattle.pl_cone.specs.Needs.{added}
use Rattle.pl_cone.specs.Skips.{skip_is_memory}
use Rattle.pl_cone.proofs.WalkingLaws.{more_than}
use Rattle.pl_cone.proofs.walking.NumberWalk.append.Goals as goal

pub add-requires-clause-walking : goal.add-requires-clause-walking
add-requires-clause-walking c = record { needs = c.requires.walking.needs; walking = c.loop-number.invariant.walking }

pub returns-in_err-add-clause-names : goal.returns-in_err-add-clause-names
returns-in_err-add-clause-names c =
    let p = err_from_is_err_and c.from_residual.result c.from_residual.ensures.1 in
    let i = c.loop-number.number-index in
    let x = get_or c.args.needed.now i 0 in
    rw (p.1, p.2) (run_fails skip_is_memory (added c.args.needs.now) _ c.args.needed.now i x _ _ c.loop-number-test.true (get_or_default c.args.needed.now i 0 x c.loop-number-test.true) c.in_err-add.ensures.names c.loop-number.invariant.so_far)

pub loop-number-preserved : goal.loop-number-preserved
loop-number-preserved c =
    let i = c.loop-number.number-index in
    let x = get_or c.args.needed.now i 0 in
    record {
      walking = c.in_ok-add.ensures.walking;
      more = more_than c.args.self.now c.loop-number.self c.add.new.self c.loop-number.invariant.more c.in_ok-add.ensures.more;
      so_far = run_more (added c.args.needs.now) _ _ c.args.needed.now i x _ c.loop-number-test.true (get_or_default c.args.needed.now i 0 x c.loop-number-test.true) c.in_ok-add.ensures.names c.loop-number.invariant.so_far;
    }

pub returns-clause-names : goal.returns-clause-names
returns-clause-names c = run_done (added c.args.needs.now) _ c.args.needed.now c.loop-number.number-index _ c.loop-number-test.false c.loop-number.invariant.so_far
