use Rattle.std.proofs.Common.{◌∙◌}
use Rattle.pl_base.specs.Files.{files_of}
use Rattle.pl_weave.specs.Running.{IsWoven}
use Rattle.pl_weave.specs.Weaving.{woven}
use Rattle.pl_weave.proofs.ManyLaws.{count_policies, have_policy}
use Rattle.pl_cli.proofs.WeaveLemmas.{if_ok, text_is}
use Rattle.pl_cli.proofs.weave.weave_placed.Goals as goal

pub interleave-requires-clause-events : goal.interleave-requires-clause-events
interleave-requires-clause-events g c = rw (c.as_slice-loads.ensures, c.as_slice-events.ensures) c.requires.can.script.events

pub interleave-requires-clause-policy : goal.interleave-requires-clause-policy
interleave-requires-clause-policy g c = record { may = c.requires.may; chooses = c.requires.chooses }

pub woven_text-requires-clause-count : goal.woven_text-requires-clause-count
woven_text-requires-clause-count g c = count_policies c.args.placer.now c.in_ok-woven.woven.weave c.as_slice-loads.result.now c.in_ok-woven.ensures.policies

pub woven_text-requires-clause-chosen : goal.woven_text-requires-clause-chosen
woven_text-requires-clause-chosen g c = record { policy = c.args.placer.now; may = c.requires.may; chooses = c.requires.chooses; are = have_policy c.args.placer.now c.in_ok-woven.woven.weave c.as_slice-loads.result.now c.in_ok-woven.ensures.policies }

pub returns : goal.returns
returns g c =
    let script = c.args.script.now in
    let w = c.in_ok-woven.woven in
    let is : IsWoven (goal.F-post g c.args.placer.now) w (λ choose. woven choose (files_of c.args.files.now) script.loads c.args.runs.now script.events) =
    rw (c.as_slice-loads.ensures, c.as_slice-events.ensures) at c.in_ok-woven.ensures.woven in
    if_ok c.woven_text.result
    (λ text told choose follows. told c.args.placer.now choose (have_policy c.args.placer.now w.weave c.as_slice-loads.result.now c.in_ok-woven.ensures.policies) follows
    ∙ text_is choose w.weave w.runs (woven choose (files_of c.args.files.now) script.loads c.args.runs.now script.events) (is.loaders_are choose follows) (is.progress_is choose))
    c.woven_text.ensures
