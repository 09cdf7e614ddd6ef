use Rattle.std.proofs.Common.{◌<◌, ◌∙◌, length, arith, refl, subst}
use Rattle.std.proofs.lemmas.List.{get_or_default}
use Rattle.pl_folder.specs.Calls.{Calls}
use Rattle.pl_folder.specs.Seen.{Done}
use Rattle.pl_journal.specs.Parts.{StepsOn}
use Rattle.pl_journal.specs.declared.step.Step.{Step}
use Rattle.pl_journal.specs.declared.step.Step.TheVariants.{Skip}
use Rattle.pl_journal.proofs.StateLemmas.{next_can, next_there}
use Rattle.pl_journal.proofs.doing.do_next.Goals as goal

pub do_step-requires : goal.do_step-requires
do_step-requires g c =
    let lt : c.args.done < length c.args.steps.now = omega (arith, c.if-done-steps.false) in
    next_there c.args.steps.now c.args.done c.index-steps-done.result lt c.index-steps-done.is (g.D.Folder.seen c.args.held.now.folder) c.requires

pub returns-clause-can : goal.returns-clause-can
returns-clause-can g c =
    let lt : c.args.done < length c.args.steps.now = omega (arith, c.if-done-steps.false) in
    next_can c.args.steps.now c.args.done c.index-steps-done.result lt c.index-steps-done.is c.requires c.in_ok-do_step.ensures.calls

pub returns-clause-calls : goal.returns-clause-calls
returns-clause-calls g c = record {
  next = λ lt. subst (λ (s : Step). Calls Done (StepsOn s) (g.D.Folder.seen c.args.held.now.folder) (g.D.Folder.seen c.do_step.new.held.folder))
      (c.index-steps-done.is ∙ get_or_default c.args.steps.now c.args.done c.index-steps-done.result Skip lt)
      c.in_ok-do_step.ensures.calls;
  none = λ le. absurd (omega (arith, le, c.if-done-steps.false));
  ends = λ le. refl;
}
