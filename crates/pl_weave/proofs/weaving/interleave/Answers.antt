use Rattle.std.proofs.Common.{◌≡◌, ◌∙◌, ℕ, [], List, length, map, take, true, refl, ap, sym, subst}
use Rattle.std.proofs.lemmas.List.{take_all}
use Rattle.std.specs.Prelude.{fold}
use Rattle.std.specs.FinMap.{get}
use Rattle.std.specs.List.{list_all}
use Rattle.pl_base.specs.Files.{Files, files_of}
use Rattle.pl_folder.specs.InMemory.{quiet_files}
use Rattle.pl_folder.specs.Seen.{Seen}
use Rattle.pl_journal.specs.Meaning.{HasNoOwn}
use Rattle.pl_place.specs.Policies.{lowest}
use Rattle.pl_place.specs.Policy.{Choice}
use Rattle.pl_script.specs.Script.{is_of}
use Rattle.pl_script.specs.declared.script.Event.TheVariants.{Open}
use Rattle.pl_weave.specs.Opening.{Opened, opened}
use Rattle.pl_weave.specs.Running.{AreStored, IsWeaving, Stands, plain, policies}
use Rattle.pl_weave.specs.Runs.{begun, progress}
use Rattle.pl_weave.specs.Weaving.{Weaving, after}
use Rattle.pl_weave.proofs.ManyLaws.{count_policies, have_policy, policies_new}
use Rattle.pl_weave.proofs.WeavingLemmas.{event_is, plain_new, stored_files, woven_more}
use Rattle.pl_weave.proofs.weaving.interleave.Goals as goal

pub new-requires : goal.new-requires
new-requires g c = c.requires.copy.files_are

pub new-requires-3-clause-no_own : goal.new-requires-3-clause-no_own
new-requires-3-clause-no_own g c =
    let made : quiet_files c.in_ok-folder.folder ≡ files_of c.args.files.now = ap (λ (s : Seen). s.files) c.in_ok-folder.ensures in
    subst (λ (files : Files). HasNoOwn (get files)) (sym made) c.requires.copy.no_own

pub new-requires-3-clause-stored : goal.new-requires-3-clause-stored
new-requires-3-clause-stored g c =
    let made : quiet_files c.in_ok-folder.folder ≡ files_of c.args.files.now = ap (λ (s : Seen). s.files) c.in_ok-folder.ensures in
    subst AreStored (sym made) (stored_files c.args.files.now c.requires.copy.stored)

pub loop-event-init : goal.loop-event-init
loop-event-init g c =
    let made : quiet_files c.in_ok-folder.folder ≡ files_of c.args.files.now = ap (λ (s : Seen). s.files) c.in_ok-folder.ensures in (
      ap policies c.in_ok-weave.ensures ∙ policies_new c.args.placer.now c.args.names.now,
      record {
        loaders_are = λ choose follows. ap (map plain) c.in_ok-weave.ensures ∙ plain_new c.args.placer.now c.args.names.now;
        runs_are = λ choose. subst (λ (files : Files). Stands c.in_ok-running.running (begun files [] c.args.runs.now)) made c.in_ok-running.ensures;
      },
    )

pub step-requires-clause-of : goal.step-requires-clause-of
step-requires-clause-of g c =
    let weave = c.loop-event.weave in
    event_is (length weave) c.args.events.now c.loop-event.event-index (Open 0) c.loop-event-test.true
    (subst (λ (n : ℕ). list_all (is_of n) c.args.events.now ≡ true) (sym (count_policies c.args.placer.now weave c.args.names.now c.loop-event.invariant.0)) c.requires.events)

pub step-requires-clause-chosen : goal.step-requires-clause-chosen
step-requires-clause-chosen g c = record {
  policy = c.args.placer.now;
  may = c.requires.policy.may;
  chooses = c.requires.policy.chooses;
  are = have_policy c.args.placer.now c.loop-event.weave c.args.names.now c.loop-event.invariant.0;
}

-- a folder stands for its runs whatever the policy is
pub step-requires-clause-goes : goal.step-requires-clause-goes
step-requires-clause-goes g c = (_, c.loop-event.invariant.1.runs_are lowest)

pub loop-event-preserved : goal.loop-event-preserved
loop-event-preserved g c =
    let start : Weaving = record { loaders = map (opened tt) c.args.names.now; runs = begun (files_of c.args.files.now) [] c.args.runs.now } in
    let i = c.loop-event.event-index in
    let events = c.args.events.now in
    let more = c.in_ok-step.ensures.woven (λ choose. fold (after choose) start (take i events)) c.args.placer.now (have_policy c.args.placer.now c.loop-event.weave c.args.names.now c.loop-event.invariant.0) c.loop-event.invariant.1 in (
      c.in_ok-step.ensures.policies ∙ c.loop-event.invariant.0,
      record {
        loaders_are = λ choose follows. more.loaders_are choose follows ∙ ap (λ (w : Weaving). w.loaders) (sym (woven_more choose start events i (Open 0) c.loop-event-test.true));
        runs_are = λ choose. subst (λ (w : Weaving). Stands c.step.new.running w.runs) (sym (woven_more choose start events i (Open 0) c.loop-event-test.true)) (more.runs_are choose);
      },
    )

pub progress-requires : goal.progress-requires
progress-requires g c = (_, c.loop-event.invariant.1.runs_are lowest)

pub returns-clause-woven : goal.returns-clause-woven
returns-clause-woven g c =
    let start : Weaving = record { loaders = map (opened tt) c.args.names.now; runs = begun (files_of c.args.files.now) [] c.args.runs.now } in
    let i = c.loop-event.event-index in
    record {
      loaders_are = λ choose follows. c.loop-event.invariant.1.loaders_are choose follows ∙ ap (λ es. (fold (after choose) start es).loaders) (take_all i c.args.events.now c.loop-event-test.false);
      progress_is = λ choose. c.in_ok-runs.ensures (fold (after choose) start (take i c.args.events.now)).runs (c.loop-event.invariant.1.runs_are choose)
          ∙ ap (λ es. progress (fold (after choose) start es).runs) (take_all i c.args.events.now c.loop-event-test.false);
    }

pub returns-clause-policies : goal.returns-clause-policies
returns-clause-policies g c = c.loop-event.invariant.0
