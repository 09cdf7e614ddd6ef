use Rattle.std.proofs.Common.{◌≡◌, ◌∙◌, List, ap, subst, sym, rules}
use Rattle.pl_place.specs.Policy.{Choice}
use Rattle.pl_script.specs.declared.script.Event.{Event}
use Rattle.pl_script.specs.declared.script.Event.TheVariants.{Open, Rename}
use Rattle.pl_weave.specs.Opening.{Opened}
use Rattle.pl_weave.specs.Running.{IsWeaving}
use Rattle.pl_weave.specs.Weaving.{Weaving, after, opened_at}
use Rattle.pl_weave.proofs.WeavingLemmas.{stands_agree, stands_held, stands_stored}
use Rattle.pl_weave.proofs.weaving.step.Goals as goal

pub open-requires-clause-stored : goal.open-requires-clause-stored
open-requires-clause-stored g c = stands_stored c.args.running.now c.requires.goes.0 c.requires.goes.1

pub returns-in_ok-open-in-Open-clause-woven : goal.returns-in_ok-open-in-Open-clause-woven
returns-in_ok-open-in-Open-clause-woven g c w p have weaves =
    let is : c.args.event ≡ Open c.in-Open.loader = search rules in
    let ensures = c.in_ok-open-in-Open.ensures in
    subst (λ (event : Event). IsWeaving (goal.F-post g p) c.open.new.weave (record c.args.running.now { held = c.open.new.held }) (λ choose. after choose (w choose) event)) (sym is) (record {
      loaders_are = λ choose follows. ensures.opens (w choose).runs.files p choose (stands_agree c.args.running.now (w choose).runs (weaves.runs_are choose)) have follows
          ∙ ap (λ (os : List (Opened (Unit {0}))). opened_at choose (w choose).runs.files c.in-Open.loader os) (weaves.loaders_are choose follows);
      runs_are = λ choose. stands_held c.args.running.now (w choose).runs c.open.new.held ensures.same (weaves.runs_are choose);
    })

pub returns-in_ok-rename-in-Rename-clause-woven : goal.returns-in_ok-rename-in-Rename-clause-woven
returns-in_ok-rename-in-Rename-clause-woven g c w p have weaves =
    let is : c.args.event ≡ Rename = search rules in
    subst (λ (event : Event). IsWeaving (goal.F-post g p) c.args.weave.now c.rename.new.self (λ choose. after choose (w choose) event)) (sym is)
    (record { loaders_are = weaves.loaders_are; runs_are = λ choose. c.in_ok-rename-in-Rename.ensures (w choose).runs (weaves.runs_are choose) })
