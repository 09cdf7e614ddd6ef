use Rattle.std.proofs.Common.{ℕ, List, Ok, Err, subst}
use Rattle.pl_change.specs.Answers.{Finds}
use Rattle.pl_change.specs.Looked.{HasMore, no_value, pass_all, passes_at}
use Rattle.pl_change.proofs.FindLemmas.{at_err}
use Rattle.pl_change.proofs.LookedLemmas.{looks_begin, looks_end, looks_names, looks_on, looks_stop, nothing, right_here}
use Rattle.pl_change.proofs.undoing.look_at_all.Goals as goal

pub loop-name-init : goal.loop-name-init
loop-name-init g c = looks_begin (g.D.Folder.seen c.args.folder.now) c.args.asked.now c.new-looked.result c.new-looked.ensures

pub look_at-requires : goal.look_at-requires
look_at-requires g c =
    right_here (g.D.Folder.seen c.args.folder.now) c.args.asked.now c.loop-name.name-index c.name-item.result c.loop-name-test.true c.name-item.is c.loop-name.looked c.loop-name.invariant

pub returns-in_err-look_at-clause-passes : goal.returns-in_err-look_at-clause-passes
returns-in_err-look_at-clause-passes g c =
    let seen = g.D.Folder.seen in
    let a = seen c.args.folder.now in
    let b = seen c.loop-name.folder in
    let fault = c.in_err-look_at.field-0.0 in
    let found = subst (λ (n : List ℕ). Finds (passes_at b.files n) nothing (Err fault) b (seen c.look_at.new.folder)) c.as_str.ensures c.in_err-look_at.ensures.passes in
    at_err (λ r. Finds (pass_all a.files c.args.asked.now) no_value r a (seen c.look_at.new.folder)) c.from_residual.result fault c.from_residual.ensures.1
    (looks_stop a c.args.asked.now c.loop-name.name-index c.name-item.result c.loop-name-test.true c.name-item.is c.loop-name.looked c.loop-name.invariant fault found)

pub loop-name-preserved : goal.loop-name-preserved
loop-name-preserved g c =
    let seen = g.D.Folder.seen in
    let a = seen c.args.folder.now in
    let b = seen c.loop-name.folder in
    let found = subst (λ (n : List ℕ). Finds (passes_at b.files n) nothing (Ok tt) b (seen c.look_at.new.folder)) c.as_str.ensures c.in_ok-look_at.ensures.passes in
    let more = subst (λ (n : List ℕ). HasMore c.loop-name.looked n c.look_at.new.looked) c.as_str.ensures c.in_ok-look_at.ensures.names in
    looks_on a c.args.asked.now c.loop-name.name-index c.name-item.result c.loop-name-test.true c.name-item.is c.loop-name.looked c.loop-name.invariant c.look_at.new.looked found c.in_ok-look_at.ensures.found more

pub returns-clause-passes : goal.returns-clause-passes
returns-clause-passes g c = looks_end (g.D.Folder.seen c.args.folder.now) c.args.asked.now c.loop-name.name-index c.loop-name-test.false c.loop-name.looked c.loop-name.invariant

pub returns-clause-found : goal.returns-clause-found
returns-clause-found g c = c.loop-name.invariant.found

pub returns-clause-names : goal.returns-clause-names
returns-clause-names g c = looks_names (g.D.Folder.seen c.args.folder.now) c.args.asked.now c.loop-name.name-index c.loop-name-test.false c.loop-name.looked c.loop-name.invariant
