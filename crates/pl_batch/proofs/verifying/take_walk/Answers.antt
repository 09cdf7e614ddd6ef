use Rattle.std.proofs.Common.{◌≡◌, Some, None, sym, arith}
use Rattle.pl_rewrite.specs.Taken.{names_of}
use Rattle.pl_scope.specs.Walking.{wants}
use Rattle.pl_scope.proofs.WalkLaws.{give_given}
use Rattle.pl_change.specs.Answers.{Finds, of_walk_fault}
use Rattle.pl_batch.specs.Verify.{walked_names}
use Rattle.pl_change.specs.declared.fault.BatchFault.TheVariants.{NoMemory}
use Rattle.pl_change.proofs.FindLemmas.{at_err, lacks_finds, no_asking}
use Rattle.pl_batch.proofs.VerifyLemmas.{begins, ends, goes_on, lacked, no_object, not_given, untaken, wanted_below, were_taken}
use Rattle.pl_batch.proofs.verifying.take_walk.Goals as goal

pub returns-in_err-order-clause-found : goal.returns-in_err-order-clause-found
returns-in_err-order-clause-found g c =
    let a = g.D.Folder.seen c.args.folder.now in
    at_err (λ r. Finds (walked_names a.files c.args.name.now) names_of r a a) c.from_residual.result NoMemory c.from_residual.ensures.1 (lacks_finds (walked_names a.files c.args.name.now) names_of (no_asking a))

pub loop-wanted-init : goal.loop-wanted-init
loop-wanted-init g c = begins (g.D.Folder.seen c.args.folder.now) c.args.name.now c.new-files.result c.in_ok-order.order c.new-files.ensures c.in_ok-order.ensures.begun

pub returns-in_err-taken-clause-found : goal.returns-in_err-taken-clause-found
returns-in_err-taken-clause-found g c =
    let seen = g.D.Folder.seen in
    let a = seen c.args.folder.now in
    let is : wants c.loop-wanted.order ≡ Some c.in-Some.wanted.now = sym c.in-Some.ensures.name in
    let fault = c.in_err-taken.field-0.0 in
    at_err (λ r. Finds (walked_names a.files c.args.name.now) names_of r a (seen c.take_wanted.new.folder)) c.from_residual-in_err-taken.result fault c.from_residual-in_err-taken.ensures.1
    (untaken c.args.name.now c.loop-wanted.files c.loop-wanted.order c.in-Some.wanted.now c.loop-wanted.invariant c.in-Some.ensures.walking is fault c.in_err-taken.ensures.found)

pub returns-in_err-object-clause-found : goal.returns-in_err-object-clause-found
returns-in_err-object-clause-found g c =
    let seen = g.D.Folder.seen in
    let a = seen c.args.folder.now in
    let is : wants c.loop-wanted.order ≡ Some c.in-Some.wanted.now = sym c.in-Some.ensures.name in
    let t = c.in_ok-taken.taken in
    let fault = c.in_err-object.field-0.0 in
    at_err (λ r. Finds (walked_names a.files c.args.name.now) names_of r a (seen c.take_wanted.new.folder)) c.from_residual-in_err-object.result fault c.from_residual-in_err-object.ensures.1
    (no_object c.args.name.now c.loop-wanted.files c.loop-wanted.order c.in-Some.wanted.now c.loop-wanted.invariant c.in-Some.ensures.walking is t c.in_ok-taken.ensures.name c.in_ok-taken.ensures.is c.in_ok-taken.ensures.found fault c.in_err-object.ensures.err)

pub returns-in_err-give-clause-found : goal.returns-in_err-give-clause-found
returns-in_err-give-clause-found g c =
    let seen = g.D.Folder.seen in
    let a = seen c.args.folder.now in
    let is : wants c.loop-wanted.order ≡ Some c.in-Some.wanted.now = sym c.in-Some.ensures.name in
    let t = c.in_ok-taken.taken in
    let fault = c.in_err-give.field-0.0 in
    at_err (λ r. Finds (walked_names a.files c.args.name.now) names_of r a (seen c.take_wanted.new.folder)) c.from_residual-in_err-give.result (of_walk_fault fault) c.from_residual-in_err-give.ensures.1
    (not_given c.args.name.now c.loop-wanted.files c.loop-wanted.order c.in-Some.wanted.now c.loop-wanted.invariant c.in-Some.ensures.walking is t c.in_ok-taken.ensures.name c.in_ok-taken.ensures.is c.in_ok-taken.ensures.found
    c.in_ok-object.object.now c.in_ok-object.ensures.ok fault c.in_err-give.ensures.err)

pub returns-in_err-push-clause-found : goal.returns-in_err-push-clause-found
returns-in_err-push-clause-found g c =
    let seen = g.D.Folder.seen in
    let a = seen c.args.folder.now in
    let is : wants c.loop-wanted.order ≡ Some c.in-Some.wanted.now = sym c.in-Some.ensures.name in
    let t = c.in_ok-taken.taken in
    at_err (λ r. Finds (walked_names a.files c.args.name.now) names_of r a (seen c.take_wanted.new.folder)) c.from_residual-in_err-push.result NoMemory c.from_residual-in_err-push.ensures.1
    (lacked c.args.name.now c.loop-wanted.files c.loop-wanted.order c.in-Some.wanted.now c.loop-wanted.invariant c.in-Some.ensures.walking is t c.in_ok-taken.ensures.name c.in_ok-taken.ensures.is c.in_ok-taken.ensures.found)

pub loop-wanted-smaller : goal.loop-wanted-smaller
loop-wanted-smaller g c =
    let is : wants c.loop-wanted.order ≡ Some c.in-Some.wanted.now = sym c.in-Some.ensures.name in
    let more = give_given c.loop-wanted.order c.give.new.self c.in-Some.wanted.now c.in_ok-object.object.now is c.in_ok-give.ensures.ok in
    let below = wanted_below c.loop-wanted.order c.in-Some.wanted.now c.in-Some.ensures.walking is in
    omega arith

pub loop-wanted-preserved : goal.loop-wanted-preserved
loop-wanted-preserved g c =
    let is : wants c.loop-wanted.order ≡ Some c.in-Some.wanted.now = sym c.in-Some.ensures.name in
    let t = c.in_ok-taken.taken in
    goes_on c.args.name.now c.loop-wanted.files c.loop-wanted.order c.in-Some.wanted.now c.loop-wanted.invariant c.in-Some.ensures.walking is t c.in_ok-taken.ensures.name c.in_ok-taken.ensures.is c.in_ok-taken.ensures.found
    c.in_ok-object.object.now c.in_ok-object.ensures.ok c.give.new.self c.push.new.self c.in_ok-give.ensures.ok c.in_ok-push.ensures.ok

pub returns-clause-found : goal.returns-clause-found
returns-clause-found g c =
    let is : wants c.loop-wanted.order ≡ None = sym (rw c.in_default.is at c.wants.ensures.name) in
    ends c.args.name.now c.loop-wanted.files c.loop-wanted.order c.loop-wanted.invariant is

pub returns-clause-files : goal.returns-clause-files
returns-clause-files g c = c.loop-wanted.invariant.there

pub returns-clause-taken : goal.returns-clause-taken
returns-clause-taken g c =
    let is : wants c.loop-wanted.order ≡ None = sym (rw c.in_default.is at c.wants.ensures.name) in
    were_taken c.args.name.now c.loop-wanted.files c.loop-wanted.order c.loop-wanted.invariant is
