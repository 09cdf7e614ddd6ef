use Rattle.std.proofs.Common.{◌≡◌, ℕ, List, subst}
use Rattle.std.specs.Prelude.{Ok}
use Rattle.pl_base.specs.Answers.{because}
use Rattle.pl_texts.specs.Finds.{HasObject}
use Rattle.pl_texts.specs.Order.{original, refused_file}
use Rattle.pl_texts.specs.Stops.{StopsAlone}
use Rattle.pl_texts.proofs.OrderLemmas.{object_read, object_stopped, object_untaken}
use Rattle.pl_texts.proofs.StopLemmas.{at_err}
use Rattle.pl_texts.proofs.walk.named_object.Goals as goal

pub returns-in_err-bytes-clause-object : goal.returns-in_err-bytes-clause-object
returns-in_err-bytes-clause-object g c =
    let seen = g.D.Folder.seen in
    at_err (λ r. HasObject c.args.name.now r (seen c.args.folder.now) (seen c.take.new.folder)) c.from_residual.result c.in_err-bytes.field-0.0 c.from_residual.ensures.1
    (object_untaken c.args.name.now c.in_err-bytes.field-0.0 c.in_err-bytes.ensures.taken)

pub returns-in_err-object-clause-object : goal.returns-in_err-object-clause-object
returns-in_err-object-clause-object g c =
    let seen = g.D.Folder.seen in
    let stop = c.in_err-object.field-0.0 in
    let stops = subst (λ (bytes : List ℕ). StopsAlone (because (refused_file c.args.name.now) (original bytes)) stop) c.deref.ensures.value c.in_err-object.ensures.stop in
    at_err (λ r. HasObject c.args.name.now r (seen c.args.folder.now) (seen c.take.new.folder)) c.from_residual-in_err-object.result stop c.from_residual-in_err-object.ensures.1
    (object_stopped c.args.name.now c.in_ok-bytes.bytes c.in_ok-bytes.ensures.taken stop stops)

pub returns-clause-object : goal.returns-clause-object
returns-clause-object g c =
    object_read c.args.name.now c.in_ok-bytes.bytes c.in_ok-bytes.ensures.taken _ (subst (λ (bytes : List ℕ). original bytes ≡ Ok c.in_ok-object.object) c.deref.ensures.value c.in_ok-object.ensures.ok)
