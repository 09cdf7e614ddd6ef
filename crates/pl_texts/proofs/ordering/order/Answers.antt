use Rattle.std.proofs.Common.{◌≡◌, List, subst}
use Rattle.pl_texts.specs.Finds.{HasOrdered}
use Rattle.pl_texts.specs.Order.{members_of, order_text}
use Rattle.pl_texts.specs.declared.named_object.NamedObject.{NamedObject}
use Rattle.pl_texts.specs.declared.stop.Stop.TheVariants as stops
use Rattle.pl_texts.proofs.OrderLemmas.{is_ordered, lacks_text, unordered}
use Rattle.pl_texts.proofs.StopLemmas.{at_err}
use Rattle.pl_texts.proofs.ordering.order.Goals as goal

pub returns-in_err-members-clause-ordered : goal.returns-in_err-members-clause-ordered
returns-in_err-members-clause-ordered g c =
    let seen = g.D.Folder.seen in
    at_err (λ r. HasOrdered c.args.name.now c.args.detail r (seen c.args.folder.now) (seen c.walk.new.folder)) c.from_residual.result c.in_err-members.field-0.0 c.from_residual.ensures.1
    (unordered c.args.name.now c.args.detail c.in_err-members.field-0.0 c.in_err-members.ensures.walked)

pub returns-in_err-order_text-clause-ordered : goal.returns-in_err-order_text-clause-ordered
returns-in_err-order_text-clause-ordered g c =
    let seen = g.D.Folder.seen in
    at_err (λ r. HasOrdered c.args.name.now c.args.detail r (seen c.args.folder.now) (seen c.walk.new.folder)) c.from_residual-in_err-order_text.result stops.NoMemory c.from_residual-in_err-order_text.ensures.1
    (lacks_text c.args.name.now c.args.detail c.in_ok-members.members c.in_ok-members.ensures.walked)

pub returns-clause-ordered : goal.returns-clause-ordered
returns-clause-ordered g c =
    let text = c.in_ok-order_text.field-0 in
    is_ordered c.args.name.now c.args.detail c.in_ok-members.members c.in_ok-members.ensures.walked text
    (subst (λ (ms : List NamedObject). text.items ≡ order_text c.args.detail (members_of ms)) c.deref.ensures.value c.in_ok-order_text.ensures)
