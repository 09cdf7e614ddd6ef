use Rattle.std.proofs.Common.{ap, sym, subst, ◌∙◌}
use Rattle.std.specs.Prelude.{Ok}
use Rattle.pl_base.specs.Answers.{because}
use Rattle.pl_scope.specs.Scope.{IsAccepted}
use Rattle.pl_texts.specs.Order.{original, refused_file}
use Rattle.pl_texts.specs.Stops.{StopsAlone}
use Rattle.pl_texts.proofs.OrderLemmas.{accepted_by, original_is, original_refused}
use Rattle.pl_texts.proofs.walk.object_of.Goals as goal

pub returns-in-Ok-clause-ok : goal.returns-in-Ok-clause-ok
returns-in-Ok-clause-ok c = original_is c.args.bytes.now c.in-Ok.file c.in-Ok.ensures.exact ∙ ap Ok (sym c.object_by.ensures)

pub returns-in-Ok-clause-accepted : goal.returns-in-Ok-clause-accepted
returns-in-Ok-clause-accepted c = subst IsAccepted (sym c.object_by.ensures) (accepted_by c.args.bytes.now c.in-Ok.file c.requires c.in-Ok.ensures.is)

pub returns-in_ok-refused-in-Err-clause-stop : goal.returns-in_ok-refused-in-Err-clause-stop
returns-in_ok-refused-in-Err-clause-stop c =
    subst (StopsAlone (because (refused_file c.args.name.now) (original c.args.bytes.now))) (sym c.in_ok-refused-in-Err.ensures) (original_refused c.args.name.now c.args.bytes.now c.in-Err.fault c.in-Err.ensures.exact)
