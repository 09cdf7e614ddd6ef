use Rattle.std.proofs.Common.{sym, ap, ◌∙◌}
use Rattle.pl_form.specs.Reading.{is_form}
use Rattle.pl_form.proofs.MarkedLaws.{some_when, none_when}
use Rattle.pl_form.proofs.read.if_form.Goals as goal

pub returns-in-Ok-true-clause-exact : goal.returns-in-Ok-true-clause-exact
returns-in-Ok-true-clause-exact c =
    let m = c.args.marked in
    let file = c.args.file.now in
    let flat = c.args.standing.now.flat.items in
    some_when (is_form file m flat) m (sym (c.in-Ok-true.ensures.exact ∙ ap (is_form file m) c.deref.ensures.value) ∙ c.in-Ok-true.field-0-test)

pub returns-in-Ok-true-clause-form : goal.returns-in-Ok-true-clause-form
returns-in-Ok-true-clause-form c = c.in-Ok-true.ensures.form c.in-Ok-true.field-0-test

pub returns-in-Ok-false-clause-exact : goal.returns-in-Ok-false-clause-exact
returns-in-Ok-false-clause-exact c =
    let m = c.args.marked in
    let file = c.args.file.now in
    let flat = c.args.standing.now.flat.items in
    none_when (is_form file m flat) m (sym (c.in-Ok-false.ensures.exact ∙ ap (is_form file m) c.deref.ensures.value) ∙ c.in-Ok-false.field-0-test)

pub returns-in-Ok-false-clause-form : goal.returns-in-Ok-false-clause-form
returns-in-Ok-false-clause-form c = tt
