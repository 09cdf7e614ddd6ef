use Rattle.std.proofs.Common.{◌≡◌, ◌∙◌, rules}
use Rattle.std.proofs.lemmas.Result.{IfOk-weaker}
use Rattle.pl_form.specs.Stored.{stored_headers}
use Rattle.pl_form.proofs.BackLaws.{restored_none, restored_is}
use Rattle.pl_form.proofs.back.restored.Goals as goal

pub returns-then-not-fits_file : goal.returns-then-not-fits_file
returns-then-not-fits_file c = restored_none c.args.undo.now c.args.file.now c.if-not-fits_file.ensures

pub returns : goal.returns
returns c =
    let stored : c.in_ok-stored.stored ≡ stored_headers c.args.undo.now.headers = search rules in
    IfOk-weaker c.original_by.result _ _ (λ o e. restored_is c.args.undo.now c.args.file.now c.in_ok-front.front.items c.in_ok-stored.stored o c.if-not-fits_file.ensures (c.in_ok-front.ensures ∙ c.of.ensures) stored e) c.original_by.ensures
