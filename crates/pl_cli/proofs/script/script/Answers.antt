use Rattle.std.proofs.Common.{◌∙◌, ℕ, List, ap, subst, sym}
use Rattle.std.specs.Prelude.{Err, Ok}
use Rattle.pl_base.specs.Answers.{Answers}
use Rattle.pl_script.specs.Script.{is_memory, script}
use Rattle.pl_script.specs.declared.script.Script.{Script}
use Rattle.pl_cli.specs.Came.{HasScript}
use Rattle.pl_texts.specs.Stops.{of_read_fault, of_script_fault}
use Rattle.pl_texts.proofs.StopLemmas.{at_err}
use Rattle.pl_cli.proofs.WeaveLemmas.{unread, was_read, was_wrong}
use Rattle.pl_cli.proofs.script.script.Goals as goal

pub returns-in_err-text-clause-script : goal.returns-in_err-text-clause-script
returns-in_err-text-clause-script g c =
    let seen = g.S.Source.seen in
    let fault = c.in_err-text.field-0.0 in
    at_err (λ r. HasScript r (seen c.args.input.now) (seen c.read_all.new.source)) c.from_residual.result (of_read_fault fault) c.from_residual.ensures.1 (unread fault c.in_err-text.ensures)

pub returns-in_err-read_script-clause-script : goal.returns-in_err-read_script-clause-script
returns-in_err-read_script-clause-script g c =
    let seen = g.S.Source.seen in
    let fault = c.in_err-read_script.field-0.0 in
    at_err (λ r. HasScript r (seen c.args.input.now) (seen c.read_all.new.source)) c.from_residual-in_err-read_script.result (of_script_fault fault) c.from_residual-in_err-read_script.ensures.1
    (was_wrong c.in_ok-text.text c.in_ok-text.ensures fault (subst (λ (text : List ℕ). Answers {X = Script} is_memory (Err fault) (script text)) c.deref.ensures.value c.in_err-read_script.ensures.answer))

pub returns-clause-script : goal.returns-clause-script
returns-clause-script g c = was_read c.in_ok-text.text c.in_ok-text.ensures c.in_ok-read_script.field-0 (ap script (sym c.deref.ensures.value) ∙ c.in_ok-read_script.ensures.answer)
