use Rattle.std.proofs.Common.{◌∙◌, subst}
use Rattle.pl_base.specs.Answers.{Answers}
use Rattle.pl_script.specs.Script.{is_memory, script, script_of}
use Rattle.pl_script.proofs.ScriptLaws.{is_script}
use Rattle.pl_script.proofs.script.read_script.Goals as goal

pub returns-clause-fine : goal.returns-clause-fine
unfolding script
returns-clause-fine c =
    is_script c.args.text.now c.script_of.result (subst (λ lines. Answers is_memory c.script_of.result (script_of lines)) (c.as_slice.ensures.value ∙ c.in_ok-lines.ensures) c.script_of.ensures)
