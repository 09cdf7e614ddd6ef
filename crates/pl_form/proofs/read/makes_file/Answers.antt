use Rattle.std.proofs.Common.{sym, ◌∙◌, arith}
use Rattle.std.proofs.lemmas.Result.{IfOk-weaker}
use Rattle.pl_form.proofs.SoundLaws.{sound}
use Rattle.pl_form.proofs.read.makes_file.Goals as goal

pub returns-clause-form : goal.returns-clause-form
returns-clause-form c =
    IfOk-weaker c.is_form.result _ _ (λ b e same. sound c.args.file.now c.args.marked.now c.args.flat.now c.requires.made (λ i. omega (arith, c.type_inv.flat i)) c.requires.file (sym e ∙ same)) c.is_form.ensures
