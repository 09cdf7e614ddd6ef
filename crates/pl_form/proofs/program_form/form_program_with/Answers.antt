use Rattle.std.proofs.Common.{ap, ◌∙◌, length}
use Rattle.pl_object.proofs.AcceptedLaws.{accepted}
use Rattle.pl_form.proofs.FillLaws.{fills_wanted}
use Rattle.pl_form.proofs.program_form.form_program_with.Goals as goal

pub program_with-requires-clause-flat : goal.program_with-requires-clause-flat
program_with-requires-clause-flat c =
    ap length (c.deref.ensures.value ∙ c.in_ok-flat.ensures) ∙ fills_wanted c.args.original.now c.args.object.now c.args.fills.items c.requires.firm.firm c.requires.fills

pub layout_of-requires-clause-head : goal.layout_of-requires-clause-head
layout_of-requires-clause-head c = (accepted c.args.original.now c.args.object.now c.requires.firm.firm.accepted).head

pub layout_of-requires-clause-few : goal.layout_of-requires-clause-few
layout_of-requires-clause-few c = c.requires.firm.firm.few

pub program_with-requires-clause-source : goal.program_with-requires-clause-source
program_with-requires-clause-source c = record { firm = c.requires.firm; found = record { layout = c.in_ok-layout.ensures; digest = c.requires.digest } }
