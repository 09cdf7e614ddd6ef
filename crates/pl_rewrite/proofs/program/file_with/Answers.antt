use Rattle.std.proofs.Common.{refl}
use Rattle.std.proofs.lemmas.Result.{IfOk-weaker}
use Rattle.pl_rewrite.specs.Rows.{firms_of}
use Rattle.pl_rewrite.proofs.FileContentLaws.{file_of_linking, no_linking}
use Rattle.pl_rewrite.proofs.ProgramFormLaws.{linking_of}
use Rattle.pl_rewrite.proofs.ProgramLaws.{first_fills}
use Rattle.pl_rewrite.proofs.program.file_with.Goals as goal

pub contents_of-requires-clause-linking : goal.contents_of-requires-clause-linking
contents_of-requires-clause-linking c =
    linking_of c.args.work.now c.args.row c.args.placed.now _ c.requires.program.work.numbered c.requires.program.program.walk c.requires.placed refl refl c.among-among.ensures.index c.among-among.ensures.positions

pub form_of-requires-clause-fills : goal.form_of-requires-clause-fills
form_of-requires-clause-fills c = first_fills (firms_of c.args.work.now.numbered.now c.args.row) c.in-Ok.ensures.given c.in-Ok.made.fills.items c.in-Ok.ensures.fills

pub returns-in-Ok : goal.returns-in-Ok
returns-in-Ok c =
    IfOk-weaker c.form_of.result _ _
    (λ made e. file_of_linking c.args.work.now c.args.row _ c.args.placed.now c.in-Ok.made c.args.version made c.in-Ok.ensures c.requires.program.work c.requires.program.program c.requires.placed c.requires.program.set refl refl c.among-among.ensures.index c.among-among.ensures.positions e) c.form_of.ensures

pub returns-in-Err-Link : goal.returns-in-Err-Link
returns-in-Err-Link c =
    no_linking c.args.work.now c.args.row c.args.placed.now c.among-among.result c.args.modules.now _ c.args.version c.requires.program.work c.requires.program.program c.requires.placed c.requires.program.set c.among-among.ensures.index c.among-among.ensures.positions (rw c.in-Err-Link.field-0-is at c.in-Err-Link.ensures)
