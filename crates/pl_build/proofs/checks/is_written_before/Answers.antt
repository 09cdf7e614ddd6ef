use Rattle.std.proofs.Common.{◌∙◌, ap, sym}
use Rattle.pl_build.specs.Checks.{writes}
use Rattle.pl_build.specs.TextIndex.{is_before}
use Rattle.pl_build.proofs.TextLaws.{stands_before}
use Rattle.pl_build.proofs.checks.is_written_before.Goals as goal

pub returns-in-None : goal.returns-in-None
returns-in-None c = ap (is_before c.args.index) (sym c.in-None.is ∙ c.first.ensures) ∙ stands_before writes c.args.lines.now.lines.now c.args.lines.now.written c.args.name.now c.args.index c.requires.written

pub returns-in-Some : goal.returns-in-Some
returns-in-Some c = ap (is_before c.args.index) (sym c.in-Some.is ∙ c.first.ensures) ∙ stands_before writes c.args.lines.now.lines.now c.args.lines.now.written c.args.name.now c.args.index c.requires.written
