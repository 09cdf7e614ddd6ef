use Rattle.std.proofs.Common.{◌∙◌, ap}
use Rattle.std.specs.Prelude.{is_some}
use Rattle.pl_build.specs.Checks.{defines}
use Rattle.pl_build.proofs.TextLaws.{stands_in}
use Rattle.pl_build.proofs.checks.is_defined.Goals as goal

pub returns : goal.returns
returns c = c.is_some.ensures ∙ ap is_some c.first.ensures ∙ stands_in defines c.args.lines.now.lines.now c.args.lines.now.versions c.args.version.now c.requires.versions
