use Rattle.std.proofs.Common.{◌∙◌, ap, sym}
use Rattle.pl_build.specs.TextIndex.{is_before}
use Rattle.pl_build.proofs.PackedIndexLaws.{packs_first}
use Rattle.pl_build.proofs.checks.packs_before.Goals as goal

pub returns-in-None : goal.returns-in-None
returns-in-None c = ap (is_before c.args.index) (sym c.in-None.is ∙ c.first.ensures) ∙ packs_first c.args.lines.now.lines.now c.args.lines.now.packed c.args.offset c.args.index c.requires.packed

pub returns-in-Some : goal.returns-in-Some
returns-in-Some c = ap (is_before c.args.index) (sym c.in-Some.is ∙ c.first.ensures) ∙ packs_first c.args.lines.now.lines.now c.args.lines.now.packed c.args.offset c.args.index c.requires.packed
