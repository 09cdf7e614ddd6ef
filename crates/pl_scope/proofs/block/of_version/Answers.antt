use Rattle.std.proofs.Common.{◌∙◌, sym}
use Rattle.pl_scope.proofs.BlockLaws.{are_rising, none_have, version_here}
use Rattle.pl_scope.proofs.block.of_version.Goals as goal

pub under_version-requires : goal.under_version-requires
under_version-requires c = are_rising c.args.block.now c.args.lists.now c.requires.lists

pub returns-in-None : goal.returns-in-None
returns-in-None c = none_have c.args.block.now c.args.lists.now c.args.version.now c.requires.lists (sym c.key_of.ensures ∙ c.in-None.is)

pub returns-in-Some : goal.returns-in-Some
returns-in-Some c =
    version_here c.args.block.now c.args.lists.now c.args.version.now c.in-Some.key c.under_version.result.now c.requires.block c.requires.lists (sym c.key_of.ensures ∙ c.in-Some.is) c.under_version.ensures
