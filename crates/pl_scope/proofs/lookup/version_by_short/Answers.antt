use Rattle.std.proofs.Common.{◌∙◌}
use Rattle.pl_scope.proofs.VersionIndexLaws.{version_found}
use Rattle.pl_scope.proofs.lookup.version_by_short.Goals as goal

pub returns : goal.returns
returns c = λ o has. c.name_of.ensures ∙ version_found o.versions c.versions_at-versions.result.now c.args.word (c.versions_at-versions.ensures o has)
