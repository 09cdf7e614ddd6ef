use Rattle.std.proofs.Common.{◌∙◌}
use Rattle.pl_scope.proofs.VersionIndexLaws.{version_found}
use Rattle.pl_scope.proofs.lookup.version_by_index.Goals as goal

pub returns : goal.returns
returns c = λ o has.
    let own = c.own_at-own.ensures o has in
    c.name_of.ensures ∙ version_found o.versions c.own_at-own.result.now.versions c.args.word own.named
