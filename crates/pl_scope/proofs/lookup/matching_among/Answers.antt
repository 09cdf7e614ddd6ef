use Rattle.std.proofs.Common.{ap}
use Rattle.pl_scope.specs.ShortIndex.{mixed}
use Rattle.pl_scope.proofs.ShortIndexLaws.{short_have, versions_below}
use Rattle.pl_scope.proofs.lookup.matching_among.Goals as goal

pub versions_at-versions-requires : goal.versions_at-versions-requires
versions_at-versions-requires c = versions_below c.args.definers.now c.args.member c.args.object.now c.requires.own

pub matching_listed-requires : goal.matching_listed-requires
matching_listed-requires c = record {
  versions = c.versions_at-versions.ensures c.args.object.now c.requires.own;
  among = short_have c.args.definers.now c.args.member (mixed c.args.wanted.now.gnu) c.args.object.now c.args.wanted.now.name.now c.args.wanted.now.class c.args.among.now c.requires.own (ap mixed c.requires.wanted.gnu) c.requires.among;
}
