use Rattle.std.proofs.Common.{subst}
use Rattle.pl_scope.specs.Folder.{IsWayAt}
use Rattle.pl_scope.specs.ScopeIndex.{HasOwn}
use Rattle.pl_scope.specs.ShortIndex.{HasShort}
use Rattle.pl_scope.specs.declared.lookup.Way.{Way}
use Rattle.pl_scope.proofs.ScopeIndexLaws.{own_below}
use Rattle.pl_scope.proofs.ShortIndexLaws.{versions_below}
use Rattle.pl_scope.proofs.lookup.version_by.Goals as goal

pub version_by_index-requires : goal.version_by_index-requires
version_by_index-requires c =
    let own : HasOwn c.in-Indexed.definers.now c.args.member c.args.object.now = subst (λ (w : Way). IsWayAt w c.args.member c.args.object.now) c.in-Indexed.is c.requires in
    own_below c.in-Indexed.definers.now c.args.member c.args.object.now own

pub returns-in-Indexed : goal.returns-in-Indexed
returns-in-Indexed c =
    let own : HasOwn c.in-Indexed.definers.now c.args.member c.args.object.now = subst (λ (w : Way). IsWayAt w c.args.member c.args.object.now) c.in-Indexed.is c.requires in
    c.version_by_index.ensures c.args.object.now own

pub version_by_short-requires : goal.version_by_short-requires
version_by_short-requires c =
    let own : HasShort c.in-Short.definers.now c.args.member c.args.object.now = subst (λ (w : Way). IsWayAt w c.args.member c.args.object.now) c.in-Short.is c.requires in
    versions_below c.in-Short.definers.now c.args.member c.args.object.now own

pub returns-in-Short : goal.returns-in-Short
returns-in-Short c =
    let own : HasShort c.in-Short.definers.now c.args.member c.args.object.now = subst (λ (w : Way). IsWayAt w c.args.member c.args.object.now) c.in-Short.is c.requires in
    c.version_by_short.ensures c.args.object.now own
