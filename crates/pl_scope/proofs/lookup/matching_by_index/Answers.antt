use Rattle.std.proofs.Common.{sym, ◌∙◌}
use Rattle.std.specs.Option.{option_map}
use Rattle.pl_scope.proofs.ScopeIndexLaws.{none_matches, own_below, version_keyed}
use Rattle.pl_scope.proofs.lookup.matching_by_index.Goals as goal

pub returns-in_default : goal.returns-in_default
returns-in_default c =
    let wanted = c.args.wanted.now in
    sym (none_matches c.args.definers.now wanted.name.now wanted.class (option_map (λ x. x.now) wanted.version) c.args.member c.args.object.now c.requires.own (sym c.key_of.ensures ∙ c.in_default.is))

pub own_at-own-requires : goal.own_at-own-requires
own_at-own-requires c = own_below c.args.definers.now c.args.member c.args.object.now c.requires.own

pub matching_in_block-requires : goal.matching_in_block-requires
matching_in_block-requires c =
    let own = c.own_at-own.ensures c.args.object.now c.requires.own in
    record {
      versions = own.named;
      place = record {
        versions = own.named;
        definers = own.listed;
        keyed = sym c.key_of.ensures ∙ c.in-Some.is;
        named = λ i s version at definer is. version_keyed c.args.definers.now c.args.member c.args.object.now s.version version c.requires.own is;
      };
    }
