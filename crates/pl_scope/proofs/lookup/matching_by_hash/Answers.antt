use Rattle.std.proofs.Common.{◌∙◌, sym}
use Rattle.std.specs.Option.{option_map}
use Rattle.pl_scope.proofs.MatchingLaws.{classless}
use Rattle.pl_scope.proofs.lookup.matching_by_hash.Goals as goal

pub returns : goal.returns
returns c =
    let wanted = c.args.wanted.now in
    c.matching_by_table.ensures ∙ classless c.args.object.now wanted.name.now wanted.class (option_map (λ x. x.now) wanted.version) (sym c.if-has_canonical.ensures)
