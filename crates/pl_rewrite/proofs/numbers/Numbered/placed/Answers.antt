use Rattle.std.proofs.Common.{List, ℕ, ap, subst, ◌∙◌}
use Rattle.pl_cone.specs.Table.{IsWalkScope}
use Rattle.pl_rewrite.specs.Rows.{places_of}
use Rattle.pl_rewrite.proofs.NumberedLaws.{walk_below, walk_rows}
use Rattle.pl_rewrite.proofs.numbers.Numbered.placed.Goals as goal

pub of-requires-clause-files : goal.of-requires-clause-files
of-requires-clause-files c = c.requires.taken

pub of-requires-clause-rows : goal.of-requires-clause-rows
of-requires-clause-rows c = rw c.walk-rows.ensures (walk_rows c.args.self.now c.args.row c.requires)

pub places_of-requires : goal.places_of-requires
places_of-requires c = rw c.walk-rows.ensures (walk_below c.args.self.now c.args.row c.requires)

pub returns : goal.returns
returns c = record {
  walk = subst (λ (rs : List ℕ). IsWalkScope c.args.self.now.files.now rs c.in_ok-walk.walk) c.walk-rows.ensures c.in_ok-walk.ensures;
  places = c.in_ok-places.ensures ∙ ap (places_of c.args.self.now.places.now) c.walk-rows.ensures;
}
