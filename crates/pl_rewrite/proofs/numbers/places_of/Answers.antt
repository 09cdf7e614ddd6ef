use Rattle.std.proofs.Common.{ap, map, ◌∙◌}
use Rattle.std.proofs.lemmas.List.{take_all}
use Rattle.pl_rewrite.specs.Rows.{number_at}
use Rattle.pl_rewrite.proofs.KeptLaws.{map_more}
use Rattle.pl_rewrite.proofs.RowTestLaws.{column_at}
use Rattle.pl_rewrite.proofs.numbers.places_of.Goals as goal

pub bounds-places-row : goal.bounds-places-row
bounds-places-row c = c.requires c.loop-row.row-index _ c.loop-row-test.true

pub loop-row-preserved : goal.loop-row-preserved
loop-row-preserved c =
    map_more (number_at c.args.places.now) c.args.walk.now c.loop-row.row-index _ c.loop-row.rows _ _ c.loop-row-test.true (column_at c.args.places.now _ _ (c.requires c.loop-row.row-index _ c.loop-row-test.true)) c.in_ok-push.ensures.ok c.loop-row.invariant

pub returns : goal.returns
returns c = c.new.ensures ∙ c.loop-row.invariant ∙ ap (map (number_at c.args.places.now)) (take_all c.loop-row.row-index c.args.walk.now c.loop-row-test.false)
