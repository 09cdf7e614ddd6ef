use Rattle.std.proofs.Common.{[], ◌∷◌}
use Rattle.pl_build.specs.Dynamic.{dynamic_table, end_tag, needed_tags, packed_tags, relocation_tags, spare_tags, table_tags, usual_tags, version_tags}
use Rattle.pl_build.specs.PlacedTags.{placed_tags}
use Rattle.pl_build.proofs.TagLaws.{table_written}
use Rattle.pl_build.proofs.dynamic.dynamic_table.Goals as goal

pub returns : goal.returns
unfolding dynamic_table placed_tags
returns c =
    rw (c.in_ok-push_rows.ensures, c.new-out.ensures.items, c.as_slice-2.ensures.value, c.in_ok-extend_from_slice.ensures.items, c.as_slice.ensures.value, c.in_ok-push_placed_tags.ensures, c.in_ok-tags.ensures, c.in_ok-spare_tags.ensures)
    (table_written (needed_tags c.args.plan.now) (table_tags c.args.plan.now c.args.places.now) (relocation_tags c.args.places.now) (packed_tags c.args.places.now) (version_tags c.args.plan.now c.args.places.now) (usual_tags c.args.plan.now) (end_tag ∷ []) (spare_tags c.args.plan.now))
