use Rattle.pl_build.specs.Segments.{with_count}
use Rattle.pl_build.proofs.segments.with_count.Goals as goal

pub returns : goal.returns
unfolding with_count
returns c =
    rw (c.has_interp.ensures, c.has_interp-2.ensures, c.has_data.ensures, c.is_there.ensures, c.is_some.ensures, c.table_segment.ensures, c.interp_segment.ensures, c.first_load.ensures, c.second_load.ensures, c.dynamic_segment.ensures, c.tls_segment.ensures, c.stack_segment.ensures, c.new-rows.ensures.items) at c.in_ok-push_chosen.ensures
