use Rattle.pl_init.proofs.rightness.is_right_at.Goals as goal

pub are_steps-requires-clause-seen : goal.are_steps-requires-clause-seen
are_steps-requires-clause-seen c = c.flag.ensures _ c.no_flags-seen.ensures
