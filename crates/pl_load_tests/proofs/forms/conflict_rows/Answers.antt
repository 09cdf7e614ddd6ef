use Rattle.pl_load_tests.proofs.forms.conflict_rows.Goals as goal

pub conflicts-requires-clause-placed : goal.conflicts-requires-clause-placed
conflicts-requires-clause-placed c = c.requires.placed c.args.parts.now
