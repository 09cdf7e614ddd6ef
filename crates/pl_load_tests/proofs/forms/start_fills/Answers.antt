use Rattle.pl_load_tests.proofs.forms.start_fills.Goals as goal

pub ordinary-requires-clause-placed : goal.ordinary-requires-clause-placed
ordinary-requires-clause-placed c = c.requires.placed c.args.parts.now
