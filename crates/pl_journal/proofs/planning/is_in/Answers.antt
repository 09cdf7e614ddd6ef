use Rattle.std.proofs.Common.{sym, ◌∙◌}
use Rattle.pl_journal.proofs.ListLemmas.{listed_texts}
use Rattle.pl_journal.proofs.planning.is_in.Goals as goal

pub returns : goal.returns
returns c = c.has_name.ensures ∙ sym (listed_texts c.args.name.now c.args.names.now)
