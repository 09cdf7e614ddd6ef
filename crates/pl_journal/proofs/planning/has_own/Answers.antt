use Rattle.std.proofs.Common.{sym, ◌∙◌}
use Rattle.pl_journal.proofs.ListLemmas.{own_texts}
use Rattle.pl_journal.proofs.planning.has_own.Goals as goal

pub returns : goal.returns
returns c = c.has_own_name.ensures ∙ sym (own_texts c.args.names.now)
