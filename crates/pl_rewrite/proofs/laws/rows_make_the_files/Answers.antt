use Rattle.pl_rewrite.proofs.HistoryLaws.{rows_keep_the_rule, rows_make_the_files}
use Rattle.pl_rewrite.proofs.laws.rows_make_the_files.Goals as goal

pub returns-clause-all : goal.returns-clause-all
returns-clause-all c = rows_make_the_files

pub returns-clause-any : goal.returns-clause-any
returns-clause-any c = rows_keep_the_rule
