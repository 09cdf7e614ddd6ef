use Rattle.pl_rewrite.proofs.HistoryLaws.{stamps_name_files}
use Rattle.pl_rewrite.proofs.laws.stamps_name_files.Goals as goal

pub returns : goal.returns
returns c = stamps_name_files
