use Rattle.std.proofs.Common.{take}
use Rattle.pl_folder.specs.Replaying.{changes_of}
use Rattle.pl_folder.specs.Tables.{table_files}
use Rattle.pl_folder.proofs.ReplayLemmas.{Covers}
use Rattle.pl_folder.proofs.replay.Replay.table.Given as goal

abbrev pub invariant-loop-change : goal.invariant-loop-change
invariant-loop-change l = Covers l.self (changes_of (take l.change-index l.self.settled.items)) (table_files l.table)
