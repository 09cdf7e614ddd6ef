use Rattle.std.proofs.Common.{◌≡◌, take}
use Rattle.pl_folder.specs.Entries.{entries_of}
use Rattle.pl_folder.proofs.file_table.FileTable.copy.Given as goal

abbrev pub invariant-loop-file : goal.invariant-loop-file
invariant-loop-file l = entries_of l.copies.items ≡ entries_of (take l.file-index l.self.files.items)
