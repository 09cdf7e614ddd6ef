-- The files that a table holds, and a disk that begins with them.
use Rattle.std.specs.Prelude.{◌≡◌, ◌<◌, vec_len, vec_capacity}
use Rattle.std.specs.FinMap.{from_entries}
use Rattle.pl_base.specs.Files.{Files}
use Rattle.pl_folder.specs.declared.file_table.FileTable.{FileTable}
use Rattle.pl_folder.specs.Disk.{Disk}
use Rattle.pl_folder.specs.Entries.{entries_of}
use Rattle.pl_folder.specs.Replay.{started}

abbrev pub table_files : FileTable → Files
table_files table = from_entries (entries_of table.files.items)

-- a table has the files that it had
abbrev pub TableHasSameFiles : FileTable → FileTable → Type 0
TableHasSameFiles old new = table_files new ≡ table_files old

-- one file more takes no memory
abbrev pub HasRoom : FileTable → Type 0
HasRoom table = vec_len table.files < vec_capacity table.files

-- a settled disk with the files of a table
abbrev pub started_with : FileTable → Disk
started_with table = started (entries_of table.files.items)
