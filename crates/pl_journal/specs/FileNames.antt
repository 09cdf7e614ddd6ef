-- Names of files as they are held.
use Rattle.pl_folder.specs.Disk.{Name}
use Rattle.pl_journal.specs.declared.file_name.FileName.{FileName}

abbrev pub name_text : FileName → Name
name_text name = name.text
