use Rattle.std.proofs.Common.{◌≡◌, drop}
use Rattle.std.specs.List.{fold}
use Rattle.pl_build.specs.StringTable.{file_texts_added, files_added}
use Rattle.pl_build.proofs.string_table.add_files.Given as goal

abbrev pub invariant-loop-file : goal.invariant-loop-file
invariant-loop-file l = fold (file_texts_added l.needs) l.strings (drop l.file-index l.files) ≡ files_added l.needs l.fn.strings l.files
