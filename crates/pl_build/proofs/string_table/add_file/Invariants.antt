use Rattle.std.proofs.Common.{◌≡◌, drop}
use Rattle.std.specs.List.{fold}
use Rattle.pl_build.specs.StringTable.{need_text_added, file_texts_added}
use Rattle.pl_build.proofs.string_table.add_file.Given as goal

abbrev pub invariant-loop-need : goal.invariant-loop-need
invariant-loop-need l = fold (need_text_added l.file) l.strings (drop l.need-index l.needs) ≡ file_texts_added l.needs l.fn.strings l.file
