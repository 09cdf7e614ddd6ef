use Rattle.std.proofs.Common.{◌∙◌}
use Rattle.pl_rewrite.proofs.RowTestLaws.{file_or}
use Rattle.pl_rewrite.proofs.RowWordLaws.{library_row, row_words_program}
use Rattle.pl_rewrite.proofs.row_words.row_words_of.Goals as goal

pub returns-then-not-is_library : goal.returns-then-not-is_library
returns-then-not-is_library c = row_words_program c.args.numbered.now c.args.row c.args.needed.now c.args.link _ (library_row c.args.numbered.now c.args.row _ c.is_library.result (file_or c.args.numbered.now c.args.row c.index-numbered-row.result c.requires.row) c.is_library.ensures ∙ c.if-not-is_library.true) c.only_found.ensures

pub library_row_words-requires-clause-library : goal.library_row_words-requires-clause-library
library_row_words-requires-clause-library c = library_row c.args.numbered.now c.args.row _ c.is_library.result (file_or c.args.numbered.now c.args.row c.index-numbered-row.result c.requires.row) c.is_library.ensures ∙ c.if-not-is_library.false
