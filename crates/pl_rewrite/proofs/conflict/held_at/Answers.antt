use Rattle.std.proofs.Common.{get_or, refl, sym, ap, ◌∙◌}
use Rattle.pl_rewrite.specs.declared.row_words.RowWords.{RowWords}
use Rattle.pl_rewrite.proofs.RowsLaws.{told_is}
use Rattle.pl_rewrite.proofs.conflict.held_at.Goals as goal

pub bounds-row_words-row : goal.bounds-row_words-row
bounds-row_words-row c = c.requires.rows c.args.member 0 c.requires.member

pub returns : goal.returns
returns c = c.as_slice.ensures ∙ sym (told_is c.args.walk.now c.args.row_words.now c.args.member (get_or c.args.walk.now c.args.member 0) c.index-row_words-row.result refl (c.requires.rows c.args.member 0 c.requires.member) c.index-row_words-row.is ∙ ap (λ (s : RowWords). s.held) c.index-row_words-row.is)
