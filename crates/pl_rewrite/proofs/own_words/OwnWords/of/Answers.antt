use Rattle.pl_rewrite.specs.Words.{words_by}
use Rattle.pl_rewrite.proofs.KeptLaws.{words_back}
use Rattle.pl_rewrite.proofs.own_words.OwnWords.of.Goals as goal

pub returns : goal.returns
unfolding words_by
returns c = rw (c.from_vec.ensures, c.in_ok-words.ensures, c.from_vec-2.ensures, c.in_ok-given.ensures) (words_back c.args.rows.now)
