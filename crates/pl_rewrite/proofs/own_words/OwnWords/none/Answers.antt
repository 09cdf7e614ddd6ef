use Rattle.std.proofs.Common.{ℕ, List, ap}
use Rattle.pl_rewrite.specs.Words.{words_by}
use Rattle.pl_rewrite.proofs.own_words.OwnWords.none.Goals as goal

pub returns : goal.returns
unfolding words_by
returns c = ap (λ (ws : List ℕ). words_by ws c.new-2.result) c.new.ensures
