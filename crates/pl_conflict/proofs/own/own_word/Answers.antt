use Rattle.pl_conflict.proofs.own.own_word.Goals as goal

pub own_word_by-requires-clause-found : goal.own_word_by-requires-clause-found
own_word_by-requires-clause-found c = rw c.reference_of.ensures at c.sought-found.ensures
