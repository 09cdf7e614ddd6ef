use Rattle.pl_scope.specs.Scope.{objects}
use Rattle.pl_value.proofs.LinkableLaws.{all_symbols}
use Rattle.pl_conflict.specs.Own.{own_words}
use Rattle.pl_conflict.proofs.own.own_words_by.Goals as goal

pub words_by-requires-clause-references : goal.words_by-requires-clause-references
words_by-requires-clause-references c =
    rw c.as_slice-relocs.ensures (all_symbols (objects c.args.scope.now) 0 c.object-object.result.now c.object-object.ensures.fit c.object-object.ensures.object)

pub words_by-requires-clause-found : goal.words_by-requires-clause-found
words_by-requires-clause-found c = rw (c.as_slice-relocs.ensures) (rw c.object-object.ensures.object at c.requires.found)

pub returns : goal.returns
unfolding own_words
returns c =
    let words = rw c.as_slice-relocs.ensures at c.in_ok-words.ensures in
    rw c.object-object.ensures.object words
