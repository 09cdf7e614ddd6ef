use Rattle.std.proofs.Common.{◌≡◌, map, take}
use Rattle.pl_scope.specs.Scope.{objects}
use Rattle.pl_conflict.specs.Own.{own_word}
use Rattle.pl_conflict.proofs.own.words_by.Given as goal

abbrev pub invariant-loop-index : goal.invariant-loop-index
invariant-loop-index l = l.words ≡ map (own_word (objects l.scope) l.places) (take l.index l.relocs)
