use Rattle.std.proofs.Common.{◌≡◌, map, take}
use Rattle.pl_scope.specs.Scope.{objects}
use Rattle.pl_conflict.specs.Own.{own_word}
use Rattle.pl_conflict.proofs.own.relocation_words.Given as goal

abbrev pub invariant-loop-reloc : goal.invariant-loop-reloc
invariant-loop-reloc l = l.words ≡ map (own_word (objects l.scope) l.places) (take l.reloc-index l.relocs)
