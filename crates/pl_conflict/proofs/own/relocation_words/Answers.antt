use Rattle.std.proofs.Common.{ap, map, ◌∙◌}
use Rattle.std.proofs.lemmas.List.{take_all}
use Rattle.pl_scope.specs.Scope.{objects}
use Rattle.pl_conflict.specs.Own.{own_word}
use Rattle.pl_conflict.proofs.OwnLaws.{words_more}
use Rattle.pl_conflict.proofs.own.relocation_words.Goals as goal

pub own_word-requires-clause-reference : goal.own_word-requires-clause-reference
own_word-requires-clause-reference c = c.requires.references c.loop-reloc.reloc-index _ c.loop-reloc-test.true

pub loop-reloc-init : goal.loop-reloc-init
loop-reloc-init c = c.new-words.ensures

pub loop-reloc-preserved : goal.loop-reloc-preserved
loop-reloc-preserved c =
    words_more (own_word (objects c.args.scope.now) c.args.places.now) c.args.relocs.now c.loop-reloc.reloc-index _ c.loop-reloc.words _ _ c.loop-reloc-test.true c.own_word.ensures c.in_ok-push.ensures.ok c.loop-reloc.invariant

pub returns : goal.returns
returns c = c.loop-reloc.invariant ∙ ap (map (own_word (objects c.args.scope.now) c.args.places.now)) (take_all c.loop-reloc.reloc-index c.args.relocs.now c.loop-reloc-test.false)
