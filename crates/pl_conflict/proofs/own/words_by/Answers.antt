use Rattle.std.proofs.Common.{◌<◌, ap, length, map, ◌∙◌, arith, Option}
use Rattle.std.proofs.lemmas.List.{take_all}
use Rattle.std.proofs.lemmas.Slice.Zip.{AllZip-long}
use Rattle.pl_scope.specs.Scope.{objects}
use Rattle.pl_conflict.specs.Own.{own_word}
use Rattle.pl_conflict.proofs.OwnLaws.{sought_at, words_more}
use Rattle.pl_object.specs.declared.reloc.Reloc.{Reloc}
use Rattle.pl_scope.specs.declared.found.Found.{Found}
use Rattle.pl_value.specs.Definers.{IsSought}
use Rattle.pl_value.specs.Values.{reference}
use Rattle.pl_conflict.proofs.own.words_by.Goals as goal

pub loop-index-init : goal.loop-index-init
loop-index-init c = c.new-words.ensures

pub own_word_by-requires-clause-reference : goal.own_word_by-requires-clause-reference
own_word_by-requires-clause-reference c =
    let lt : c.loop-index.index < length c.args.relocs.now = omega arith in
    c.requires.references c.loop-index.index _ lt

pub own_word_by-requires-clause-found : goal.own_word_by-requires-clause-found
own_word_by-requires-clause-found c =
    let lt : c.loop-index.index < length c.args.relocs.now = omega arith in
    sought_at (objects c.args.scope.now) c.args.relocs.now c.args.found.now c.loop-index.index _ _ c.requires.found lt

pub bounds-found-index : goal.bounds-found-index
bounds-found-index c = omega (arith, AllZip-long (λ (r : Reloc) (x : Option Found). IsSought (objects c.args.scope.now) (reference 0 r) x) c.args.relocs.now c.args.found.now c.requires.found)

pub loop-index-preserved : goal.loop-index-preserved
loop-index-preserved c =
    words_more (own_word (objects c.args.scope.now) c.args.places.now) c.args.relocs.now c.loop-index.index _ c.loop-index.words _ _ (omega arith) c.own_word_by.ensures c.in_ok-push.ensures.ok c.loop-index.invariant

pub returns : goal.returns
returns c = c.loop-index.invariant ∙ ap (map (own_word (objects c.args.scope.now) c.args.places.now)) (take_all c.loop-index.index c.args.relocs.now (omega arith))
