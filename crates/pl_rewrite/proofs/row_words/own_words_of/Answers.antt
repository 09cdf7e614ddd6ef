use Rattle.std.proofs.lemmas.Result.{IfOk-weaker}
use Rattle.pl_rewrite.proofs.RowWordLaws.{walk_finds, walk_places, walk_some, walk_words}
use Rattle.pl_rewrite.proofs.row_words.own_words_of.Goals as goal

pub placed-requires : goal.placed-requires
placed-requires c = c.requires.row.numbered

pub own_words_by-words-requires-clause-first : goal.own_words_by-words-requires-clause-first
own_words_by-words-requires-clause-first c = walk_some c.args.numbered.now c.args.row c.in_ok-placed.placed.walk.scope c.requires.row.walk c.in_ok-placed.ensures.walk.scope

pub own_words_by-words-requires-clause-one_each : goal.own_words_by-words-requires-clause-one_each
own_words_by-words-requires-clause-one_each c = walk_places c.args.numbered.now c.args.row c.in_ok-placed.placed.walk.scope c.in_ok-placed.placed.places c.requires.row.walk c.in_ok-placed.ensures.walk.scope c.in_ok-placed.ensures.places

pub own_words_by-words-requires-clause-found : goal.own_words_by-words-requires-clause-found
own_words_by-words-requires-clause-found c = walk_finds c.args.numbered.now c.args.row c.in_ok-placed.placed.walk.scope c.args.found.now c.in_ok-placed.ensures.walk.scope c.requires.found

pub returns : goal.returns
returns c =
    IfOk-weaker c.own_words_by-words.result _ _
    (λ words are. walk_words c.args.numbered.now c.args.row c.in_ok-placed.placed.walk.scope c.in_ok-placed.placed.places words c.requires.row.walk c.in_ok-placed.ensures.walk.scope c.in_ok-placed.ensures.places are) c.own_words_by-words.ensures
