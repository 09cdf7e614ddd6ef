use Rattle.std.proofs.Common.{sym, ◌∙◌, arith}
use Rattle.pl_rewrite.proofs.NewLibraryLaws.{new_made}
use Rattle.pl_rewrite.proofs.RowTestLaws.{column_at}
use Rattle.pl_rewrite.proofs.library.new_library.Goals as goal

pub are_set-requires-clause-numbered : goal.are_set-requires-clause-numbered
are_set-requires-clause-numbered c = c.requires.row.numbered

pub are_set-requires-clause-rows : goal.are_set-requires-clause-rows
are_set-requires-clause-rows c = c.requires.row.walk.rows

pub are_set-requires-clause-sources : goal.are_set-requires-clause-sources
are_set-requires-clause-sources c = c.requires.row.walk.sources

pub returns-then-not-set : goal.returns-then-not-set
returns-then-not-set c = sym c.in_ok-set.ensures ∙ c.if-not-set.true

pub digest_at-requires-clause-numbered : goal.digest_at-requires-clause-numbered
digest_at-requires-clause-numbered c = c.requires.row.numbered

pub digest_at-requires-clause-row : goal.digest_at-requires-clause-row
digest_at-requires-clause-row c = c.requires.row.within

pub list_of-requires-clause-numbered : goal.list_of-requires-clause-numbered
list_of-requires-clause-numbered c = c.requires.row.numbered

pub list_of-requires-clause-rows : goal.list_of-requires-clause-rows
list_of-requires-clause-rows c = c.requires.row.walk.rows

pub returns : goal.returns
returns c =
    new_made c.args.numbered.now c.args.row _ c.requires.row.numbered c.requires.row.within c.requires.row.walk c.requires.row.library (sym c.in_ok-set.ensures ∙ c.if-not-set.false)
    (column_at c.args.numbered.now.places.now c.args.row _ (omega (arith, c.requires.row.within, c.requires.row.numbered.places))) (column_at c.args.numbered.now.stamps.now c.args.row _ (omega (arith, c.requires.row.within, c.requires.row.numbered.stamps)))
    c.digest_at.ensures c.in_ok-list.ensures c.requires.words
