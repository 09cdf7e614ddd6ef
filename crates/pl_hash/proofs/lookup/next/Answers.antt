use Rattle.std.proofs.Common.{◌≡◌, slice_get}
use Rattle.pl_hash.specs.ChainSymbols.{chain_symbols, rest_after}
use Rattle.pl_hash.proofs.ChainSymbolLaws.{IsLinked-from, goes_on, chain_symbols-distinct, given_after, next_is, rest_from-next}
use Rattle.pl_hash.proofs.lookup.next.Goals as goal

pub following-requires-clause-linked : goal.following-requires-clause-linked
following-requires-clause-linked c =
    IsLinked-from c.args.table.now c.args.index (goes_on c.args.table.now c.args.hash c.args.index c.requires.formed c.requires.given).linked

pub first_matching-requires-clause-ends : goal.first_matching-requires-clause-ends
first_matching-requires-clause-ends c = rw c.following.ensures (goes_on c.args.table.now c.args.hash c.args.index c.requires.formed c.requires.given).ends

pub returns-clause-value : goal.returns-clause-value
returns-clause-value c =
    rw (c.first_matching.ensures, c.following.ensures) (next_is c.args.table.now c.args.hash c.args.index c.requires.formed c.requires.given)

pub returns-clause-rest : goal.returns-clause-rest
returns-clause-rest c =
    let xs = chain_symbols c.args.table.now c.args.hash in
    let value : c.first_matching.result ≡ slice_get (rest_after c.args.index xs) 0 =
    rw (c.first_matching.ensures, c.following.ensures) (next_is c.args.table.now c.args.hash c.args.index c.requires.formed c.requires.given) in
    rw value (rest_from-next c.args.index xs (chain_symbols-distinct c.args.table.now c.args.hash c.requires.formed))

pub returns-clause-given : goal.returns-clause-given
returns-clause-given c =
    let xs = chain_symbols c.args.table.now c.args.hash in
    let value : c.first_matching.result ≡ slice_get (rest_after c.args.index xs) 0 =
    rw (c.first_matching.ensures, c.following.ensures) (next_is c.args.table.now c.args.hash c.args.index c.requires.formed c.requires.given) in
    rw value (given_after c.args.index xs)
