use Rattle.std.proofs.Common.{◌≡◌, rules, slice_get}
use Rattle.pl_hash.specs.ChainSymbols.{chain_symbols}
use Rattle.pl_hash.proofs.ChainSymbolLaws.{chain_symbols-distinct, chain_symbol_below, given_first, rest_from-first}
use Rattle.pl_hash.proofs.lookup.first.Goals as goal

pub returns-then-not-admits-clause-once : goal.returns-then-not-admits-clause-once
returns-then-not-admits-clause-once c = chain_symbols-distinct c.args.table.now c.args.hash c.requires

pub returns-clause-within : goal.returns-clause-within
returns-clause-within c = λ index given. chain_symbol_below c.args.table.now c.args.hash index c.requires given

pub returns-clause-once : goal.returns-clause-once
returns-clause-once c = chain_symbols-distinct c.args.table.now c.args.hash c.requires

pub returns-clause-rest : goal.returns-clause-rest
unfolding chain_symbols
returns-clause-rest c =
    let xs = chain_symbols c.args.table.now c.args.hash in
    let value : c.first_matching.result ≡ slice_get xs 0 = search rules in
    rw value (rest_from-first xs)

pub returns-clause-given : goal.returns-clause-given
unfolding chain_symbols
returns-clause-given c =
    let xs = chain_symbols c.args.table.now c.args.hash in
    let value : c.first_matching.result ≡ slice_get xs 0 = search rules in
    rw value (given_first xs)
