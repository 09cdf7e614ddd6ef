use Rattle.std.proofs.Common.{◌≡◌, ℕ, None, sym, subst, rules}
use Rattle.std.specs.Option.{option_map}
use Rattle.pl_hash.specs.ChainSymbols.{chain_symbols, rest_from}
use Rattle.pl_scope.proofs.MatchingLaws.{untabled, missed}
use Rattle.pl_scope.proofs.probe.matching_by_table.Goals as goal

pub returns-in_default : goal.returns-in_default
returns-in_default c =
    let wanted = c.args.wanted.now in
    sym (untabled c.args.object.now wanted.name.now (option_map (λ x. x.now) wanted.version) c.requires.fit c.in_default.ensures.none)

pub returns-then-is_none : goal.returns-then-is_none
returns-then-is_none c =
    let wanted = c.args.wanted.now in
    let t = c.in-Some.table.now in
    let none : c.first-start.result ≡ None = search rules in
    let nothing : rest_from None (chain_symbols t c.hash_in-hash.result) ≡ chain_symbols t c.hash_in-hash.result = rw none at c.first-start.ensures.rest in
    sym (missed c.args.object.now t wanted.name.now (option_map (λ x. x.now) wanted.version) c.in-Some.ensures.some
    (subst (λ (h : ℕ). rest_from None (chain_symbols t h) ≡ chain_symbols t h) c.hash_in-hash.ensures nothing))
