use Rattle.std.proofs.Common.{◌≤◌, sym, eq-eqb, arith}
use Rattle.pl_ver.proofs.ChainLaws.{is_chain_none}
use Rattle.pl_ver.proofs.lengths.has_length.Goals as goal

-- no records are a chain
pub returns-then-count-eq0 : goal.returns-then-count-eq0
returns-then-count-eq0 c = λ passes size section known.
    let none : c.args.count ≤ 0 = omega arith in
    rw (eq-eqb c.args.count 0 c.if-count-eq0.true) (sym (is_chain_none passes size section c.args.count c.args.first none))
