use Rattle.std.proofs.Common.{◌+◌, sym, ◌∙◌, arith}
use Rattle.std.specs.Prelude.{◌%◌, ◌==◌, nat_lt}
use Rattle.std.proofs.lemmas.Bool.{ltb-false, or_parts}
use Rattle.pl_build.proofs.checks.is_over_packed.Goals as goal

pub shares_before-requires-clause-fits : goal.shares_before-requires-clause-fits
shares_before-requires-clause-fits c =
    let size = c.args.size in
    let end = c.args.word.offset + 8 in
    let parts = or_parts (c.args.word.offset % 2 == 1) (nat_lt size end) (sym c.is_astray.ensures ∙ c.if-is_astray.false) in
    omega (arith, c.ranges.size, ltb-false size end parts.1)
