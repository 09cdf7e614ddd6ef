use Rattle.std.proofs.Common.{sym, ◌∙◌, arith}
use Rattle.pl_sym.proofs.EndLaws.{size_fits}
use Rattle.pl_sym.proofs.string_ends.size_from.Goals as goal

pub overflow_add-result : goal.overflow_add-result
overflow_add-result c =
    let fits = size_fits c.args.bytes.now c.args.to c.in-Some-later.size (sym c.requires.later ∙ c.in-Some-later.is) in
    omega (arith, fits, c.requires.order)
