use Rattle.std.proofs.Common.{sym, ◌∙◌, arith}
use Rattle.pl_rewrite.proofs.RowTestLaws.{fit_library, fit_program}
use Rattle.pl_rewrite.proofs.apart.numbers_fit.Goals as goal

pub returns-then-is_library : goal.returns-then-is_library
returns-then-is_library c = fit_library c.args.object.now c.is_placed.result c.args.slot c.args.stamp (sym c.is_library.ensures ∙ c.if-is_library.true) (omega arith) c.is_placed.ensures

pub returns : goal.returns
returns c = fit_program c.args.object.now c.is_at_zero.result c.args.slot c.args.stamp (sym c.is_library.ensures ∙ c.if-is_library.false) c.is_at_zero.ensures
