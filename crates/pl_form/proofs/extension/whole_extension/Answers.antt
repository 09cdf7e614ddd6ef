use Rattle.std.proofs.Common.{arith}
use Rattle.pl_form.proofs.ExtensionLaws.{round_near}
use Rattle.pl_form.proofs.extension.whole_extension.Goals as goal

pub overflow_sub-round_up : goal.overflow_sub-round_up
overflow_sub-round_up c = omega (arith, c.round_up.ensures, (round_near c.len-size.result).0)
