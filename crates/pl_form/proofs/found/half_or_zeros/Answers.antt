use Rattle.pl_form.proofs.FindingLaws.{four_bytes}
use Rattle.pl_form.proofs.found.half_or_zeros.Goals as goal

pub returns-clause-value : goal.returns-clause-value
returns-clause-value c = four_bytes c.args.xs.now c.args.at _ _ _ _ c.byte_or_zero.ensures.value c.byte_or_zero-2.ensures.value c.byte_or_zero-3.ensures.value c.byte_or_zero-4.ensures.value
