use Rattle.pl_form.proofs.FindingLaws.{two_halves}
use Rattle.pl_form.proofs.found.word_or_zeros.Goals as goal

pub returns : goal.returns
returns c = two_halves c.args.xs.now c.args.at _ _ c.half_or_zeros.ensures.value c.half_or_zeros-2.ensures.value
