use Rattle.pl_safe.proofs.AnswerLaws.{answers_are_ordinary}
use Rattle.pl_safe.proofs.law.answers_are_ordinary.Goals as goal

pub returns : goal.returns
returns g c = answers_are_ordinary
