use Rattle.law_demo.proofs.AnswerLaws.{matched_fast}
use Rattle.law_demo.proofs.fast.matched_loads_are_fast.Goals as goal

pub returns : goal.returns
returns g c = matched_fast
