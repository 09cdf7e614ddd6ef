use Rattle.law_sound.proofs.Toy.{marks_do_not_bound}
use Rattle.law_sound.proofs.marks_do_not_bound.Goals as goal

pub returns : goal.returns
returns c = marks_do_not_bound c.args.object.now
