use Rattle.pl_rewrite.proofs.PlaceLaws.{none_alone}
use Rattle.pl_rewrite.proofs.copies.loads_nothing.Goals as goal

pub returns : goal.returns
returns c = none_alone _ c.new.ensures c.new-loads.ensures
