use Rattle.pl_rewrite.proofs.PlaceLaws.{is_one}
use Rattle.pl_rewrite.proofs.copies.one_of.Goals as goal

pub returns : goal.returns
returns c = is_one c.args.loaded.now c.args.member c.requires
