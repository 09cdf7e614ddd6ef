use Rattle.pl_loader.proofs.StandingLaws.{fast_marked}
use Rattle.pl_loader.proofs.standing.standing.Goals as goal

pub standing_files-requires-clause-marked : goal.standing_files-requires-clause-marked
standing_files-requires-clause-marked c = fast_marked c.args.files.now c.args.places.now c.requires.one_each c.requires.fast
