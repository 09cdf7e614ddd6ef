use Rattle.pl_scope.proofs.FolderLaws.{alone_have}
use Rattle.pl_scope.proofs.lookup.matching_alone.Goals as goal

pub matching_listed-requires-clause-among : goal.matching_listed-requires-clause-among
matching_listed-requires-clause-among c = alone_have c.args.object.now c.args.wanted.now.name.now c.args.wanted.now.class c.args.symbol 0 c.requires
