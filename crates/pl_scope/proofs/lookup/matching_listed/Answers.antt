use Rattle.pl_scope.proofs.lookup.matching_listed.Goals as goal

pub matching_in_block-requires : goal.matching_in_block-requires
matching_in_block-requires c = record { versions = c.requires.versions; place = c.requires.among }
