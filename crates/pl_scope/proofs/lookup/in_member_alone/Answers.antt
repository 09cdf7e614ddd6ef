use Rattle.pl_scope.proofs.lookup.in_member_alone.Goals as goal

pub matching_alone-requires : goal.matching_alone-requires
matching_alone-requires c = c.requires.alone c.object-object.result.now c.object-object.ensures.object
