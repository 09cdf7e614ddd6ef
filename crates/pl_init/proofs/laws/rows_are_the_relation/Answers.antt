use Rattle.pl_init.proofs.RelationLaws.{relation, found_right}
use Rattle.pl_init.proofs.EarliestLaws.{rows_show_chains}
use Rattle.pl_init.proofs.laws.rows_are_the_relation.Goals as goal

pub returns-clause-relation : goal.returns-clause-relation
returns-clause-relation c = relation

pub returns-clause-chains : goal.returns-clause-chains
returns-clause-chains c = rows_show_chains

pub returns-clause-right : goal.returns-clause-right
returns-clause-right c walked walk = found_right walked
