use Rattle.std.proofs.Common.{◌∙◌, sym}
use Rattle.pl_object.specs.Names.{needed_name}
use Rattle.pl_object.proofs.names.name_at.Goals as goal

pub returns-in-Some-clause-name : goal.returns-in-Some-clause-name
unfolding needed_name
returns-in-Some-clause-name c = c.requires c.args.tag.now.value c.in-Some.name (sym c.in_ok-name.ensures ∙ c.in-Some.is)

pub returns-in-Some-clause-read : goal.returns-in-Some-clause-read
returns-in-Some-clause-read c = c.requires
