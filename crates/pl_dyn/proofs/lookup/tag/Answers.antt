-- What is found, or not, is the value that the law speaks of.
use Rattle.std.proofs.Common.{◌∙◌, ap}
use Rattle.pl_dyn.proofs.LookupLaws.{absent}
use Rattle.pl_dyn.specs.Read.{value_of}
use Rattle.pl_dyn.proofs.lookup.tag.Goals as goal

pub returns-clause-absent : goal.returns-clause-absent
returns-clause-absent c = absent c.value_of.result c.args.number c.args.dynamic.now.tags (c.value_of.ensures ∙ ap (value_of c.args.number) c.as_slice.ensures)
