use Rattle.std.proofs.Common.{◌≡◌, ◌++◌, drop, map}
use Rattle.pl_build.specs.Dynamic.{needed_tags, tag}
use Rattle.pl_dyn.specs.declared.constants.TheConstants.{DT_NEEDED}
use Rattle.pl_build.specs.StringTable.{text_at}
use Rattle.pl_build.proofs.dynamic.needed_tags.Given as goal

abbrev pub invariant-loop-name : goal.invariant-loop-name
invariant-loop-name l = l.tags.items ++ map (λ name. tag DT_NEEDED (text_at l.plan.strings name)) (drop l.name-index l.names) ≡ needed_tags l.plan
