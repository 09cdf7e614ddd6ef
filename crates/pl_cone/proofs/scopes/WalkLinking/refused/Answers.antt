use Rattle.std.proofs.Common.{ap, ◌∙◌}
use Rattle.pl_scope.specs.Walk.{Walked}
use Rattle.pl_value.specs.LinkNames.{named_fault}
use Rattle.pl_cone.specs.declared.skip.Skip.TheVariants.{Link}
use Rattle.pl_cone.proofs.scopes.WalkLinking.refused.Goals as goal

pub returns : goal.returns
returns c = ap Link (c.in_ok-named.ensures ∙ ap (λ (w : Walked). named_fault w c.args.fault) c.members.ensures.members)
