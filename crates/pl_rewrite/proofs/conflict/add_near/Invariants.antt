use Rattle.pl_rewrite.proofs.NearLaws.{Nears}
use Rattle.pl_rewrite.proofs.conflict.add_near.Given as goal

abbrev pub invariant-loop-reloc : goal.invariant-loop-reloc
invariant-loop-reloc l = Nears l.linking l.member l.relocs l.ranges l.reloc-index l.fn.near.items l.near.items
