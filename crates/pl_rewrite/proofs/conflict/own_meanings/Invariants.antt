use Rattle.std.proofs.Common.{◌≡◌, drop, map}
use Rattle.pl_base.specs.Each.{each, with_front}
use Rattle.pl_value.specs.Meanings.{meaning, row}
use Rattle.pl_cone.specs.Links.{objects_of}
use Rattle.pl_rewrite.specs.RemainingRows.{given_in}
use Rattle.pl_rewrite.proofs.conflict.own_meanings.Given as goal

abbrev pub invariant-loop-index : goal.invariant-loop-index
invariant-loop-index l = with_front l.all (each (meaning (objects_of l.linking) l.linking.places.now l.linking.modules.now) (drop l.index (map (row 0) l.relocs))) ≡ given_in l.linking 0 l.relocs
