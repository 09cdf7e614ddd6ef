use Rattle.pl_loader.proofs.OwnLaws.{OwnSoFar}
use Rattle.pl_loader.proofs.slot_places.slot_places.Given as goal

abbrev pub invariant-loop-library : goal.invariant-loop-library
invariant-loop-library l = OwnSoFar l.libraries l.library-index l.initial.taken.items l.taken.items l.places.items l.wants.items
