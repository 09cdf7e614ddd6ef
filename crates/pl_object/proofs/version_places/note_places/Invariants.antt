use Rattle.std.proofs.Common.{take}
use Rattle.pl_object.proofs.PlaceLaws.{AreFirst}
use Rattle.pl_object.proofs.version_places.note_places.Given as goal

abbrev pub invariant-loop-place : goal.invariant-loop-place
invariant-loop-place l = AreFirst (take l.place l.rows) l.places
