use Rattle.std.proofs.Common.{◌≡◌, ◌++◌, drop, length}
use Rattle.pl_form.specs.Loads.{pieces_of}
use Rattle.pl_loader.proofs.standing.pieces.Given as goal

abbrev pub invariant-loop-segment : goal.invariant-loop-segment
invariant-loop-segment l = l.pieces ++ pieces_of l.place l.bytes (drop (length l.yielded) l.segments) (drop (length l.yielded) l.headers) ≡ pieces_of l.place l.bytes l.segments l.headers
