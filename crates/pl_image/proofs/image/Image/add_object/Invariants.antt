use Rattle.std.proofs.Common.{◌≡◌, ◌-◌, ◌^◌, ◌≤◌}
use Rattle.std.specs.Prelude.{is_some}
use Rattle.pl_image.specs.Image.{own_memory}
use Rattle.pl_image.specs.Lines.{Passes, lines_from}
use Rattle.pl_image.proofs.image.Image.add_object.Given as goal

abbrev pub invariant-loop-number : goal.invariant-loop-number
invariant-loop-number g l =
    let seen = g.K.Sink.seen in record {
      number : l.number ≤ 2 ^ 44;
      passes : Passes (seen l.fn.sink).got (seen l.sink).got l.fn.lines.items l.lines.items (lines_from (own_memory l.self l.pieces) 0 l.number);
      tells : is_some (seen l.sink).got ≡ is_some (seen l.fn.sink).got;
      quiet : (seen l.sink).faults ≡ (seen l.fn.sink).faults;
    }

abbrev pub decreases-loop-number : goal.decreases-loop-number
decreases-loop-number g l = l.end - l.number
