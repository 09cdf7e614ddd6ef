use Rattle.std.proofs.Common.{◌≡◌, take}
use Rattle.std.specs.Prelude.{is_some}
use Rattle.std.specs.List.{flat_map}
use Rattle.pl_image.specs.Lines.{Passes}
use Rattle.pl_image.proofs.TextLemmas.{object_lines}
use Rattle.pl_image.proofs.image.Image.add_objects.Given as goal

abbrev pub invariant-loop-object : goal.invariant-loop-object
invariant-loop-object g l =
    let seen = g.K.Sink.seen in record {
      passes : Passes (seen l.fn.sink).got (seen l.sink).got l.fn.lines.items l.lines.items (flat_map (object_lines l.self) (take l.object-index l.self.objects));
      tells : is_some (seen l.sink).got ≡ is_some (seen l.fn.sink).got;
      quiet : (seen l.sink).faults ≡ (seen l.fn.sink).faults;
    }
