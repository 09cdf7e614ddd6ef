use Rattle.std.proofs.Common.{◌≡◌, ◌++◌, drop}
use Rattle.pl_elf.specs.Written.{segment_bytes}
use Rattle.pl_form.proofs.LoopLaws.{bytes_of}
use Rattle.pl_form.proofs.bytes.segment_table.Given as goal

abbrev pub invariant-loop-segment : goal.invariant-loop-segment
invariant-loop-segment l = l.table.items ++ bytes_of segment_bytes (drop l.segment-index l.segments) ≡ bytes_of segment_bytes l.segments
