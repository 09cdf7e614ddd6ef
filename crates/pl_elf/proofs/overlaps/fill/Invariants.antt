use Rattle.std.proofs.Common.{◌≡◌, ◌≤◌, ◌++◌, drop, take, length}
use Rattle.pl_elf.specs.Headers.{loads, segments}
use Rattle.pl_elf.specs.Clauses.{load_windows}
use Rattle.pl_elf.proofs.overlaps.fill.Given as goal

abbrev pub invariant-loop-index : goal.invariant-loop-index
invariant-loop-index l =
    (take l.count l.table ++ load_windows (loads (drop l.index (segments l.bytes l.header))) ≡ load_windows (loads (segments l.bytes l.header)))
    × (l.count ≤ l.index) × (l.header.phnum ≤ length l.table)
