use Rattle.std.proofs.Common.{◌≡◌, ◌+◌, drop}
use Rattle.std.specs.List.{list_any}
use Rattle.pl_base.specs.Windows.{share}
use Rattle.pl_elf.specs.Headers.{loads, segments}
use Rattle.pl_elf.specs.Clauses.{load_windows}
use Rattle.pl_elf.proofs.overlaps.shares_later.Given as goal

abbrev pub invariant-loop-later : goal.invariant-loop-later
invariant-loop-later l =
    list_any (share l.first) (load_windows (loads (drop l.later (segments l.bytes l.header))))
    ≡ list_any (share l.first) (load_windows (loads (drop (l.index + 1) (segments l.bytes l.header))))
