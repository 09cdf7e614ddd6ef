use Rattle.std.proofs.Common.{◌≡◌, drop}
use Rattle.pl_base.specs.Windows.{any_share}
use Rattle.pl_elf.specs.Headers.{loads, segments}
use Rattle.pl_elf.specs.Clauses.{load_windows}
use Rattle.pl_elf.proofs.overlaps.any_pair_shares.Given as goal

abbrev pub invariant-loop-index : goal.invariant-loop-index
invariant-loop-index l = any_share (load_windows (loads (drop l.index (segments l.bytes l.header)))) ≡ any_share (load_windows (loads (segments l.bytes l.header)))
