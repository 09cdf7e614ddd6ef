-- Ranges of addresses and of file offsets.
use Rattle.std.specs.Prelude.{ℕ, ◌+◌, Bool, ◌&&◌, nat_le, nat_lt}
use Rattle.pl_elf.specs.declared.range.Range.{Range}

-- whether a range has the address
abbrev pub has : ℕ → Range → Bool
has address range = nat_le range.start address && nat_lt address range.end

-- the addresses, or file offsets, from a first one on, as many as size
abbrev pub range_from : ℕ → ℕ → Range
range_from start size = record { start = start; end = start + size }
