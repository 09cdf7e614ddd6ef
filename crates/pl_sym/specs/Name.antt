-- The bytes of a symbol's name.
use Rattle.std.specs.Prelude.{ℕ, List, drop, take}
use Rattle.std.specs.Rc.{rc_slice_items}
use Rattle.pl_sym.specs.declared.name.NameBytes.{NameBytes}
use Rattle.pl_sym.specs.declared.name.NameBytes.TheVariants.{Here, Shared, Far}

-- they stand in the symbol, or in strings that names share
abbrev pub bytes_at : NameBytes → List ℕ
bytes_at (Here size bytes) = take size bytes
bytes_at (Shared size start strings) = take size (drop start (rc_slice_items strings))
bytes_at (Far far) = take far.value.size (drop far.value.start (rc_slice_items far.value.strings))
