-- The bytes of a text.
use Rattle.std.specs.Prelude.{ℕ, List, string_bytes}
use Rattle.std.specs.Rc.{rc_str_bytes}
use Rattle.pl_base.specs.declared.text.TextBytes.{TextBytes}
use Rattle.pl_base.specs.declared.text.TextBytes.TheVariants.{Own, Shared}

-- they stand in memory of its own, or in memory that texts share
abbrev pub bytes_at : TextBytes → List ℕ
bytes_at (Own text) = string_bytes text
bytes_at (Shared text) = rc_str_bytes text
