-- The permission bits of a file that takes the place of another.
use Rattle.std.specs.Prelude.{ℕ, Bool, ◌*◌, ◌&&◌, bit_and, bit_or, if◌then◌else◌}
use Rattle.pl_hostdir.specs.declared.bits.Kept.{Kept}

-- without set-user-id and set-group-id
abbrev pub without_set_ids : ℕ → ℕ
without_set_ids bits = bit_and bits 0o1777

-- the group may do no more than the others
abbrev pub with_group_as_others : ℕ → ℕ
with_group_as_others bits = bit_and bits (bit_or 0o7707 (bit_and bits 0o007 * 8))

-- all of them for the same owner and group
abbrev pub kept_bits : ℕ → Kept → ℕ
kept_bits bits kept =
    if kept.owner && kept.group then bits
    else if kept.group then without_set_ids bits
    else with_group_as_others (without_set_ids bits)
