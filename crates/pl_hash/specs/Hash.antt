-- The two hash functions of a symbol's name (System V gABI chapter 5, "Hash Table"; the GNU hash table).
use Rattle.std.specs.Prelude.{ℕ, ◌+◌, ◌*◌, ◌/◌, ◌%◌, ◌^◌, ◌-◌, List, bit_and, bit_xor, fold}
use Rattle.pl_hash.specs.declared.hash.TheConstants.{SYSV_TOP, GNU_START}

-- h = (h << 4) + byte; g = h & 0xf0000000; h ^= g >> 24; h &= ~g
unfoldable pub sysv_step : ℕ → ℕ → ℕ
sysv_step hash byte =
    let h = (hash * 16 + byte) % 2 ^ 32 in
    let g = bit_and h SYSV_TOP in
    bit_and (bit_xor h (g / 2 ^ 24)) (2 ^ 32 - 1 - g)

unfoldable pub sysv : List ℕ → ℕ
sysv name = fold sysv_step 0 name

-- h = h * 33 + byte
unfoldable pub gnu_step : ℕ → ℕ → ℕ
gnu_step hash byte = (hash * 33 + byte) % 2 ^ 32

unfoldable pub gnu : List ℕ → ℕ
gnu name = fold gnu_step GNU_START name
