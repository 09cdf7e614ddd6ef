-- The data: zeros, and the recipe's words over them, a later one over an earlier one.
use Rattle.std.specs.Prelude.{ℕ, ◌+◌, List, length, replicate, fold, nat_le, if◌then◌else◌}
use Rattle.pl_base.specs.Bytes.{bytes64, put}
use Rattle.pl_elf.specs.declared.constants.TheConstants.{WORD64_SIZE}
use Rattle.pl_build.specs.declared.line.DataWord.{DataWord}

-- a word that passes the data has a fault of its own
unfoldable pub word_put : List ℕ → DataWord → List ℕ
word_put bytes w = if nat_le (w.offset + WORD64_SIZE) (length bytes) then put w.offset (bytes64 w.value) bytes else bytes

unfoldable pub data_bytes : ℕ → List DataWord → List ℕ
data_bytes size words = fold word_put (replicate size 0) words
