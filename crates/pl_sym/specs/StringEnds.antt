-- How many bytes the strings of a table have (gABI chapter 4, "String Table").
use Rattle.std.specs.Prelude.{◌≡◌, ℕ, ◌*◌, List, drop, position, Option, None, slice_index_or}
use Rattle.pl_base.specs.Strings.{is_zero}
use Rattle.pl_sym.specs.declared.string_ends.TheConstants.{BLOCK}

-- the count of bytes of the string that begins at an offset, without the 0 that ends it, where it has an end
unfoldable pub string_size : ℕ → List ℕ → Option ℕ
string_size at strings = position is_zero (drop at strings)

-- for each block of the strings the size of the string that begins where the block does
abbrev pub AreSizes : List ℕ → List (Option ℕ) → Type 0
AreSizes strings sizes = (block : ℕ) → slice_index_or sizes block None ≡ string_size (BLOCK * block) strings
