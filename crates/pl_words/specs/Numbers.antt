-- Numbers and ranges in words.
use Rattle.std.specs.Prelude.{ℕ, Bool, ◌==◌, ◌&&◌, ◌||◌, ◌^◌, nat_lt, nat_le, List, length, Result, Ok, Err, if◌then◌else◌}
use Rattle.std.specs.List.{list_all, before_first, after_first, position_or_len}
use Rattle.std.specs.Str.Parse.{digits_value}
use Rattle.pl_base.specs.Answers.{◌>>=◌}
use Rattle.pl_base.specs.Sums.{is_aligned}
use Rattle.pl_elf.specs.declared.constants.TheConstants.{ADDRESS_LIMIT, PAGE}
use Rattle.pl_elf.specs.declared.range.Range.{Range}
use Rattle.pl_words.specs.declared.fault.WordsFault.{WordsFault}
use Rattle.pl_words.specs.declared.fault.WordsFault.TheVariants.{Usage}

-- `0` to `9`
unfoldable pub is_decimal_digit : ℕ → Bool
is_decimal_digit d = nat_le 48 d && nat_le d 57

-- these, and `a` to `f`
unfoldable pub is_hexadecimal_digit : ℕ → Bool
is_hexadecimal_digit d = is_decimal_digit d || nat_le 97 d && nat_le d 102

unfoldable pub is_decimal : List ℕ → Bool
is_decimal text = nat_lt 0 (length text) && list_all is_decimal_digit text

unfoldable pub is_hexadecimal : List ℕ → Bool
is_hexadecimal text = nat_lt 0 (length text) && nat_le (length text) 16 && list_all is_hexadecimal_digit text

-- what digits spell, in 64 bits
abbrev pub number : ℕ → List ℕ → Result ℕ WordsFault
number radix digits = if nat_lt (digits_value radix digits) (2 ^ 64) then Ok (digits_value radix digits) else Err Usage

-- digits alone, at least one; zeros may stand first
unfoldable pub decimal : List ℕ → Result ℕ WordsFault
decimal text = if is_decimal text then number 10 text else Err Usage

-- 1 to 16 lower-case digits
unfoldable pub hexadecimal : List ℕ → Result ℕ WordsFault
hexadecimal text = if is_hexadecimal text then number 16 text else Err Usage

-- a range is of whole pages, is not empty, and ends at or below 2^47
unfoldable pub is_range : Range → Bool
is_range range = is_aligned range.start PAGE && is_aligned range.end PAGE && nat_lt range.start range.end && nat_le range.end ADDRESS_LIMIT

-- `-`
abbrev pub is_dash : ℕ → Bool
is_dash byte = byte == 45

abbrev pub of_bounds : ℕ → ℕ → Result Range WordsFault
of_bounds start end = let range : Range = record { start = start; end = end } in if is_range range then Ok range else Err Usage

-- `S-E`: two numbers, with the first `-` between them
unfoldable pub range : List ℕ → Result Range WordsFault
range text =
    if nat_lt (position_or_len is_dash text) (length text) then (do
      start ← hexadecimal (before_first is_dash text)
      end ← hexadecimal (after_first is_dash text)
      of_bounds start end)
    else Err Usage
