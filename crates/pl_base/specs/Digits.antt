-- Numbers as text, and lines of text. A number in decimal is std's `decimal`.
use Rattle.std.specs.Prelude.{ℕ, zero, suc, ◌+◌, ◌*◌, ◌/◌, ◌%◌, ◌^◌, List, [], ◌∷◌, ◌++◌, nat_lt, if◌then◌else◌}

-- the lower-case digit of a number below 16
abbrev pub hex_digit : ℕ → ℕ
hex_digit digit = if nat_lt digit 10 then 48 + digit else 87 + digit

-- the lowest k hexadecimal digits of a number, the highest of them first
unfoldable pub hex_digits : ℕ → ℕ → List ℕ
hex_digits zero number = []
hex_digits (suc k) number = hex_digit (number / 2 ^ (4 * k) % 16) ∷ hex_digits k number

-- a number as 16 lower-case hexadecimal digits
unfoldable pub hex16 : ℕ → List ℕ
hex16 number = hex_digits 16 number

-- pieces one after the other, and the newline that ends them
abbrev pub line_text : List (List ℕ) → List ℕ
line_text [] = 10 ∷ []
line_text (piece ∷ pieces) = piece ++ line_text pieces
