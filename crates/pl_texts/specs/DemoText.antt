-- Lines of the text of `--demo`.
use Rattle.std.specs.Prelude.{ℕ, List, [], ◌∷◌, codes}
use Rattle.std.specs.Fmt.{decimal}
use Rattle.hex.specs.Hex.{encode_lower}
use Rattle.pl_base.specs.Digits.{line_text}

unfoldable pub count_line : List ℕ → ℕ → List ℕ
count_line word count = line_text (word ∷ codes " " ∷ decimal count ∷ [])

-- two hexadecimal digits for each byte
unfoldable pub digest_line : List ℕ → List ℕ
digest_line digest = line_text (codes "digest " ∷ encode_lower digest ∷ [])
