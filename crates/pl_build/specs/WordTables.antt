-- Words of four bytes, one for each number below another.
use Rattle.std.specs.Prelude.{ℕ, List, map}
use Rattle.std.specs.List.{range_with_len}
use Rattle.pl_build.specs.declared.fields.Field.TheVariants.{Word}
use Rattle.pl_build.specs.Fields.{fields}

abbrev pub words : (ℕ → ℕ) → ℕ → List ℕ
words f n = fields (map (λ k. Word (f k)) (range_with_len 0 n))
