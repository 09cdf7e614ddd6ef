-- Three digits are what `{:03}` writes.
use Rattle.std.proofs.Common.{◌≡◌, ℕ, false, ◌-◌, ◌^◌, ◌++◌, List, [], length, replicate, sym, ap, ◌∙◌, arith}
use Rattle.std.specs.Fmt.{digits, decimal, padded_integral, format_spec, char_count}
use Rattle.std.proofs.lemmas.List.{append-nil}
use Rattle.pl_gen.specs.Lines.{three}

pub three_format : (n : ℕ) → three n ≡ padded_integral (format_spec 32 0 4 3 (2 ^ 64 - 1)) false [] (digits 10 false n)
unfolding three padded_integral char_count
three_format n = sym (
    ap (λ (ds : List ℕ). replicate (3 - length (decimal n) - 0 - 0) 48 ++ ds) (append-nil (decimal n))
    ∙ ap (λ (k : ℕ). replicate k 48 ++ decimal n) (omega arith)
    )
