use Rattle.std.proofs.Common.{◌≡◌, ◌∷◌, [], ◌++◌, ◌-◌, ◌*◌, ◌/◌, ◌%◌, ◌^◌, arith, ◌∙◌, ap}
use Rattle.pl_base.specs.Digits.{hex_digit, hex_digits}
use Rattle.pl_base.proofs.HexLemmas.{hex_step}
use Rattle.pl_texts.proofs.fixed.push_hex.Goals as goal

pub loop-k-preserved : goal.loop-k-preserved
loop-k-preserved c =
    let k = c.loop-k.k in
    let n = c.args.number in
    let digit : c.hex_digit.result ≡ hex_digit (n / 2 ^ (4 * (k - 1)) % 16) = c.hex_digit.ensures in
    let pushed : c.push.new.self.items ≡ c.loop-k.line.items ++ hex_digit (n / 2 ^ (4 * (k - 1)) % 16) ∷ [] = c.push.ensures.items ∙ ap (λ d. c.loop-k.line.items ++ d ∷ []) digit in
    (omega arith, omega (arith, c.push.ensures.len, c.loop-k.invariant.1), ap (λ xs. xs ++ hex_digits (k - 1) n) pushed ∙ hex_step k n c.loop-k.line.items (omega arith) ∙ c.loop-k.invariant.2)
