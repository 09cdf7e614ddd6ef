use Rattle.std.proofs.Common.{◌≡◌, ◌++◌, ℕ, List, length, take, drop, min, ap, ◌∙◌, arith}
use Rattle.std.proofs.lemmas.List.{drop_min, take_min}
use Rattle.pl_rewrite.specs.Copies.{PutsFirst}
use Rattle.pl_rewrite.proofs.copies.put_first.Goals as goal

puts : (first bytes front : List ℕ) (count : ℕ) → count ≡ min (length first) (length bytes) → front ≡ take count first → PutsFirst first bytes (front ++ drop count bytes)
puts first bytes front count is copied =
    let turned : count ≡ min (length bytes) (length first) = omega (arith, is) in
    ap (λ (xs : List ℕ). xs ++ drop count bytes) (copied ∙ ap (λ (n : ℕ). take n first) turned ∙ take_min (length bytes) first)
    ∙ ap (λ (xs : List ℕ). take (length bytes) first ++ xs) (ap (λ (n : ℕ). drop n bytes) is ∙ drop_min (length first) bytes)

pub returns : goal.returns
returns c = puts c.args.first.now c.args.bytes.now c.copy_from_slice.new.self c.min-count.result c.min-count.ensures c.copy_from_slice.ensures.after
