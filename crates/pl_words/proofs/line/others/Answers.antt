use Rattle.std.proofs.Common.{◌≡◌, ◌∙◌, ap, ap₂, refl, List, ◌∷◌, map}
use Rattle.clap.specs.Words.{Rule, rule_of}
use Rattle.pl_words.specs.Line.{lettered, others}
use Rattle.pl_words.proofs.line.others.Goals as goal

-- a rule, and then others
next : {x y : Rule} {xs ys : List Rule} → x ≡ y → xs ≡ ys → (x ∷ xs) ≡ (y ∷ ys)
next = ap₂ (λ x xs. x ∷ xs)

pub returns : goal.returns
unfolding others
returns c =
    ap (map rule_of) c.in_ok-from_array.ensures.items
    ∙ next (c.lettered-print_cache.ensures ∙ ap (lettered 112) c.flag.ensures) (next c.option-demo.ensures (next c.flag-weave.ensures (next c.positional_names.ensures refl)))
