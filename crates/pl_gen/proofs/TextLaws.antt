-- Texts that are added one behind the other.
use Rattle.std.proofs.Common.{◌≡◌, ℕ, List, ◌++◌, ap, ◌∙◌, append_assoc}

-- a text behind another
pub joined : (front after arg a b : List ℕ) → front ≡ a → after ≡ front ++ arg → arg ≡ b → after ≡ a ++ b
joined front after arg a b is push text = push ∙ (ap (λ (z : List ℕ). z ++ arg) is ∙ ap (λ (z : List ℕ). a ++ z) text)

-- a piece more, and what follows it
pub then_text : (before after arg text piece rest all : List ℕ) → after ≡ before ++ arg → arg ≡ text → text ≡ piece → all ≡ after ++ rest → all ≡ before ++ (piece ++ rest)
then_text before after arg text piece rest all push lent is later =
    later ∙ (ap (λ (z : List ℕ). z ++ rest) (push ∙ ap (λ (z : List ℕ). before ++ z) (lent ∙ is)) ∙ append_assoc before piece rest)

-- the first piece
pub first_text : (first piece rest all : List ℕ) → first ≡ piece → all ≡ first ++ rest → all ≡ piece ++ rest
first_text first piece rest all is later = later ∙ ap (λ (z : List ℕ). z ++ rest) is
