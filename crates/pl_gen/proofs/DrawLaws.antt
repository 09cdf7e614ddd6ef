-- Words that are drawn one after the other.
use Rattle.std.proofs.Common.{zero-add, ◌≡◌, ℕ, zero, suc, ◌+◌, ◌-◌, ◌<◌, ◌≤◌, List, [], ◌∷◌, ◌++◌, length, refl, sym, ap, subst, ◌∙◌, append_assoc, arith}
use Rattle.std.proofs.lemmas.List.{append-nil}
use Rattle.rand_pcg.specs.Lcg.{Lcg}
use Rattle.rand_pcg.specs.Pcg.{pcg64}
use Rattle.pl_gen.specs.Draws.{words, after}

-- ---- one word more

pub words_more : (count turn : ℕ) (g h : Lcg) (w : ℕ) (so_far pushed whole : List ℕ) → turn < count → (w, h) ≡ pcg64 g → pushed ≡ so_far ++ w ∷ [] → so_far ++ words (count - turn) g ≡ whole → pushed ++ words (count - (turn + 1)) h ≡ whole
unfolding words
words_more count turn g h w so_far pushed whole lt step push before =
    let left : ℕ = count - (turn + 1) in
    let some : count - turn ≡ suc (count - (turn + 1)) = omega (arith, lt) in
    let opened : so_far ++ ((pcg64 g).0 ∷ words (count - (turn + 1)) (pcg64 g).1) ≡ whole = subst (λ (k : ℕ). so_far ++ words k g ≡ whole) some before in
    ap (λ (z : List ℕ). z ++ words (count - (turn + 1)) h) push
    ∙ (append_assoc so_far (w ∷ []) (words (count - (turn + 1)) h)
    ∙ (ap (λ (p : ℕ × Lcg). so_far ++ (p.0 ∷ words (count - (turn + 1)) p.1)) step ∙ opened))

pub after_more : (count turn : ℕ) (g h : Lcg) (w : ℕ) (last : Lcg) → turn < count → (w, h) ≡ pcg64 g → after (count - turn) g ≡ last → after (count - (turn + 1)) h ≡ last
unfolding after
after_more count turn g h w last lt step before =
    let some : count - turn ≡ suc (count - (turn + 1)) = omega (arith, lt) in
    let opened : after (count - (turn + 1)) (pcg64 g).1 ≡ last = subst (λ (k : ℕ). after k g ≡ last) some before in
    ap (λ (p : ℕ × Lcg). after (count - (turn + 1)) p.1) step ∙ opened

pub words_all : (count turn : ℕ) (g : Lcg) (so_far whole : List ℕ) → count ≤ turn → so_far ++ words (count - turn) g ≡ whole → so_far ≡ whole
unfolding words
words_all count turn g so_far whole past before =
    let none : count - turn ≡ 0 = omega (arith, past) in
    let opened : so_far ++ [] ≡ whole = subst (λ (k : ℕ). so_far ++ words k g ≡ whole) none before in
    sym (append-nil so_far) ∙ opened

pub after_all : (count turn : ℕ) (g last : Lcg) → count ≤ turn → after (count - turn) g ≡ last → g ≡ last
unfolding after
after_all count turn g last past before =
    let none : count - turn ≡ 0 = omega (arith, past) in
    let opened : g ≡ last = subst (λ (k : ℕ). after k g ≡ last) none before in
    opened

-- ---- words after words

pub after_after : (a b : ℕ) (g : Lcg) → after b (after a g) ≡ after (a + b) g
unfolding after
after_after zero b g = ap (λ (k : ℕ). after k g) (sym (zero-add b))
after_after (suc a) b g =
    let next : suc (a + b) ≡ suc a + b = omega arith in
    after_after a b (pcg64 g).1 ∙ ap (λ (k : ℕ). after k g) next

pub words_long : (count : ℕ) (g : Lcg) → length (words count g) ≡ count
unfolding words
words_long zero g = refl
words_long (suc count) g = ap suc (words_long count (pcg64 g).1)
