use Rattle.std.proofs.Common.{◌≡◌, ◌<◌, ◌≤◌, ◌+◌, ◌++◌, [], ◌∷◌, ℕ, zero, suc, Bool, List, Option, None, length, get_or, take, min, refl, ap, sym, ◌∙◌, arith}
use Rattle.std.proofs.lemmas.List.{take_all, take_more}
use Rattle.pl_rewrite.specs.Words.{word_by, words_by}
use Rattle.pl_rewrite.proofs.own_words.words_from.Goals as goal

long : (ws : List ℕ) (gs : List Bool) → length (words_by ws gs) ≡ min (length ws) (length gs)
unfolding words_by
long [] gs = omega arith
long (w ∷ ws) [] = omega arith
long (w ∷ ws) (g ∷ gs) = omega (arith, long ws gs)

at : (ws : List ℕ) (gs : List Bool) (i : ℕ) (x : Option ℕ) (d : ℕ) (e : Bool) → i < length ws → i < length gs → get_or (words_by ws gs) i x ≡ word_by (get_or ws i d) (get_or gs i e)
unfolding words_by
at [] gs i x d e lt low = absurd (omega (arith, lt))
at (w ∷ ws) [] i x d e lt low = absurd (omega (arith, low))
at (w ∷ ws) (g ∷ gs) zero x d e lt low = refl
at (w ∷ ws) (g ∷ gs) (suc i) x d e lt low = at ws gs i x d e (omega (arith, lt)) (omega (arith, low))

more : (ws : List ℕ) (gs : List Bool) (i d : ℕ) (e : Bool) (front new : List (Option ℕ)) (word : Option ℕ) → i < length ws → i < length gs → word ≡ word_by (get_or ws i d) (get_or gs i e) → new ≡ front ++ word ∷ [] → front ≡ take i (words_by ws gs) → new ≡ take (i + 1) (words_by ws gs)
more ws gs i d e front new word lt low is pushed so_far =
    let within : i < length (words_by ws gs) = omega (arith, lt, low, long ws gs) in
    pushed ∙ ap (λ (xs : List (Option ℕ)). xs ++ word ∷ []) so_far ∙ ap (λ (x : Option ℕ). take i (words_by ws gs) ++ x ∷ []) (is ∙ sym (at ws gs i None d e lt low)) ∙ sym (take_more (words_by ws gs) i None within)

pub loop-index-init : goal.loop-index-init
loop-index-init c = c.in_ok-rows.ensures.items

pub loop-index-preserved : goal.loop-index-preserved
loop-index-preserved c = more c.args.words.now c.args.given.now c.loop-index.index _ _ c.loop-index.rows.items _ _ (omega arith) (omega arith) c.word_by.ensures c.in_ok-push.ensures.items c.loop-index.invariant

pub returns : goal.returns
returns c =
    let all : length (words_by c.args.words.now c.args.given.now) ≤ c.loop-index.index = omega (arith, long c.args.words.now c.args.given.now, c.loop-index-test.false, c.min-count.ensures) in
    c.loop-index.invariant ∙ take_all c.loop-index.index (words_by c.args.words.now c.args.given.now) all
