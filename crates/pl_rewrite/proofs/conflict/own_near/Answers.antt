use Rattle.std.proofs.Common.{◌≡◌, ◌<◌, ◌+◌, ◌++◌, [], ◌∷◌, ℕ, Bool, true, false, List, Vec, Global, cond, length, get_or, take, ap, sym, ◌∙◌}
use Rattle.std.specs.Prelude.{filter}
use Rattle.std.proofs.lemmas.List.{append-nil, take_all}
use Rattle.std.proofs.lemmas.List.Elements.{filter_more}
use Rattle.pl_value.specs.declared.meaning.Meaning.{Meaning}
use Rattle.pl_rewrite.specs.RemainingRows.{is_near_word}
use Rattle.pl_rewrite.proofs.conflict.own_near.Goals.{then-is_near_word+in_ok-push, else-is_near_word}
use Rattle.pl_rewrite.proofs.conflict.own_near.Goals as goal

one : (p : Meaning → Bool) (gs : List Meaning) (i : ℕ) (d : Meaning) (front : List Meaning) (b : Bool) → i < length gs → p (get_or gs i d) ≡ b → front ≡ filter p (take i gs) → front ++ cond b (get_or gs i d ∷ []) [] ≡ filter p (take (i + 1) gs)
one p gs i d front b lt is so_far =
    ap (λ (xs : List Meaning). xs ++ cond b (get_or gs i d ∷ []) []) so_far ∙ ap (λ (c : Bool). filter p (take i gs) ++ cond c (get_or gs i d ∷ []) []) (sym is) ∙ sym (filter_more p gs i d lt)

pub loop-meaning-init : goal.loop-meaning-init
loop-meaning-init c = c.new-near.ensures.items

pub loop-meaning-preserved : goal.loop-meaning-preserved
loop-meaning-preserved c = elim c.if-is_near_word.branch [
  | then-is_near_word+in_ok-push w ↦
      ap (λ (v : Vec Meaning Global). v.items) w.near-is ∙ w.in_ok-push.ensures.items
      ∙ one (is_near_word c.args.ranges.now) c.args.own.now c.loop-meaning.meaning-index _ c.loop-meaning.near.items true c.loop-meaning-test.true (sym c.is_near_word.ensures ∙ w.if-is_near_word.true) c.loop-meaning.invariant
  | else-is_near_word w ↦
      ap (λ (v : Vec Meaning Global). v.items) w.near-is ∙ sym (append-nil c.loop-meaning.near.items)
      ∙ one (is_near_word c.args.ranges.now) c.args.own.now c.loop-meaning.meaning-index _ c.loop-meaning.near.items false c.loop-meaning-test.true (sym c.is_near_word.ensures ∙ w.if-is_near_word.false) c.loop-meaning.invariant
]

pub returns : goal.returns
returns c = c.loop-meaning.invariant ∙ ap (filter (is_near_word c.args.ranges.now)) (take_all c.loop-meaning.meaning-index c.args.own.now c.loop-meaning-test.false)
