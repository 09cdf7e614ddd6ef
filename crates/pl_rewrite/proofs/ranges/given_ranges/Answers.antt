use Rattle.std.proofs.Common.{◌≡◌, ◌<◌, ◌+◌, ◌++◌, [], ◌∷◌, ℕ, List, Option, Some, None, Vec, Global, length, get_or, take, sym, ap, refl, ◌∙◌}
use Rattle.std.specs.List.{cons_option}
use Rattle.std.proofs.lemmas.List.{append-nil, take_all, take_more}
use Rattle.std.proofs.lemmas.List.Elements.{filter_map-append}
use Rattle.pl_elf.specs.declared.range.Range.{Range}
use Rattle.pl_value.specs.declared.meaning.Meaning.{Meaning}
use Rattle.pl_value.specs.declared.word.Word.{Word}
use Rattle.pl_value.specs.declared.word.Word.TheVariants.{Put, Copy, Nothing}
use Rattle.pl_rewrite.specs.Ranges.{range_of, ranges_of}
use Rattle.pl_rewrite.proofs.ranges.given_ranges.Goals.{in-Copy+in_ok-push, in_default}
use Rattle.pl_rewrite.proofs.ranges.given_ranges.Goals as goal

-- the range of one more
more : (gs : List Meaning) (i : ℕ) (d : Meaning) (front new : List Range) (r : Option Range) → i < length gs → r ≡ range_of (get_or gs i d).word → new ≡ front ++ cons_option r [] → front ≡ ranges_of (take i gs) → new ≡ ranges_of (take (i + 1) gs)
unfolding ranges_of
more gs i d front new r lt is pushed so_far =
    pushed ∙ ap (λ (x : Option Range). front ++ cons_option x []) is ∙ ap (λ (rs : List Range). rs ++ cons_option (range_of (get_or gs i d).word) []) so_far
    ∙ sym (filter_map-append (λ (g : Meaning). range_of g.word) (take i gs) (get_or gs i d ∷ [])) ∙ ap ranges_of (sym (take_more gs i d lt))

-- what is no copy has none
no_range : (word : Word) → ((member from bytes : ℕ) → word ≡ Copy member from bytes → ⊥) → None ≡ range_of word
no_range (Put value) other = refl
no_range (Copy member from bytes) other = absurd (other member from bytes refl)
no_range Nothing other = refl

pub loop-meaning-init : goal.loop-meaning-init
unfolding ranges_of
loop-meaning-init c = c.new-ranges.ensures.items

pub loop-meaning-preserved : goal.loop-meaning-preserved
loop-meaning-preserved c = elim c.match-meaning.branch [
  | in-Copy+in_ok-push w ↦
      let bounds = ap (λ (n : ℕ). Some (record { start = w.in-Copy.from; end = n })) w.saturating_add.ensures in
      let pushed = ap (λ (v : Vec Range Global). v.items) w.ranges-is ∙ w.in_ok-push.ensures.items in
      more c.args.meanings.now c.loop-meaning.meaning-index _ c.loop-meaning.ranges.items _ _ c.loop-meaning-test.true (bounds ∙ sym (ap range_of w.in-Copy.is)) pushed c.loop-meaning.invariant
  | in_default w ↦
      let same = ap (λ (v : Vec Range Global). v.items) w.ranges-is ∙ sym (append-nil c.loop-meaning.ranges.items) in
      more c.args.meanings.now c.loop-meaning.meaning-index _ c.loop-meaning.ranges.items _ _ c.loop-meaning-test.true (no_range _ w.in_default.not-Copy) same c.loop-meaning.invariant
]

pub returns : goal.returns
returns c = c.loop-meaning.invariant ∙ ap ranges_of (take_all c.loop-meaning.meaning-index c.args.meanings.now c.loop-meaning-test.false)
