use Rattle.std.proofs.Common.{◌≡◌, ◌<◌, ◌+◌, ℕ, Bool, false, List, length, get_or, take, ap, sym, ◌∙◌}
use Rattle.std.specs.Prelude.{◌||◌}
use Rattle.std.specs.List.{list_any}
use Rattle.std.proofs.lemmas.List.{take_all}
use Rattle.std.proofs.lemmas.List.Folds.{list_any_at, list_any_more}
use Rattle.pl_elf.specs.Ranges.{has}
use Rattle.pl_elf.specs.declared.range.Range.{Range}
use Rattle.pl_rewrite.specs.Ranges.{is_near, touches}
use Rattle.pl_rewrite.proofs.RangeLaws.{same_near}
use Rattle.pl_rewrite.proofs.ranges.Ranges.is_near.Goals as goal

-- one that does not touch it
more : (start : ℕ) (rs : List Range) (i : ℕ) (d : Range) (b : Bool) → i < length rs → b ≡ touches start (get_or rs i d) → b ≡ false → is_near (take i rs) start ≡ false → is_near (take (i + 1) rs) start ≡ false
more start rs i d b lt is other so_far = list_any_more (touches start) rs i d lt ∙ ap (λ (a : Bool). a || touches start (get_or rs i d)) so_far ∙ sym is ∙ other

pub loop-range-preserved : goal.loop-range-preserved
loop-range-preserved c = more c.args.start c.near-range-items.result.now c.loop-range.range-index _ _ c.loop-range-test.true c.touches.ensures c.if-touches.false c.loop-range.invariant

pub returns-then-touches : goal.returns-then-touches
returns-then-touches c =
    let near = c.near-range-items.result.now in
    let given = c.self.inside.given.items in
    let same : is_near near c.args.start ≡ is_near given c.args.start =
    same_near c.args.start near given (λ a low high. c.near-range-items.ensures.same a low high ∙ ap (list_any (has a)) c.deref.ensures.value ∙ c.self.invariant.same a) in
    sym (list_any_at (touches c.args.start) near c.loop-range.range-index _ c.loop-range-test.true (sym c.touches.ensures ∙ c.if-touches.true)) ∙ same ∙ ap (λ (rs : List Range). is_near rs c.args.start) c.self.view_is

pub returns : goal.returns
returns c =
    let near = c.near-range-items.result.now in
    let given = c.self.inside.given.items in
    let same : is_near near c.args.start ≡ is_near given c.args.start =
    same_near c.args.start near given (λ a low high. c.near-range-items.ensures.same a low high ∙ ap (list_any (has a)) c.deref.ensures.value ∙ c.self.invariant.same a) in
    sym (ap (λ (rs : List Range). is_near rs c.args.start) (sym (take_all c.loop-range.range-index near c.loop-range-test.false)) ∙ c.loop-range.invariant) ∙ same ∙ ap (λ (rs : List Range). is_near rs c.args.start) c.self.view_is
