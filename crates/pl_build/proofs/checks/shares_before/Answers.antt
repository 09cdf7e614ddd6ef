use Rattle.std.proofs.Common.{◌≡◌, ℕ, false, sym, subst, take, ◌∙◌, arith, inl, inr}
use Rattle.std.specs.List.{list_any}
use Rattle.std.proofs.lemmas.Bool.{cases_lt}
use Rattle.pl_build.specs.PackedIndex.{packs_at}
use Rattle.pl_build.proofs.PackedIndexLaws.{shares_hit, shares_miss}
use Rattle.pl_build.proofs.checks.shares_before.Goals as goal

pub loop-other-init : goal.loop-other-init
loop-other-init c = λ k low high. absurd (omega (arith, low, high, c.saturating_sub-start.ensures))

pub returns-then-packs_before : goal.returns-then-packs_before
returns-then-packs_before c =
    sym (shares_hit c.args.offset c.loop-other.other (take c.args.index c.args.lines.now.lines.now) (omega (arith, c.loop-other.auto.other, c.saturating_sub-start.ensures)) (omega (arith, c.loop-other-test.true)) (sym c.packs_before.ensures ∙ c.if-packs_before.true))

pub loop-other-preserved : goal.loop-other-preserved
loop-other-preserved c = λ k low high.
    let before = take c.args.index c.args.lines.now.lines.now in
    elim (cases_lt k c.loop-other.other) [
      | inl earlier ↦ c.loop-other.invariant k low earlier
      | inr here ↦
          let same : c.loop-other.other ≡ k = omega (arith, here, high) in
          subst (λ (n : ℕ). list_any (packs_at n) before ≡ false) same (sym c.packs_before.ensures ∙ c.if-packs_before.false)
    ]

pub returns : goal.returns
returns c = sym (shares_miss c.args.offset (take c.args.index c.args.lines.now.lines.now) (λ k low high. c.loop-other.invariant k low (omega (arith, high, c.loop-other-test.false))))
