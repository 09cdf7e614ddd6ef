use Rattle.std.proofs.Common.{ℕ, length, ap, subst, sym, arith}
use Rattle.std.specs.Prelude.{◌==◌}
use Rattle.std.proofs.lemmas.List.{length_push}
use Rattle.pl_rewrite.proofs.FlagLaws.{IsFlagOf, flag_is}
use Rattle.pl_rewrite.proofs.RowByRowLaws.{each_nothing, each_pushed}
use Rattle.pl_rewrite.proofs.row_words.flag_of.Goals as goal

pub loop-index-init : goal.loop-index-init
loop-index-init c = (ap length c.in_ok-flags.ensures.items, each_nothing (IsFlagOf c.args.row) c.in_ok-flags.flags.items c.in_ok-flags.ensures.items)

pub loop-index-preserved : goal.loop-index-preserved
loop-index-preserved c =
    let row = c.args.row in
    let k = c.loop-index.index in
    let one : IsFlagOf row (length c.loop-index.flags.items) (row == k) = subst (λ (i : ℕ). IsFlagOf row i (row == k)) (sym c.loop-index.invariant.0) (flag_is row k) in (
      omega (arith, ap length c.in_ok-push.ensures.items, length_push c.loop-index.flags.items (row == k), c.loop-index.invariant.0),
      each_pushed (IsFlagOf row) c.loop-index.flags.items _ (row == k) c.in_ok-push.ensures.items one c.loop-index.invariant.1,
    )

pub returns : goal.returns
returns c = record { count = omega (arith, c.loop-index.invariant.0); each = c.loop-index.invariant.1 }
