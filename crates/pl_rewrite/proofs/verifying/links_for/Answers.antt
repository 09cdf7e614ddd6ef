use Rattle.std.proofs.Common.{ℕ, length, sym, ap, subst, arith}
use Rattle.std.proofs.lemmas.List.{length_push}
use Rattle.pl_rewrite.specs.RowWords.{IsLinkIf}
use Rattle.pl_rewrite.proofs.RowByRowLaws.{each_nothing, each_pushed}
use Rattle.pl_rewrite.proofs.verifying.links_for.Goals as goal

pub loop-row-init : goal.loop-row-init
loop-row-init c = (ap length c.new-links.ensures, each_nothing (IsLinkIf c.args.numbered.now c.args.needed.now) c.new-links.result c.new-links.ensures)

pub loop-row-preserved : goal.loop-row-preserved
loop-row-preserved c =
    let n = c.args.numbered.now in
    let one = subst (λ (k : ℕ). IsLinkIf n c.args.needed.now k c.in_ok-link_if.field-0) (sym c.loop-row.invariant.0) c.in_ok-link_if.ensures in (
      omega (arith, ap length c.in_ok-push.ensures.ok, length_push c.loop-row.links c.in_ok-link_if.field-0, c.loop-row.invariant.0),
      each_pushed (IsLinkIf n c.args.needed.now) c.loop-row.links _ c.in_ok-link_if.field-0 c.in_ok-push.ensures.ok one c.loop-row.invariant.1,
    )

pub returns : goal.returns
returns c = record { count = omega (arith, c.loop-row.invariant.0); each = λ row link at need. c.loop-row.invariant.1 row link at need }
