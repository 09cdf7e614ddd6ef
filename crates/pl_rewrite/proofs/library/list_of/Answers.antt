use Rattle.std.proofs.Common.{◌≡◌, ◌-◌, ◌<◌, ℕ, List, ap, drop, take, length, subst, sym, ◌∙◌, arith}
use Rattle.std.specs.List.{All}
use Rattle.pl_cone.specs.Table.{AreRows}
use Rattle.pl_rewrite.specs.Rows.{walk_of}
use Rattle.pl_rewrite.specs.declared.numbers.Numbered.{Numbered}
use Rattle.pl_rewrite.proofs.DigestLaws.{list_is, list_none, listed_done, listed_more}
use Rattle.pl_rewrite.proofs.FirmRowLaws.{firms_zip}
use Rattle.pl_rewrite.proofs.RowTestLaws.{rest_all, rest_is}
use Rattle.pl_rewrite.proofs.library.list_of.Goals as goal

-- the rows after the first are those of files
rest_within : (n : Numbered) (row : ℕ) (walk : List ℕ) → walk ≡ walk_of n row → AreRows n.files.now (walk_of n row) → All (λ r. r < length n.files.now) (take (length walk - 1) (drop 1 walk))
rest_within n row walk is rows = rest_all (λ r. r < length n.files.now) walk (subst (All (λ r. r < length n.files.now)) (sym is) rows.within)

pub returns-in_default : goal.returns-in_default
returns-in_default c = c.new-rows.ensures ∙ list_none c.args.numbered.now c.args.row (omega (arith, c.in_default.len_below, ap length c.walk-walk.ensures)) (firms_zip c.args.numbered.now c.args.row c.requires.rows)

pub loop-other-init : goal.loop-other-init
loop-other-init c = λ ms zip. c.new-rows.ensures

pub list_row-requires-clause-row : goal.list_row-requires-clause-row
list_row-requires-clause-row c = rest_within c.args.numbered.now c.args.row c.walk-walk.result.now c.walk-walk.ensures c.requires.rows c.loop-other.other-index 0 c.loop-other-test.true

pub loop-other-preserved : goal.loop-other-preserved
loop-other-preserved c =
    let others : List ℕ = take (length c.walk-walk.result.now - 1) (drop 1 c.walk-walk.result.now) in
    listed_more c.args.numbered.now others c.loop-other.other-index 0 c.loop-other.rows _ c.in_ok-list_row.field-0 c.loop-other-test.true c.in_ok-list_row.ensures c.in_ok-push.ensures.ok c.loop-other.invariant

pub returns : goal.returns
returns c =
    let others : List ℕ = take (length c.walk-walk.result.now - 1) (drop 1 c.walk-walk.result.now) in
    list_is c.args.numbered.now c.args.row others c.loop-other.rows (rest_is c.walk-walk.result.now ∙ ap (drop 1) c.walk-walk.ensures) (firms_zip c.args.numbered.now c.args.row c.requires.rows)
    (listed_done c.args.numbered.now others c.loop-other.other-index c.loop-other.rows c.loop-other-test.false c.loop-other.invariant)
