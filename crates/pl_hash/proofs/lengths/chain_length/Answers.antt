use Rattle.std.proofs.Common.{◌≡◌, ◌<◌, false, true, Some, ℕ, sym, subst, ◌∙◌, arith}
use Rattle.std.specs.Prelude.{slice_index}
use Rattle.pl_hash.specs.Chain.{is_linked}
use Rattle.pl_hash.specs.Lengths.{EndsAfter, IsLength}
use Rattle.pl_hash.proofs.LengthLaws.{none_passed, passed_more, length_ended, length_left, length_known, length_more, length_whole}
use Rattle.pl_hash.proofs.lengths.chain_length.Goals as goal

pub loop-passed-init : goal.loop-passed-init
loop-passed-init c = none_passed c.args.table.now c.args.start

pub returns-in_default : goal.returns-in_default
returns-in_default c = length_ended c.args.table.now c.args.start c.loop-passed.passed (omega (arith, c.loop-passed-test.true)) (rw c.in_default.is at c.loop-passed.invariant)

pub returns-then-known-gt0 : goal.returns-then-known-gt0
returns-then-known-gt0 c =
    let t = c.args.table.now in
    let index = c.in-Some.index in
    let known = c.length_at-known.result in
    let is : known ≡ slice_index c.args.lengths.now index = c.length_at-known.ensures in
    let some : 0 < slice_index c.args.lengths.now index = omega (arith, is) in
    let ends : EndsAfter t (Some index) known = rw is (c.requires.known.right index some) in
    rw c.sum_of.ensures (length_known t c.args.start c.loop-passed.passed index known (omega (arith, c.loop-passed-test.true)) ends (rw c.in-Some.is at c.loop-passed.invariant))

pub returns-then-not-is_linked : goal.returns-then-not-is_linked
returns-then-not-is_linked c =
    let miss : is_linked c.args.table.now c.in-Some.index ≡ false = sym c.is_linked.ensures.value ∙ c.if-not-is_linked.true in
    length_left c.args.table.now c.args.start c.loop-passed.passed c.in-Some.index miss (rw c.in-Some.is at c.loop-passed.invariant)

pub loop-passed-preserved : goal.loop-passed-preserved
loop-passed-preserved c =
    let hit : is_linked c.args.table.now c.in-Some.index ≡ true = sym c.is_linked.ensures.value ∙ c.if-not-is_linked.false in
    rw c.following-at.ensures (passed_more c.args.table.now c.args.start c.loop-passed.passed c.in-Some.index hit (rw c.in-Some.is at c.loop-passed.invariant))

pub returns-then-is_some : goal.returns-then-is_some
returns-then-is_some c =
    length_more c.args.table.now c.args.start c.loop-passed.passed c.loop-passed.at (omega (arith, c.loop-passed-test.false)) (sym c.is_some.ensures ∙ c.if-is_some.true) c.loop-passed.invariant

pub returns : goal.returns
returns c =
    let t = c.args.table.now in
    let same : c.loop-passed.passed ≡ t.symbols = omega (arith, c.loop-passed-test.false) in
    subst (λ (n : ℕ). IsLength t c.args.start (Some n)) (same ∙ sym c.symbols.ensures)
    (length_whole t c.args.start c.loop-passed.passed c.loop-passed.at (omega (arith, same)) (sym c.is_some.ensures ∙ c.if-is_some.false) c.loop-passed.invariant)
