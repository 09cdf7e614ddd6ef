use Rattle.std.proofs.Common.{◌≡◌, ◌<◌, ◌+◌, ℕ, Some, length, refl, ap, subst, ◌∙◌, arith}
use Rattle.std.specs.Prelude.{slice_get}
use Rattle.std.specs.Vec.Iter.{into_iter_items, into_iter_len}
use Rattle.std.proofs.lemmas.Iterator.Adapters.{YieldsList-from_vec}
use Rattle.std.proofs.lemmas.Iterator.Consumers.{YieldsList-end, YieldsList-turn}
use Rattle.std.proofs.lemmas.List.{length_push}
use Rattle.std.proofs.lemmas.Option.{slice_get_read}
use Rattle.pl_rewrite.proofs.MadeRowLaws.{IsAllAt, all_are, all_more}
use Rattle.pl_rewrite.proofs.RowByRowLaws.{each_nothing, next_turn}
use Rattle.pl_rewrite.proofs.outcomes.all_outcomes.Goals as goal

pub loop-cause-init : goal.loop-cause-init
loop-cause-init c =
    let ms = c.args.made in
    let count : into_iter_len c.into_iter-made.result + 0 ≡ length ms.items = omega (arith, c.into_iter-made.ensures.len, ms.ok.0) in
    (ap length c.new-all.ensures.items, each_nothing (IsAllAt c.args.files.now c.args.causes ms.items) c.new-all.result.items c.new-all.ensures.items, c.into_iter-made.ensures.rest, count)

pub bounds-files-row : goal.bounds-files-row
bounds-files-row c =
    let given = c.into_iter-cause-iterator.ensures.into_iter_gives in
    let items = c.into_vec-cause-items.ensures in
    let turn = YieldsList-turn (YieldsList-from_vec {s = c.into_iter-cause-iterator.result} c.args.causes (given.0 ∙ items) (given.1 ∙ (c.into_vec-cause-items.result.ok.0 ∙ ap length items))) c.loop-cause.yielded c.loop-cause.cause-iterator c.loop-cause.yielded_by c.next.result c.next.new.self c.in-Some.cause c.in-Some.is c.next.ensures.steps in
    let row : c.len-row.result ≡ length c.loop-cause.all.items = omega (arith, c.len-row.ensures, c.loop-cause.all.ok.0) in
    omega (arith, row, turn.0, c.loop-cause.invariant.0, c.requires.causes)

pub loop-cause-preserved : goal.loop-cause-preserved
loop-cause-preserved c =
    let given = c.into_iter-cause-iterator.ensures.into_iter_gives in
    let items = c.into_vec-cause-items.ensures in
    let ts = c.args.files.now in
    let ms = c.args.made.items in
    let turn = YieldsList-turn (YieldsList-from_vec {s = c.into_iter-cause-iterator.result} c.args.causes (given.0 ∙ items) (given.1 ∙ (c.into_vec-cause-items.result.ok.0 ∙ ap length items))) c.loop-cause.yielded c.loop-cause.cause-iterator c.loop-cause.yielded_by c.next.result c.next.new.self c.in-Some.cause c.in-Some.is c.next.ensures.steps in
    let i = length c.loop-cause.yielded in
    let counted : c.len-row.result ≡ length c.loop-cause.all.items = omega (arith, c.len-row.ensures, c.loop-cause.all.ok.0) in
    let row : i ≡ c.len-row.result = omega (arith, counted, c.loop-cause.invariant.0) in
    let lt : i < length ms = omega (arith, turn.0, c.requires.causes, c.requires.made) in
    let n = next_turn ms i c.next-in-loop-cause.result (into_iter_items c.loop-cause.made) (into_iter_items c.next-in-loop-cause.new.self) (into_iter_len c.loop-cause.made) (into_iter_len c.next-in-loop-cause.new.self) lt c.loop-cause.invariant.2 c.loop-cause.invariant.3 c.next-in-loop-cause.ensures.cases in
    let at : slice_get ms c.len-row.result ≡ Some n.item = subst (λ (k : ℕ). slice_get ms k ≡ Some n.item) row n.at in
    let cause : slice_get c.args.causes c.len-row.result ≡ Some c.in-Some.cause = subst (λ (k : ℕ). slice_get c.args.causes k ≡ Some c.in-Some.cause) row (slice_get_read c.args.causes (length c.args.causes) i c.in-Some.cause refl turn.0 turn.1) in
    let within : c.len-row.result < length ts = omega (arith, row, lt, c.requires.made) in
    let file : slice_get ts c.len-row.result ≡ Some c.index-files-row.result = slice_get_read ts (length ts) c.len-row.result c.index-files-row.result refl within c.index-files-row.is in
    let long = ap length c.in_ok-push.ensures.items in
    rw (length_push c.loop-cause.yielded c.in-Some.cause) (
      omega (arith, long, length_push c.loop-cause.all.items c.in_ok-outcome_for.field-0, c.loop-cause.invariant.0),
      all_more ts c.args.causes ms c.loop-cause.all.items _ c.len-row.result c.index-files-row.result c.in-Some.cause c.flatten-one.result n.item c.next-in-loop-cause.result c.in_ok-outcome_for.field-0 counted file cause n.is at c.flatten-one.ensures c.in_ok-outcome_for.ensures c.in_ok-push.ensures.items
          c.loop-cause.invariant.1,
      n.after,
      n.count,
    )

pub returns : goal.returns
returns c =
    let given = c.into_iter-cause-iterator.ensures.into_iter_gives in
    let items = c.into_vec-cause-items.ensures in
    let end = YieldsList-end (YieldsList-from_vec {s = c.into_iter-cause-iterator.result} c.args.causes (given.0 ∙ items) (given.1 ∙ (c.into_vec-cause-items.result.ok.0 ∙ ap length items))) c.loop-cause.yielded c.loop-cause.cause-iterator c.loop-cause.yielded_by c.next.result c.next.new.self c.in-None.is c.next.ensures.steps in
    all_are c.args.files.now c.args.causes c.args.made.items c.loop-cause.all.items (omega (arith, c.loop-cause.invariant.0, end.1, c.requires.causes)) c.loop-cause.invariant.1
