use Rattle.std.proofs.Common.{◌≡◌, ◌<◌, ◌+◌, ℕ, Some, length, refl, ap, subst, ◌∙◌, arith}
use Rattle.std.specs.Prelude.{slice_get}
use Rattle.std.specs.Vec.Iter.{into_iter_items, into_iter_len}
use Rattle.std.proofs.lemmas.Iterator.Adapters.{YieldsList-from_vec}
use Rattle.std.proofs.lemmas.Iterator.Consumers.{YieldsList-end, YieldsList-turn}
use Rattle.std.proofs.lemmas.List.{length_push}
use Rattle.std.proofs.lemmas.Option.{slice_get_read}
use Rattle.pl_rewrite.proofs.MadeRowLaws.{IsMadeIf, made_more}
use Rattle.pl_rewrite.proofs.RowByRowLaws.{each_nothing, next_turn}
use Rattle.pl_rewrite.proofs.outcomes.with_libraries.Goals as goal

pub loop-one-init : goal.loop-one-init
loop-one-init c =
    let ps = c.args.programs in
    let count : into_iter_len c.into_iter-programs.result + 0 ≡ length ps.items = omega (arith, c.into_iter-programs.ensures.len, ps.ok.0) in
    (ap length c.new-all.ensures.items, each_nothing (IsMadeIf c.args.numbered.now c.args.stale.now) c.new-all.result.items c.new-all.ensures.items, c.into_iter-programs.ensures.rest, count)

pub library_if-requires-clause-row : goal.library_if-requires-clause-row
library_if-requires-clause-row c =
    let given = c.into_iter-one-iterator.ensures.into_iter_gives in
    let all = c.args.row_words in
    let turn = YieldsList-turn (YieldsList-from_vec {s = c.into_iter-one-iterator.result} all.items given.0 (given.1 ∙ all.ok.0)) c.loop-one.yielded c.loop-one.one-iterator c.loop-one.yielded_by c.next.result c.next.new.self c.in-Some.one c.in-Some.is c.next.ensures.steps in
    let row : c.len.result ≡ length c.loop-one.all.items = omega (arith, c.len.ensures, c.loop-one.all.ok.0) in
    omega (arith, row, turn.0, c.loop-one.invariant.0, c.requires.row_words.count)

pub library_if-requires-clause-words : goal.library_if-requires-clause-words
library_if-requires-clause-words c =
    let given = c.into_iter-one-iterator.ensures.into_iter_gives in
    let all = c.args.row_words in
    let turn = YieldsList-turn (YieldsList-from_vec {s = c.into_iter-one-iterator.result} all.items given.0 (given.1 ∙ all.ok.0)) c.loop-one.yielded c.loop-one.one-iterator c.loop-one.yielded_by c.next.result c.next.new.self c.in-Some.one c.in-Some.is c.next.ensures.steps in
    let counted : c.len.result ≡ length c.loop-one.all.items = omega (arith, c.len.ensures, c.loop-one.all.ok.0) in
    let row : length c.loop-one.yielded ≡ c.len.result = omega (arith, counted, c.loop-one.invariant.0) in
    let at : slice_get all.items c.len.result ≡ Some c.in-Some.one = subst (λ (k : ℕ). slice_get all.items k ≡ Some c.in-Some.one) row (slice_get_read all.items (length all.items) (length c.loop-one.yielded) c.in-Some.one refl turn.0 turn.1) in
    c.requires.row_words.each c.len.result c.in-Some.one at

pub loop-one-preserved : goal.loop-one-preserved
loop-one-preserved c =
    let given = c.into_iter-one-iterator.ensures.into_iter_gives in
    let all = c.args.row_words in
    let ps = c.args.programs.items in
    let turn = YieldsList-turn (YieldsList-from_vec {s = c.into_iter-one-iterator.result} all.items given.0 (given.1 ∙ all.ok.0)) c.loop-one.yielded c.loop-one.one-iterator c.loop-one.yielded_by c.next.result c.next.new.self c.in-Some.one c.in-Some.is c.next.ensures.steps in
    let i = length c.loop-one.yielded in
    let counted : c.len.result ≡ length c.loop-one.all.items = omega (arith, c.len.ensures, c.loop-one.all.ok.0) in
    let row : i ≡ c.len.result = omega (arith, counted, c.loop-one.invariant.0) in
    let lt : i < length ps = omega (arith, turn.0, c.requires.row_words.count, c.requires.programs.count, c.requires.run.column.count) in
    let n = next_turn ps i c.next-in-loop-one.result (into_iter_items c.loop-one.programs) (into_iter_items c.next-in-loop-one.new.self) (into_iter_len c.loop-one.programs) (into_iter_len c.next-in-loop-one.new.self) lt c.loop-one.invariant.2 c.loop-one.invariant.3 c.next-in-loop-one.ensures.cases in
    let at : slice_get ps c.len.result ≡ Some n.item = subst (λ (k : ℕ). slice_get ps k ≡ Some n.item) row n.at in
    let long = ap length c.in_ok-push.ensures.items in
    rw (length_push c.loop-one.yielded c.in-Some.one) (
      omega (arith, long, length_push c.loop-one.all.items c.or.result, c.loop-one.invariant.0),
      made_more c.args.numbered.now c.args.stale.now ps c.loop-one.all.items _ c.len.result c.in_ok-library.library c.flatten-program.result c.or.result n.item c.next-in-loop-one.result counted c.requires.programs n.is at c.in_ok-library.ensures c.flatten-program.ensures c.or.ensures
          c.in_ok-push.ensures.items c.loop-one.invariant.1,
      n.after,
      n.count,
    )

pub returns : goal.returns
returns c =
    let given = c.into_iter-one-iterator.ensures.into_iter_gives in
    let all = c.args.row_words in
    let end = YieldsList-end (YieldsList-from_vec {s = c.into_iter-one-iterator.result} all.items given.0 (given.1 ∙ all.ok.0)) c.loop-one.yielded c.loop-one.one-iterator c.loop-one.yielded_by c.next.result c.next.new.self c.in-None.is c.next.ensures.steps in
    record { count = omega (arith, c.loop-one.invariant.0, end.1, c.requires.row_words.count, c.requires.run.column.count); each = c.loop-one.invariant.1 }
