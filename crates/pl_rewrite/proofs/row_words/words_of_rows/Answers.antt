use Rattle.std.proofs.Common.{◌≡◌, ℕ, Some, length, refl, ap, subst, ◌∙◌, arith}
use Rattle.std.specs.Prelude.{slice_get}
use Rattle.std.proofs.lemmas.Iterator.Adapters.{YieldsList-from_vec}
use Rattle.std.proofs.lemmas.Iterator.Consumers.{YieldsList-end, YieldsList-turn}
use Rattle.std.proofs.lemmas.List.{length_push}
use Rattle.std.proofs.lemmas.Option.{slice_get_read}
use Rattle.pl_rewrite.proofs.RowWordLaws.{row_words_next, row_words_none}
use Rattle.pl_rewrite.proofs.row_words.words_of_rows.Goals as goal

pub loop-link-init : goal.loop-link-init
loop-link-init c = (ap length c.new-all.ensures.items, row_words_none c.args.numbered.now c.args.needed.now c.new-all.result.items c.new-all.ensures.items)

pub row_words_of-requires-clause-row : goal.row_words_of-requires-clause-row
row_words_of-requires-clause-row c =
    let given = c.into_iter-link-iterator.ensures.into_iter_gives in
    let items = c.into_vec-link-items.ensures in
    let turn = YieldsList-turn (YieldsList-from_vec {s = c.into_iter-link-iterator.result} c.args.links (given.0 ∙ items) (given.1 ∙ (c.into_vec-link-items.result.ok.0 ∙ ap length items))) c.loop-link.yielded c.loop-link.link-iterator c.loop-link.yielded_by c.next.result c.next.new.self c.in-Some.link c.in-Some.is c.next.ensures.steps in
    let row : c.len.result ≡ length c.loop-link.all.items = omega (arith, c.len.ensures, c.loop-link.all.ok.0) in
    omega (arith, row, turn.0, c.loop-link.invariant.0, c.requires.links.count)

pub row_words_of-requires-clause-link : goal.row_words_of-requires-clause-link
row_words_of-requires-clause-link c =
    let given = c.into_iter-link-iterator.ensures.into_iter_gives in
    let items = c.into_vec-link-items.ensures in
    let turn = YieldsList-turn (YieldsList-from_vec {s = c.into_iter-link-iterator.result} c.args.links (given.0 ∙ items) (given.1 ∙ (c.into_vec-link-items.result.ok.0 ∙ ap length items))) c.loop-link.yielded c.loop-link.link-iterator c.loop-link.yielded_by c.next.result c.next.new.self c.in-Some.link c.in-Some.is c.next.ensures.steps in
    let counted : c.len.result ≡ length c.loop-link.all.items = omega (arith, c.len.ensures, c.loop-link.all.ok.0) in
    let row : length c.loop-link.yielded ≡ c.len.result = omega (arith, counted, c.loop-link.invariant.0) in
    let at : slice_get c.args.links c.len.result ≡ Some c.in-Some.link = subst (λ (k : ℕ). slice_get c.args.links k ≡ Some c.in-Some.link) row (slice_get_read c.args.links (length c.args.links) (length c.loop-link.yielded) c.in-Some.link refl turn.0 turn.1) in
    c.requires.links.each c.len.result c.in-Some.link at

pub loop-link-preserved : goal.loop-link-preserved
loop-link-preserved c =
    let given = c.into_iter-link-iterator.ensures.into_iter_gives in
    let items = c.into_vec-link-items.ensures in
    let turn = YieldsList-turn (YieldsList-from_vec {s = c.into_iter-link-iterator.result} c.args.links (given.0 ∙ items) (given.1 ∙ (c.into_vec-link-items.result.ok.0 ∙ ap length items))) c.loop-link.yielded c.loop-link.link-iterator c.loop-link.yielded_by c.next.result c.next.new.self c.in-Some.link c.in-Some.is c.next.ensures.steps in
    let counted : c.len.result ≡ length c.loop-link.all.items = omega (arith, c.len.ensures, c.loop-link.all.ok.0) in
    let row : length c.loop-link.yielded ≡ c.len.result = omega (arith, counted, c.loop-link.invariant.0) in
    let at : slice_get c.args.links c.len.result ≡ Some c.in-Some.link = subst (λ (k : ℕ). slice_get c.args.links k ≡ Some c.in-Some.link) row (slice_get_read c.args.links (length c.args.links) (length c.loop-link.yielded) c.in-Some.link refl turn.0 turn.1) in
    let long = ap length c.in_ok-push.ensures.items in (
      omega (arith, long, length_push c.loop-link.all.items c.in_ok-one.one, length_push c.loop-link.yielded c.in-Some.link, c.loop-link.invariant.0),
      row_words_next c.args.numbered.now c.args.needed.now c.loop-link.all.items _ c.in_ok-one.one c.in-Some.link c.len.result counted (c.requires.links.each c.len.result c.in-Some.link at) c.in_ok-one.ensures c.in_ok-push.ensures.items c.loop-link.invariant.1,
    )

pub returns : goal.returns
returns c =
    let given = c.into_iter-link-iterator.ensures.into_iter_gives in
    let items = c.into_vec-link-items.ensures in
    let end = YieldsList-end (YieldsList-from_vec {s = c.into_iter-link-iterator.result} c.args.links (given.0 ∙ items) (given.1 ∙ (c.into_vec-link-items.result.ok.0 ∙ ap length items))) c.loop-link.yielded c.loop-link.link-iterator c.loop-link.yielded_by c.next.result c.next.new.self c.in-None.is c.next.ensures.steps in
    record { count = omega (arith, c.loop-link.invariant.0, end.1, c.requires.links.count); each = c.loop-link.invariant.1 }
