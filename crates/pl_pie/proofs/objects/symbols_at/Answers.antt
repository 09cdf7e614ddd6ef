use Rattle.std.proofs.Common.{length, map, ap, ◌∙◌, arith}
use Rattle.std.proofs.lemmas.Iterator.Adapters.{YieldsList-from_vec}
use Rattle.std.proofs.lemmas.Iterator.Consumers.{YieldsList-end, YieldsList-turn}
use Rattle.std.proofs.lemmas.List.{length_push, take_all}
use Rattle.law_fixed.specs.Fixed.{fixed_symbol}
use Rattle.pl_pie.proofs.ReadAtLaws.{symbols_more}
use Rattle.pl_pie.proofs.objects.symbols_at.Goals as goal

pub loop-symbol-init : goal.loop-symbol-init
loop-symbol-init c = c.new-moved.ensures

pub loop-symbol-preserved : goal.loop-symbol-preserved
loop-symbol-preserved c =
    let given = c.into_iter-symbol-iterator.ensures.into_iter_gives in
    let items = c.into_vec-items.ensures in
    let turn = YieldsList-turn (YieldsList-from_vec {s = c.into_iter-symbol-iterator.result} c.args.symbols (given.0 ∙ items) (given.1 ∙ (c.into_vec-items.result.ok.0 ∙ ap length items))) c.loop-symbol.yielded c.loop-symbol.symbol-iterator c.loop-symbol.yielded_by c.next.result c.next.new.self c.in-Some.symbol c.in-Some.is c.next.ensures.steps in
    rw (length_push c.loop-symbol.yielded c.in-Some.symbol)
    (symbols_more (fixed_symbol c.args.address) c.args.symbols (length c.loop-symbol.yielded) c.in-Some.symbol c.loop-symbol.moved _ c.symbol_at.result turn.0 turn.1 c.symbol_at.ensures c.in_ok-push.ensures.ok c.loop-symbol.invariant)

pub returns : goal.returns
returns c =
    let given = c.into_iter-symbol-iterator.ensures.into_iter_gives in
    let items = c.into_vec-items.ensures in
    let end = YieldsList-end (YieldsList-from_vec {s = c.into_iter-symbol-iterator.result} c.args.symbols (given.0 ∙ items) (given.1 ∙ (c.into_vec-items.result.ok.0 ∙ ap length items))) c.loop-symbol.yielded c.loop-symbol.symbol-iterator c.loop-symbol.yielded_by c.next.result c.next.new.self c.in-None.is c.next.ensures.steps in
    c.loop-symbol.invariant ∙ ap (map (fixed_symbol c.args.address)) (take_all (length c.loop-symbol.yielded) c.args.symbols (omega (arith, end.1)))
