use Rattle.std.proofs.Common.{◌≡◌, ◌∙◌, ap, sym, true, false, take}
use Rattle.std.specs.Prelude.{is_some}
use Rattle.std.specs.List.{list_any}
use Rattle.std.specs.Str.{bytes_eq}
use Rattle.std.proofs.lemmas.Map.Text.{btree_map_updates_str}
use Rattle.pl_object.proofs.KeyLaws.{repeat_found, seen_more}
use Rattle.pl_object.proofs.repeats.has_repeat.Goals as goal

pub returns-then-is_some : goal.returns-then-is_some
returns-then-is_some c =
    let key = c.as_slice.result.now in
    let hit : list_any (bytes_eq key) (take c.loop-key.key-index c.args.keys.now) ≡ true = sym (c.loop-key.invariant.0 key) ∙ ap is_some (sym c.in_ok-insert.ensures.old) ∙ sym c.is_some.ensures ∙ c.if-is_some.true in
    sym (repeat_found c.args.keys.now c.loop-key.key-index c.key-item.result c.loop-key-test.true c.key-item.is (rw c.as_slice.ensures at hit))

pub loop-key-preserved : goal.loop-key-preserved
loop-key-preserved c =
    let key = c.as_slice.result.now in
    let miss : list_any (bytes_eq key) (take c.loop-key.key-index c.args.keys.now) ≡ false = sym (c.loop-key.invariant.0 key) ∙ ap is_some (sym c.in_ok-insert.ensures.old) ∙ sym c.is_some.ensures ∙ c.if-is_some.false in
    let updates = btree_map_updates_str key c.loop-key.seen c.insert.new.self _ c.in_ok-insert.ensures.updates in
    seen_more c.loop-key.seen c.insert.new.self c.args.keys.now c.loop-key.key-index c.key-item.result c.loop-key-test.true c.key-item.is c.loop-key.invariant (rw c.as_slice.ensures at miss) (rw c.as_slice.ensures at updates)
