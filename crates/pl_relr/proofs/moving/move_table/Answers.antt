use Rattle.std.proofs.Common.{◌≡◌, ◌∙◌, ◌<◌, ◌-◌, ◌^◌, ℕ, ◌*◌, List, ap, arith}
use Rattle.pl_base.specs.Bytes.{bytes64, put}
use Rattle.pl_relr.specs.declared.entries.TheConstants.{ENTRY_SIZE}
use Rattle.pl_relr.specs.Entries.{entry, entry_count}
use Rattle.pl_relr.specs.Places.{places}
use Rattle.pl_relr.specs.Moved.{moved_entry, moved}
use Rattle.pl_relr.proofs.MoveLaws.{moved_none, entry_left, moved_more, moved_done, entry-moved, moved_back, places-moved}
use Rattle.pl_relr.proofs.moving.move_table.Goals as goal

pub loop-index-init : goal.loop-index-init
loop-index-init c = record { done = moved_none c.args.slot c.args.table.now; bytes = c.entry_count-index-end.ensures.bytes }

pub loop-index-preserved : goal.loop-index-preserved
loop-index-preserved c =
    let table = c.args.table.now in
    let slot = c.args.slot in
    let i = c.loop-index.index in
    let lt : i < entry_count table = omega (arith, c.loop-index-test.true, c.entry_count-index-end.ensures.value) in
    let new = c.moved_entry.result in
    let is : new ≡ moved_entry slot (entry table i) = c.moved_entry.ensures ∙ ap (moved_entry slot) (c.entry-entry.ensures ∙ ap (λ (t : List ℕ). entry t i) c.loop-index.invariant.done ∙ entry_left slot table i lt) in
    record {
      done = c.put64.ensures ∙ ap (λ (t : List ℕ). put (ENTRY_SIZE * i) (bytes64 new) t) c.loop-index.invariant.done ∙ moved_more slot table i new lt is;
      bytes = c.loop-index.invariant.bytes;
    }

pub returns-clause-moved : goal.returns-clause-moved
returns-clause-moved c =
    let all : c.loop-index.index ≡ entry_count c.args.table.now = omega (arith, c.loop-index-test.false, c.loop-index.auto.index-end, c.entry_count-index-end.ensures.value) in
    c.loop-index.invariant.done ∙ moved_done c.args.slot c.args.table.now c.loop-index.index all

pub returns-clause-each : goal.returns-clause-each
returns-clause-each c i lt = ap (λ (t : List ℕ). entry t i) (returns-clause-moved c) ∙ entry-moved c.args.slot c.args.table.now i c.loop-index.invariant.bytes lt

pub returns-clause-undo : goal.returns-clause-undo
returns-clause-undo c =
    ap (moved (2 ^ 64 - c.args.slot)) (returns-clause-moved c)
    ∙ moved_back c.args.slot c.args.table.now c.requires (omega arith) c.loop-index.invariant.bytes

pub returns-clause-places : goal.returns-clause-places
returns-clause-places c first =
    ap places (returns-clause-moved c) ∙ places-moved c.args.slot c.args.table.now c.requires c.loop-index.invariant.bytes first
