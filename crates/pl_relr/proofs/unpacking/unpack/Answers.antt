use Rattle.std.proofs.Common.{◌≡◌, ◌∙◌, ◌<◌, ◌%◌, ◌++◌, ℕ, List, sym, ap, arith, length, true, Ok, ◌+◌, drop}
use Rattle.std.proofs.lemmas.Bool.{eq-eqb, ne_eqb}
use Rattle.pl_base.specs.Sums.{is_aligned}
use Rattle.pl_relr.specs.declared.entries.TheConstants.{ENTRY_SIZE}
use Rattle.pl_relr.specs.Entries.{entry_count, entries}
use Rattle.pl_relr.specs.Places.{places, places_from}
use Rattle.pl_relr.proofs.PlaceLaws.{places_more, places_done, bad_size, bad_start, too_many_so_far, all_good}
use Rattle.pl_relr.proofs.unpacking.unpack.Goals as goal
use Rattle.pl_relr.proofs.unpacking.unpack.Goals.{then-table-ne0-via-then-table-ne0, then-table-ne0-via-else-table-ne0+then-begins_odd}

pub returns-then-table-ne0-clause-exact : goal.returns-then-table-ne0-clause-exact
returns-then-table-ne0-clause-exact c =
    elim c.then-table-ne0.branch [
      | then-table-ne0-via-then-table-ne0 w ↦ bad_size c.args.table.now c.args.most (ne_eqb (length c.args.table.now % ENTRY_SIZE) 0 w.if-table-ne0.true)
      | then-table-ne0-via-else-table-ne0+then-begins_odd w ↦ bad_start c.args.table.now c.args.most (sym w.begins_odd.ensures ∙ w.if-begins_odd.true)
    ]

pub loop-index-init : goal.loop-index-init
unfolding places
loop-index-init c = record {
  done = ap (λ (out : List ℕ). out ++ places_from 0 (entries c.args.table.now)) c.new-places.ensures.items;
  few = omega (arith, ap length c.new-places.ensures.items);
}

pub returns-then-len-most-clause-exact : goal.returns-then-len-most-clause-exact
returns-then-len-most-clause-exact c =
    let lt : c.loop-index.index < entry_count c.args.table.now = omega (arith, c.loop-index-test.true, c.entry_count-index-end.ensures.value) in
    too_many_so_far c.args.table.now c.loop-index.places.items c.push_places.new.places.items c.args.most c.loop-index.next c.loop-index.index c.entry-entry.result lt c.entry-entry.ensures c.in_ok-push_places.ensures
    c.loop-index.invariant.done (omega (arith, c.if-len-most.true, c.len.ensures, c.push_places.new.places.ok.0))

pub loop-index-preserved : goal.loop-index-preserved
loop-index-preserved c =
    let lt : c.loop-index.index < entry_count c.args.table.now = omega (arith, c.loop-index-test.true, c.entry_count-index-end.ensures.value) in
    let all = places_more c.args.table.now c.loop-index.places.items c.push_places.new.places.items (places c.args.table.now) c.loop-index.next c.loop-index.index c.entry-entry.result lt c.entry-entry.ensures c.in_ok-push_places.ensures c.loop-index.invariant.done in
    record {
      done = ap (λ (next : ℕ). c.push_places.new.places.items ++ places_from next (drop (c.loop-index.index + 1) (entries c.args.table.now))) c.following-next.ensures ∙ all;
      few = omega (arith, c.if-len-most.false, c.len.ensures, c.push_places.new.places.ok.0);
    }

pub returns-clause-exact : goal.returns-clause-exact
returns-clause-exact c =
    let table = c.args.table.now in
    let whole : is_aligned (length table) ENTRY_SIZE ≡ true = eq-eqb (length table % ENTRY_SIZE) 0 c.if-table-ne0.false in
    let all : c.loop-index.places.items ≡ places table = places_done table c.loop-index.places.items (places table) c.loop-index.next c.loop-index.index (omega (arith, c.loop-index-test.false, c.entry_count-index-end.ensures.value)) c.loop-index.invariant.done in
    all_good table c.args.most whole (sym c.begins_odd.ensures ∙ c.if-begins_odd.false) (omega (arith, ap length all, c.loop-index.invariant.few))
    ∙ ap (λ (xs : List ℕ). Ok xs) (sym all ∙ sym c.from_vec.ensures)
