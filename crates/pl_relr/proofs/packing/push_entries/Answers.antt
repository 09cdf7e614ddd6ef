use Rattle.std.proofs.Common.{◌≡◌, ◌∙◌, ◌<◌, ◌-◌, ◌++◌, ℕ, List, true, false, refl, sym, ap, arith, length, take, drop, get_or}
use Rattle.std.specs.List.{take_while}
use Rattle.std.proofs.lemmas.List.{take_rest, length-take-le, get_or-take, get_or_default, length-drop}
use Rattle.std.proofs.lemmas.List.Sums.{prefix_len_passes, prefix_len-le-length}
use Rattle.pl_base.specs.Bytes.{bytes64}
use Rattle.pl_relr.specs.Entries.{table_of}
use Rattle.pl_relr.specs.Pack.{can_name, named_count, odd_entry, packed_from}
use Rattle.pl_relr.proofs.PackLaws.{is_named, odd_more, even_more, none_left, run_below}
use Rattle.pl_relr.proofs.packing.push_entries.Goals as goal

-- the rest of a list, as a slice of it reads
left : (places : List ℕ) (at : ℕ) → take (length places - at) (drop at places) ≡ drop at places
left places at = take_rest places at

-- the ones that are counted can be named
named_ones : (next : ℕ) (rest : List ℕ) (count : ℕ) → count ≡ named_count next rest → (k d : ℕ) → k < length (take count rest) → can_name next (get_or (take count rest) k d) ≡ true
named_ones next rest count is k d lt =
    let size : length (take count rest) ≡ count = length-take-le count rest (omega (arith, is, prefix_len-le-length (can_name next) rest)) in
    let below : k < count = omega (arith, lt, size) in
    rw (get_or-take count rest k d below) (prefix_len_passes (can_name next) rest k d (omega (arith, below, is)))

pub odd_entry-requires-clause-named : goal.odd_entry-requires-clause-named
odd_entry-requires-clause-named c =
    named_ones c.loop-at.next (take (length c.args.places.now - c.loop-at.at) (drop c.loop-at.at c.args.places.now)) c.named_count-count.result c.named_count-count.ensures

-- as the loop reads them
run_is : (next at count : ℕ) (places : List ℕ) → count ≡ named_count next (take (length places - at) (drop at places)) → take count (take (length places - at) (drop at places)) ≡ take_while (can_name next) (drop at places)
run_is next at count places is =
    let rest = drop at places in
    ap (λ (xs : List ℕ). take count xs) (left places at) ∙ ap (λ (n : ℕ). take n rest) (is ∙ ap (named_count next) (left places at))

pub odd_entry-requires-clause-small : goal.odd_entry-requires-clause-small
odd_entry-requires-clause-small c =
    let next = c.loop-at.next in
    let places = c.args.places.now in
    let at = c.loop-at.at in
    rw (run_is next at c.named_count-count.result places c.named_count-count.ensures)
    (run_below next at (get_or places at 0) places c.requires.packable c.loop-at-test.true refl (sym c.can_name.ensures ∙ c.if-can_name.true))

pub loop-at-preserved-then-can_name : goal.loop-at-preserved-then-can_name
loop-at-preserved-then-can_name c =
    let next = c.loop-at.next in
    let places = c.args.places.now in
    let at = c.loop-at.at in
    let count = c.named_count-count.result in
    let x = get_or places at 0 in
    let can : can_name next x ≡ true = sym c.can_name.ensures ∙ c.if-can_name.true in
    let named : count ≡ named_count next (drop at places) = c.named_count-count.ensures ∙ ap (named_count next) (left places at) in
    let entry : c.odd_entry.result ≡ odd_entry next (take count (drop at places)) = c.odd_entry.ensures ∙ ap (λ (xs : List ℕ). odd_entry next (take count xs)) (left places at) in
    record {
      done = odd_more c.loop-at.table.items c.push64.new.bytes.items (c.args.table.now.items ++ table_of (packed_from c.args.first 0 places)) next at count places x c.loop-at-test.true
          (get_or_default places at 0 x c.loop-at-test.true) can named (c.in_ok-push64.ensures.ok ∙ ap (λ (e : ℕ). c.loop-at.table.items ++ bytes64 e) entry) c.loop-at.invariant.done;
      low = omega (arith, (is_named next x can).from, c.requires.packable.low at c.loop-at-test.true);
      within = omega (arith, named, prefix_len-le-length (can_name next) (drop at places), length-drop at places, c.loop-at-test.true);
    }

pub loop-at-preserved : goal.loop-at-preserved
loop-at-preserved c =
    let next = c.loop-at.next in
    let places = c.args.places.now in
    let at = c.loop-at.at in
    let x = get_or places at 0 in
    let cannot : can_name next x ≡ false = sym c.can_name.ensures ∙ c.if-can_name.false in
    record {
      done = even_more c.loop-at.table.items c.push64-else-can_name.new.bytes.items (c.args.table.now.items ++ table_of (packed_from c.args.first 0 places)) next at places x c.loop-at-test.true
          (get_or_default places at 0 x c.loop-at-test.true) cannot c.in_ok-push64-2.ensures.ok c.loop-at.invariant.done;
      low = omega (arith, c.requires.packable.low at c.loop-at-test.true);
      within = omega (arith, c.loop-at-test.true);
    }

pub returns : goal.returns
returns c = none_left c.loop-at.table.items (c.args.table.now.items ++ table_of (packed_from c.args.first 0 c.args.places.now)) c.loop-at.next c.loop-at.at c.args.places.now c.loop-at-test.false c.loop-at.invariant.done
