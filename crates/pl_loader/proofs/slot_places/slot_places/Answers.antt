use Rattle.std.proofs.Common.{◌∙◌, arith, rules}
use Rattle.pl_loader.proofs.OwnLaws.{own_begins, own_turn, own_ends}
use Rattle.pl_loader.proofs.slot_places.slot_places.Goals as goal

pub loop-library-init : goal.loop-library-init
loop-library-init c = own_begins c.args.libraries.now c.args.taken.now.items _ _ (search rules) (search rules)

pub loop-library-preserved : goal.loop-library-preserved
loop-library-preserved c =
    own_turn c.args.libraries.now c.loop-library.library-index c.library-item.result c.args.taken.now.items c.loop-library.taken.items _ c.loop-library.places.items _ c.loop-library.wants.items _ c.slot_place-own.result
    (omega arith) c.library-item.is (rw c.deref.ensures.value at c.slot_place-own.ensures.place) c.in_ok-take_own.ensures c.in_ok-push.ensures.items c.in_ok-add_want.ensures c.loop-library.invariant

pub returns-clause-places : goal.returns-clause-places
returns-clause-places c =
    let whole = own_ends c.args.libraries.now c.loop-library.library-index c.args.taken.now.items c.loop-library.taken.items c.loop-library.places.items c.loop-library.wants.items (omega arith) c.loop-library.invariant in
    c.from_vec.ensures ∙ whole.places_are

pub returns-clause-wants : goal.returns-clause-wants
returns-clause-wants c =
    let whole = own_ends c.args.libraries.now c.loop-library.library-index c.args.taken.now.items c.loop-library.taken.items c.loop-library.places.items c.loop-library.wants.items (omega arith) c.loop-library.invariant in
    c.from_vec-2.ensures ∙ whole.wants_are

pub returns-clause-taken : goal.returns-clause-taken
returns-clause-taken c =
    let whole = own_ends c.args.libraries.now c.loop-library.library-index c.args.taken.now.items c.loop-library.taken.items c.loop-library.places.items c.loop-library.wants.items (omega arith) c.loop-library.invariant in
    whole.taken_is
