use Rattle.std.proofs.Common.{List, sym, subst, ◌∙◌}
use Rattle.std.specs.List.{All}
use Rattle.std.proofs.lemmas.List.Elements.{All-tail}
use Rattle.pl_place.specs.Placing.{IsWant}
use Rattle.pl_slots.specs.declared.slot.Want.{Want}
use Rattle.pl_loader.specs.Loading.{IsRead}
use Rattle.pl_loader.proofs.BesideLaws.{beside_free, wants_are}
use Rattle.pl_loader.proofs.FileLaws.{wants_asked}
use Rattle.pl_loader.proofs.placing.library_places.Goals as goal

pub slot_places-requires-clause-read : goal.slot_places-requires-clause-read
slot_places-requires-clause-read g c = All-tail IsRead c.args.program.now c.args.libraries.now c.requires.files.read

pub policy_places-requires-clause-wants : goal.policy_places-requires-clause-wants
policy_places-requires-clause-wants g c =
    subst (λ (ws : List Want). All IsWant ws) (sym (c.as_slice.ensures ∙ c.in_ok-own.ensures.wants)) (wants_are c.args.libraries.now _ (wants_asked c.args.program.now c.args.libraries.now c.requires.files))

pub returns-clause-free : goal.returns-clause-free
returns-clause-free g c =
    beside_free _ c.in_ok-taken.taken.items c.slot_places.new.taken.items c.args.libraries.now c.in_ok-own.own.places c.in_ok-own.own.wants c.in_ok-starts.starts.items _
    (All-tail IsRead c.args.program.now c.args.libraries.now c.requires.files.read) c.requires.files.libraries c.in_ok-taken.ensures c.in_ok-own.ensures.places c.in_ok-own.ensures.wants c.in_ok-own.ensures.taken
    (rw (c.deref.ensures.value, c.as_slice.ensures) at c.in_ok-starts.ensures.free) (rw (c.as_slice-2.ensures, c.deref-2.ensures.value) at c.in_ok-joined.ensures)
