-- Slots that serve wants have their names, in their order.
use Rattle.std.proofs.Common.{◌≡◌, ℕ, suc, ◌<◌, List, [], ◌∷◌, map, refl, ap, ◌∙◌, arith}
use Rattle.pl_elf.specs.declared.range.Range.{Range}
use Rattle.pl_share.specs.Shared as shared
use Rattle.pl_slots.specs.Plan as apart
use Rattle.pl_slots.specs.declared.slot.Slot.{Slot}
use Rattle.pl_slots.specs.declared.slot.Want.{Want}
use Rattle.pl_cone.specs.Slots.{HaveWantedNames}

names_more : (w : Want) (ws : List Want) (s : Slot) (slots : List Slot) → s.name ≡ w.name → HaveWantedNames ws slots → HaveWantedNames (w ∷ ws) (s ∷ slots)
names_more w ws s slots name rest = ap (λ (n : List ℕ). n ∷ map (λ (x : Slot). x.name) slots) name ∙ ap (λ (ns : List (List ℕ)). w.name ∷ ns) rest

pub apart_names : (kept : List Slot) (region : Range) (ws : List Want) (slots : List Slot) → apart.AllServe kept region ws slots → HaveWantedNames ws slots
apart_names kept region [] [] all = refl
apart_names kept region [] (s ∷ slots) all = absurd all
apart_names kept region (w ∷ ws) [] all = absurd all
apart_names kept region (w ∷ ws) (s ∷ slots) all = names_more w ws s slots all.0.name (apart_names kept region ws slots all.1)

pub shared_names : (region : Range) (ws : List Want) (slots : List Slot) → shared.AreSlotsFor region ws slots → HaveWantedNames ws slots
shared_names region [] [] all = refl
shared_names region [] (s ∷ slots) all = absurd (omega (arith, all.count))
shared_names region (w ∷ ws) [] all = absurd (omega (arith, all.count))
shared_names region (w ∷ ws) (s ∷ slots) all =
    names_more w ws s slots (all.each 0 w s (omega arith)).name
    (shared_names region ws slots (record { count = omega (arith, all.count); each = λ i v t lt. all.each (suc i) v t (omega (arith, lt)) }))
