-- Slots that share no address.
use Rattle.std.specs.Prelude.{◌+◌, Bool, true, ◌&&◌, ◌||◌, nat_le, List, [], ◌∷◌}
use Rattle.std.specs.List.{list_all}
use Rattle.pl_slots.specs.declared.slot.Slot.{Slot}

-- whether one of two slots ends at or below the other's start
abbrev pub is_beside : Slot → Slot → Bool
is_beside a b = nat_le (a.start + a.span) b.start || nat_le (b.start + b.span) a.start

-- whether no two of the slots share an address
abbrev pub are_apart : List Slot → Bool
are_apart [] = true
are_apart (slot ∷ slots) = list_all (is_beside slot) slots && are_apart slots
