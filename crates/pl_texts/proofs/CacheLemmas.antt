-- The slots of a cache end where their ends have 64 bits.
use Rattle.std.proofs.Common.{◌≡◌, ◌<◌, ◌≤◌, ◌+◌, ◌^◌, List, [], ◌∷◌, true, arith, leb-true}
use Rattle.std.specs.List.{All, list_all}
use Rattle.std.proofs.lemmas.Bool.{and_parts}
use Rattle.std.proofs.lemmas.List.Elements.{All-nil, All-cons}
use Rattle.pl_cache.specs.Spelling.{is_cache, is_row}
use Rattle.pl_cache.specs.declared.cache.Cache.{Cache}
use Rattle.pl_elf.specs.declared.constants.TheConstants.{ADDRESS_LIMIT}
use Rattle.pl_slots.specs.declared.slot.Slot.{Slot}

row_ends : (slot : Slot) → is_row slot ≡ true → slot.start + slot.span < 2 ^ 64
unfolding is_row
row_ends slot is =
    let at : slot.start + slot.span ≤ ADDRESS_LIMIT = leb-true (slot.start + slot.span) ADDRESS_LIMIT (and_parts _ _ is).1 in
    omega (arith, at)

rows_end : (slots : List Slot) → list_all is_row slots ≡ true → All (λ slot. slot.start + slot.span < 2 ^ 64) slots
rows_end [] is = All-nil (λ (slot : Slot). slot.start + slot.span < 2 ^ 64)
rows_end (slot ∷ slots) is =
    let parts = and_parts (is_row slot) (list_all is_row slots) is in
    All-cons (λ (s : Slot). s.start + s.span < 2 ^ 64) slot slots (row_ends slot parts.0) (rows_end slots parts.1)

pub ends_fit : (cache : Cache) → is_cache cache ≡ true → All (λ slot. slot.start + slot.span < 2 ^ 64) cache.rows
unfolding is_cache
ends_fit cache is = rows_end cache.rows (and_parts _ _ (and_parts _ _ is).0).1
