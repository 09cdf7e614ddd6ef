-- The text of a cache.
use Rattle.std.specs.Prelude.{ℕ, ◌+◌, List, [], ◌∷◌, ◌++◌, codes, Result, Ok}
use Rattle.std.specs.Fmt.{decimal}
use Rattle.std.specs.List.{flat_map}
use Rattle.pl_base.specs.Answers.{◌>>=◌}
use Rattle.pl_base.specs.Digits.{hex16, line_text}
use Rattle.pl_cache.specs.Reading.{read}
use Rattle.pl_cache.specs.declared.cache.Cache.{Cache}
use Rattle.pl_cache.specs.declared.fault.CacheFault.{CacheFault}
use Rattle.pl_slots.specs.declared.slot.Slot.{Slot}

-- a folder without the file has an empty one
abbrev pub no_cache : Cache
no_cache = record { last = 0; rows = [] }

unfoldable pub last_line : ℕ → List ℕ
last_line last = line_text (codes "last " ∷ decimal last ∷ [])

-- a slot: where it begins and ends, and the name of its library
unfoldable pub slot_line : Slot → List ℕ
slot_line slot = line_text (codes "slot " ∷ hex16 slot.start ∷ codes " " ∷ hex16 (slot.start + slot.span) ∷ codes " " ∷ slot.name ∷ [])

unfoldable pub print_text : Cache → List ℕ
print_text cache = last_line cache.last ++ flat_map slot_line cache.rows

-- the text of the cache that bytes spell
abbrev pub spelled : List ℕ → Result (List ℕ) CacheFault
spelled bytes = read bytes >>= λ cache. Ok (print_text cache)
