-- The lines of the words of a memory, and how they pass through a buffer.
use Rattle.std.specs.Prelude.{◌≡◌, ◌≤◌, ◌<◌, ℕ, zero, suc, ◌+◌, ◌*◌, ◌^◌, List, [], ◌∷◌, ◌++◌, codes, ◌==◌, if◌then◌else◌, Option, None, is_some, Result, OnOk, OnErr}
use Rattle.std.specs.List.{list_any, flat_map}
use Rattle.std.specs.Option.{unwrap_or}
use Rattle.std.specs.Result.{is_err}
use Rattle.pl_base.specs.Bytes.{word64}
use Rattle.pl_base.specs.Counts.{Counted}
use Rattle.pl_base.specs.Digits.{hex16, line_text}
use Rattle.pl_base.specs.Memory.{Memory, read}
use Rattle.pl_base.specs.Streams.{got_after, GotPrefix}
use Rattle.pl_io.specs.Seen.{Output}
use Rattle.pl_io.specs.declared.failed.Failed.{Failed}
use Rattle.pl_elf.specs.declared.range.Range.{Range}
use Rattle.pl_elf.specs.Ranges.{has}

-- ---- one word

-- the byte at an address, 0 where there is none
abbrev pub byte_in : Memory → ℕ → ℕ
byte_in memory address = unwrap_or (memory address) 0

-- the eight bytes from an address on as a number
unfoldable pub word_in : Memory → ℕ → ℕ
word_in memory address = word64 0 (read memory address 8)

unfoldable pub word_text : ℕ → ℕ → List ℕ
word_text address word = line_text (codes "word " ∷ hex16 address ∷ codes " " ∷ hex16 word ∷ [])

abbrev pub unless_zero : ℕ → ℕ → List ℕ
unless_zero address word = if word == 0 then [] else word_text address word

-- the line of the word of that number, where one of its bytes is not 0
unfoldable pub word_line : Memory → ℕ → List ℕ
word_line memory number = unless_zero (8 * number) (word_in memory (8 * number))

-- ---- all words of a memory

-- the lines of so many words from that number on
unfoldable pub lines_from : Memory → ℕ → ℕ → List ℕ
lines_from memory number zero = []
lines_from memory number (suc count) = lines_from memory number count ++ word_line memory (number + count)

-- addresses lie below 2 ^ 47, so there are 2 ^ 44 words
unfoldable pub word_lines : Memory → List ℕ
word_lines memory = lines_from memory 0 (2 ^ 44)

-- from one address up to another the memory has no byte but 0
abbrev pub IsClear : Memory → ℕ → ℕ → Type 0
IsClear memory from to = (address : ℕ) → from ≤ address → address < to → byte_in memory address ≡ 0

-- ---- objects

-- a memory at the addresses of some ranges alone
unfoldable pub only : List Range → Memory → Memory
only ranges memory address = if list_any (has address) ranges then memory address else None

-- the lines of objects one after the other, of each those of the words at the addresses that it loads
unfoldable pub text : Memory → List (List Range) → List ℕ
text memory objects = flat_map (λ extents. word_lines (only extents memory)) objects

-- ---- a buffer

-- bytes went through a buffer: of what it held before and these, the first ones are in the sink and the others in the buffer
abbrev pub Passes : Option (List ℕ) → Option (List ℕ) → List ℕ → List ℕ → List ℕ → Type 0
Passes old new before after bytes = (flushed : List ℕ) × (new ≡ got_after old flushed) × (flushed ++ after ≡ before ++ bytes)

-- bytes were to go through a buffer; after a fault the sink has got some first bytes of a text
pub record HasPassed (result : Result (Unit {0}) Failed) (bytes text before after : List ℕ) (old new : Output) : Type 0 where
  pub passes : OnOk result (Passes old.got new.got before after bytes)
  pub prefix : OnErr result (GotPrefix old.got new.got text)
  pub tells : is_some new.got ≡ is_some old.got
  pub count : Counted (is_err result) old.faults new.faults
