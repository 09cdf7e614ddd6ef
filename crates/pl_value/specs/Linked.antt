-- The memory that relocations make of another: the words, then the copies.
use Rattle.std.specs.Prelude.{ℕ, Bool, true, false, List, ◌++◌, Option, Some, None}
use Rattle.std.specs.List.{filter_map}
use Rattle.pl_base.specs.Bytes.{bytes64}
use Rattle.pl_base.specs.Memory.{Memory, Fill, filled, read, is_within}
use Rattle.pl_value.specs.declared.meaning.Meaning.{Meaning}
use Rattle.pl_value.specs.declared.word.Word.{Word}
use Rattle.pl_value.specs.declared.word.Word.TheVariants.{Put, Copy, Nothing}

-- whether a place has an address
abbrev pub under : ℕ → Meaning → Bool
under address g = is_within g.start g.size address

-- the bytes of a word for its place
abbrev pub put_of : ℕ → Word → Option Fill
put_of start (Put word) = Some (record { start = start; bytes = bytes64 word })
put_of start (Copy member from size) = None
put_of start Nothing = None

-- the bytes that are copied from a memory to their place
abbrev pub copy_of : Memory → ℕ → Word → Option Fill
copy_of memory start (Put word) = None
copy_of memory start (Copy member from size) = Some (record { start = start; bytes = read memory from size })
copy_of memory start Nothing = None

-- whether bytes are copied to a place
abbrev pub is_copy : Word → Bool
is_copy (Put word) = false
is_copy (Copy member from size) = true
is_copy Nothing = false

unfoldable pub words : List Meaning → List Fill
words gs = filter_map (λ g. put_of g.start g.word) gs

unfoldable pub copies : Memory → List Meaning → List Fill
copies memory gs = filter_map (λ g. copy_of memory g.start g.word) gs

-- a memory with the words in it
abbrev pub worded : Memory → List Meaning → Memory
worded memory gs = filled memory (words gs)

-- what is written over a memory: the words, then the copies
abbrev pub written : Memory → List Meaning → List Fill
written memory gs = words gs ++ copies (worded memory gs) gs

-- with the words, and with the copies of bytes as they stand after the words
unfoldable pub relocated : Memory → List Meaning → Memory
relocated memory gs = filled (worded memory gs) (copies (worded memory gs) gs)
