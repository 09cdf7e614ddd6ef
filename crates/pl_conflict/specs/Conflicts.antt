-- The conflict rows of a program: the words of its libraries' places that differ from what the libraries' files load there (Jelínek, "Prelink", on conflicts).
use Rattle.std.specs.Prelude.{ℕ, ◌||◌, ◌==◌, nat_lt, List, [], ◌∷◌, Option, Some, None, Result, Ok, slice_get, if◌then◌else◌}
use Rattle.std.specs.List.{filter_map}
use Rattle.std.specs.Str.{bytes_eq}
use Rattle.pl_base.specs.Answers.{◌>>=◌}
use Rattle.pl_base.specs.Bytes.{bytes64}
use Rattle.pl_base.specs.Memory.{Piece, layered, read}
use Rattle.pl_tls.specs.declared.module.Module.{Module}
use Rattle.pl_object.specs.declared.object.Object.{Object}
use Rattle.pl_image.specs.declared.loaded_object.LoadedObject.{LoadedObject}
use Rattle.pl_lists.specs.declared.conflict_row.ConflictRow.{ConflictRow}
use Rattle.pl_value.specs.Meanings.{meanings}
use Rattle.pl_value.specs.Ordinary.{loaded_objects}
use Rattle.pl_value.specs.declared.fault.LinkFault.{LinkFault}
use Rattle.pl_value.specs.declared.meaning.Meaning.{Meaning}
use Rattle.pl_value.specs.declared.word.Word.{Word}
use Rattle.pl_value.specs.declared.word.Word.TheVariants.{Put, Copy, Nothing}

-- ---- what files load

abbrev pub pieces_in : Option LoadedObject → List Piece
pieces_in None = []
pieces_in (Some l) = l.pieces

-- the eight bytes that a member's file loads from an address on
unfoldable pub held : List LoadedObject → ℕ → ℕ → List ℕ
held files member start = read (layered (pieces_in (slice_get files member))) start 8

-- ---- rows

-- the row of a word for a place, unless the place is the program's, which is the first member, or holds the word
abbrev pub row_of : List LoadedObject → ℕ → ℕ → Word → Option ConflictRow
row_of files member start (Put word) =
    if member == 0 || bytes_eq (held files member start) (bytes64 word) then None else Some (record { address = start; word = word })
row_of files member start (Copy from at bytes) = None
row_of files member start Nothing = None

unfoldable pub rows_of : List LoadedObject → List Meaning → List ConflictRow
rows_of files gs = filter_map (λ g. row_of files g.member g.start g.word) gs

-- ---- their order

-- a row before the first of a higher address
unfoldable pub inserted : ConflictRow → List ConflictRow → List ConflictRow
inserted row [] = row ∷ []
inserted row (next ∷ later) = if nat_lt row.address next.address then row ∷ next ∷ later else next ∷ inserted row later

-- rows in ascending order of their addresses
unfoldable pub ascending : List ConflictRow → List ConflictRow
ascending [] = []
ascending (row ∷ rows) = inserted row (ascending rows)

-- ---- the whole

-- the conflict rows of a program's scope whose libraries' files are these parts, or the first link refusal
unfoldable pub conflicts : List Object → List (List ℕ) → List ℕ → List Module → Result (List ConflictRow) LinkFault
conflicts objects parts places modules = meanings objects places modules >>= λ gs. Ok (ascending (rows_of (loaded_objects places parts objects) gs))
