-- The lines of the recipes.
use Rattle.std.specs.Prelude.{ℕ, ◌+◌, ◌*◌, ◌-◌, ◌%◌, ◌==◌, Bool, false, List, [], ◌∷◌, ◌++◌, codes, length, replicate, if◌then◌else◌}
use Rattle.std.specs.List.{list_any}
use Rattle.std.specs.Fmt.{decimal, digits}
use Rattle.pl_base.specs.Digits.{line_text}
use Rattle.pl_gen.specs.declared.relocation_kind.RelocationKind.{RelocationKind}
use Rattle.pl_gen.specs.declared.relocation_kind.RelocationKind.TheVariants.{Relative, Abs64, GlobDat, JumpSlot}

-- ---- names

-- a number in three decimal digits at least
unfoldable pub three : ℕ → List ℕ
three number = replicate (3 - length (decimal number)) 48 ++ decimal number

abbrev pub library_name : ℕ → List ℕ
library_name i = codes "lib" ++ three i

abbrev pub program_name : ℕ → List ℕ
program_name j = codes "prog" ++ three j

-- a function
abbrev pub function_name : ℕ → List ℕ
function_name number = codes "s" ++ three number

-- the object of a library
abbrev pub object_name : ℕ → List ℕ
object_name i = codes "o" ++ three i

abbrev pub hexadecimal : ℕ → List ℕ
hexadecimal number = digits 16 false number

-- ---- lines

unfoldable pub needs_line : ℕ → List ℕ
needs_line i = line_text (codes "needs " ∷ library_name i ∷ [])

unfoldable pub def_line : ℕ → ℕ → List ℕ
def_line offset number = line_text (codes "def " ∷ function_name number ∷ codes " global func " ∷ hexadecimal offset ∷ codes " 8" ∷ [])

unfoldable pub object_line : ℕ → List ℕ
object_line i = line_text (codes "def " ∷ object_name i ∷ codes " global object 800 8" ∷ [])

unfoldable pub ref_line : ℕ → List ℕ
ref_line number = line_text (codes "ref " ∷ function_name number ∷ codes " weak func" ∷ [])

unfoldable pub copy_line : ℕ → List ℕ
copy_line i = line_text (codes "rel copy 800 " ∷ object_name i ∷ codes " 0" ∷ [])

unfoldable pub relative_line : ℕ → ℕ → List ℕ
relative_line place addend = line_text (codes "rel relative " ∷ hexadecimal place ∷ codes " - " ∷ hexadecimal addend ∷ [])

unfoldable pub function_line : List ℕ → ℕ → ℕ → List ℕ
function_line kind place number = line_text (codes "rel " ∷ kind ∷ codes " " ∷ hexadecimal place ∷ codes " " ∷ function_name number ∷ codes " 0" ∷ [])

-- ---- many lines

-- a number is among numbers
abbrev pub has : List ℕ → ℕ → Bool
has numbers number = list_any (λ n. n == number) numbers

-- a line, where its number is not among those before
abbrev pub unless_there : List ℕ → ℕ → List ℕ → List ℕ
unless_there before number text = if has before number then [] else text

-- the libraries that are needed, each once, behind those before
unfoldable pub needs_lines : List ℕ → List ℕ → List ℕ
needs_lines before [] = []
needs_lines before (i ∷ more) = unless_there before i (needs_line i) ++ needs_lines (before ++ i ∷ []) more

-- the functions that are defined, each once, and 8 bytes behind the one of the turn before
unfoldable pub def_lines : List ℕ → ℕ → List ℕ → List ℕ
def_lines before offset [] = []
def_lines before offset (number ∷ more) = unless_there before number (def_line offset number) ++ def_lines (before ++ number ∷ []) (offset + 8) more

-- the kind of relocation that a word draws
unfoldable pub kind_of : ℕ → RelocationKind
kind_of word = if word % 4 == 0 then Relative else if word % 4 == 1 then Abs64 else if word % 4 == 2 then GlobDat else JumpSlot

-- a relocation by a function, behind the line of the function's symbol where that has none yet
abbrev pub by_function : List ℕ → List ℕ → ℕ → ℕ → List ℕ
by_function known kind place number = unless_there known number (ref_line number) ++ function_line kind place number

-- a relocation, by its kind and the word behind that of its kind
unfoldable pub relocation : List ℕ → ℕ → RelocationKind → ℕ → List ℕ
relocation known place Relative word = relative_line place (8 * (word % 64))
relocation known place Abs64 word = by_function known (codes "abs64") place (word % 1000)
relocation known place GlobDat word = by_function known (codes "globdat") place (word % 1000)
relocation known place JumpSlot word = by_function known (codes "jumpslot") place (word % 1000)

-- the functions that have a symbol after it
unfoldable pub known_after : List ℕ → RelocationKind → ℕ → List ℕ
known_after known Relative word = known
known_after known Abs64 word = known ++ word % 1000 ∷ []
known_after known GlobDat word = known ++ word % 1000 ∷ []
known_after known JumpSlot word = known ++ word % 1000 ∷ []

-- relocations from a place on, of two words each
unfoldable pub relocations : List ℕ → ℕ → List ℕ → List ℕ
relocations known place (kind ∷ word ∷ more) = relocation known place (kind_of kind) word ++ relocations (known_after known (kind_of kind) word) (place + 8) more
relocations known place (kind ∷ []) = []
relocations known place [] = []
