-- The recipes of a generated set have at most 1 MiB.
use Rattle.std.proofs.Common.{◌≡◌, ℕ, zero, suc, ◌+◌, ◌*◌, ◌/◌, ◌%◌, ◌^◌, ◌≤◌, false, List, [], ◌∷◌, ◌++◌, length, take, drop, refl, length-append, arith, inl, inr}
use Rattle.std.specs.Prelude.{◌==◌, codes}
use Rattle.std.specs.Fmt.{digits, digits_onto, digit_glyph}
use Rattle.std.specs.List.{AllByRecursion}
use Rattle.std.proofs.lemmas.Bool.{cases_Bool}
use Rattle.std.proofs.lemmas.List.{length-map}
use Rattle.pl_base.specs.Digits.{line_text}
use Rattle.pl_gen.specs.Draws.{at}
use Rattle.pl_gen.specs.Lines.{library_name, function_name, object_name, hexadecimal, needs_line, def_line, object_line, ref_line, copy_line, relative_line, function_line, has, unless_there, needs_lines, def_lines, kind_of, by_function, relocation, known_after, relocations}
use Rattle.pl_gen.specs.Set.{functions, needed, library_recipe, program_recipe}
use Rattle.pl_gen.specs.declared.relocation_kind.RelocationKind.{RelocationKind}
use Rattle.pl_gen.specs.declared.relocation_kind.RelocationKind.TheVariants.{Relative, Abs64, GlobDat, JumpSlot}
use Rattle.law_demo.specs.SetRecipes.{library_words, program_words}
use Rattle.law_demo.proofs.NameLaws.{three_few}
use Rattle.law_demo.proofs.SetLaws.{take_few, functions_few}

-- ---- pieces of a line, of at most 70 bytes

abbrev IsPiece : List ℕ → Type 0
IsPiece piece = length piece ≤ 70

digits_few : (base fuel n : ℕ) (acc : List ℕ) → length (digits_onto fuel base false n acc) ≤ fuel + length acc
digits_few base zero n acc = omega arith
digits_few base (suc fuel) n acc = elim (cases_Bool (n / base == 0)) [
  | inl none ↦ rw none (omega arith)
  | inr more ↦ rw more (let rest = digits_few base fuel (n / base) (digit_glyph false (n % base) ∷ acc) in omega (arith, rest))
]

hex_piece : (n : ℕ) → IsPiece (hexadecimal n)
unfolding digits
hex_piece n = let few = digits_few 16 64 n [] in omega (arith, few)

library_piece : (n : ℕ) → IsPiece (library_name n)
library_piece n = omega (arith, three_few n)

function_piece : (n : ℕ) → IsPiece (function_name n)
function_piece n = omega (arith, three_few n)

object_piece : (n : ℕ) → IsPiece (object_name n)
object_piece n = omega (arith, three_few n)

fixed : (piece : List ℕ) (n : ℕ) → length piece ≡ n → n ≤ 70 → IsPiece piece
fixed piece n long few = omega (arith, long, few)

line_long : (pieces : List (List ℕ)) → AllByRecursion IsPiece pieces → length (line_text pieces) ≤ 70 * length pieces + 1
line_long [] all = omega arith
line_long (piece ∷ pieces) all = let rest = line_long pieces all.1 in omega (arith, length-append piece (line_text pieces), all.0, rest)

line_short : (pieces : List (List ℕ)) (n : ℕ) → length pieces ≡ n → n ≤ 7 → AllByRecursion IsPiece pieces → length (line_text pieces) ≤ 512
line_short pieces n long few all = omega (arith, line_long pieces all, long, few)

-- ---- each line

needs_short : (i : ℕ) → length (needs_line i) ≤ 512
unfolding needs_line
needs_short i = line_short (codes "needs " ∷ library_name i ∷ []) 2 refl (omega arith) (fixed (codes "needs ") 6 refl (omega arith), (library_piece i, tt))

def_short : (offset n : ℕ) → length (def_line offset n) ≤ 512
unfolding def_line
def_short offset n =
    line_short (codes "def " ∷ function_name n ∷ codes " global func " ∷ hexadecimal offset ∷ codes " 8" ∷ []) 5 refl (omega arith)
    (fixed (codes "def ") 4 refl (omega arith), (function_piece n, (fixed (codes " global func ") 13 refl (omega arith), (hex_piece offset, (fixed (codes " 8") 2 refl (omega arith), tt)))))

object_short : (i : ℕ) → length (object_line i) ≤ 512
unfolding object_line
object_short i =
    line_short (codes "def " ∷ object_name i ∷ codes " global object 800 8" ∷ []) 3 refl (omega arith)
    (fixed (codes "def ") 4 refl (omega arith), (object_piece i, (fixed (codes " global object 800 8") 20 refl (omega arith), tt)))

ref_short : (n : ℕ) → length (ref_line n) ≤ 512
unfolding ref_line
ref_short n =
    line_short (codes "ref " ∷ function_name n ∷ codes " weak func" ∷ []) 3 refl (omega arith)
    (fixed (codes "ref ") 4 refl (omega arith), (function_piece n, (fixed (codes " weak func") 10 refl (omega arith), tt)))

copy_short : (i : ℕ) → length (copy_line i) ≤ 512
unfolding copy_line
copy_short i =
    line_short (codes "rel copy 800 " ∷ object_name i ∷ codes " 0" ∷ []) 3 refl (omega arith)
    (fixed (codes "rel copy 800 ") 13 refl (omega arith), (object_piece i, (fixed (codes " 0") 2 refl (omega arith), tt)))

relative_short : (place addend : ℕ) → length (relative_line place addend) ≤ 512
unfolding relative_line
relative_short place addend =
    line_short (codes "rel relative " ∷ hexadecimal place ∷ codes " - " ∷ hexadecimal addend ∷ []) 4 refl (omega arith)
    (fixed (codes "rel relative ") 13 refl (omega arith), (hex_piece place, (fixed (codes " - ") 3 refl (omega arith), (hex_piece addend, tt))))

function_short : (kind : List ℕ) (place n : ℕ) → IsPiece kind → length (function_line kind place n) ≤ 512
unfolding function_line
function_short kind place n piece =
    line_short (codes "rel " ∷ kind ∷ codes " " ∷ hexadecimal place ∷ codes " " ∷ function_name n ∷ codes " 0" ∷ []) 7 refl (omega arith)
    (fixed (codes "rel ") 4 refl (omega arith), (piece, (fixed (codes " ") 1 refl (omega arith), (hex_piece place, (fixed (codes " ") 1 refl (omega arith), (function_piece n, (fixed (codes " 0") 2 refl (omega arith), tt)))))))

-- ---- many lines

unless_short : (before : List ℕ) (n : ℕ) (text : List ℕ) → length text ≤ 512 → length (unless_there before n text) ≤ 512
unless_short before n text short = elim (cases_Bool (has before n)) [
  | inl known ↦ rw known (omega arith)
  | inr new ↦ rw new short
]

all_needs_short : (before xs : List ℕ) → length (needs_lines before xs) ≤ 512 * length xs
unfolding needs_lines
all_needs_short before [] = omega arith
all_needs_short before (i ∷ more) =
    let one = unless_short before i (needs_line i) (needs_short i) in
    let rest = all_needs_short (before ++ i ∷ []) more in
    omega (arith, length-append (unless_there before i (needs_line i)) (needs_lines (before ++ i ∷ []) more), one, rest)

all_defs_short : (before : List ℕ) (offset : ℕ) (xs : List ℕ) → length (def_lines before offset xs) ≤ 512 * length xs
unfolding def_lines
all_defs_short before offset [] = omega arith
all_defs_short before offset (n ∷ more) =
    let one = unless_short before n (def_line offset n) (def_short offset n) in
    let rest = all_defs_short (before ++ n ∷ []) (offset + 8) more in
    omega (arith, length-append (unless_there before n (def_line offset n)) (def_lines (before ++ n ∷ []) (offset + 8) more), one, rest)

by_short : (known kind : List ℕ) (place n : ℕ) → IsPiece kind → length (by_function known kind place n) ≤ 1024
by_short known kind place n piece =
    omega (arith, length-append (unless_there known n (ref_line n)) (function_line kind place n), unless_short known n (ref_line n) (ref_short n), function_short kind place n piece)

relocation_short : (known : List ℕ) (place : ℕ) (kind : RelocationKind) (word : ℕ) → length (relocation known place kind word) ≤ 1024
unfolding relocation
relocation_short known place Relative word = let short = relative_short place (8 * (word % 64)) in omega (arith, short)
relocation_short known place Abs64 word = by_short known (codes "abs64") place (word % 1000) (fixed (codes "abs64") 5 refl (omega arith))
relocation_short known place GlobDat word = by_short known (codes "globdat") place (word % 1000) (fixed (codes "globdat") 7 refl (omega arith))
relocation_short known place JumpSlot word = by_short known (codes "jumpslot") place (word % 1000) (fixed (codes "jumpslot") 8 refl (omega arith))

all_relocations_short : (known : List ℕ) (place : ℕ) (words : List ℕ) → length (relocations known place words) ≤ 512 * length words
unfolding relocations
all_relocations_short known place (kind ∷ (word ∷ more)) =
    let one = relocation_short known place (kind_of kind) word in
    let rest = all_relocations_short (known_after known (kind_of kind) word) (place + 8) more in
    omega (arith, length-append (relocation known place (kind_of kind) word) (relocations (known_after known (kind_of kind) word) (place + 8) more), one, rest)
all_relocations_short known place (kind ∷ []) = omega arith
all_relocations_short known place [] = omega arith

-- ---- the recipes

-- a text and what follows it
then_short : (text rest : List ℕ) (m n : ℕ) → length text ≤ m → length rest ≤ n → length (text ++ rest) ≤ m + n
then_short text rest m n one two = omega (arith, length-append text rest, one, two)

at_most : (text : List ℕ) (n : ℕ) → length text ≡ n → length text ≤ n
at_most text n long = omega (arith, long)

whole : (text rest : List ℕ) (m n : ℕ) → length text ≤ m → length rest ≤ n → m + n ≤ 2 ^ 20 → length (text ++ rest) ≤ 2 ^ 20
whole text rest m n one two few = omega (arith, length-append text rest, one, two, few)

pub library_short : (count i : ℕ) (words : List ℕ) → length (library_recipe count i words) ≤ 2 ^ 20
unfolding library_recipe
library_short count i words =
    let relocs : List ℕ = relocations (functions words) 0x808 (library_words words) in
    let from_object : List ℕ = object_line i ++ relocs in
    let from_defs : List ℕ = def_lines [] 0 (functions words) ++ from_object in
    let from_page : List ℕ = codes "data 1000\n" ++ from_defs in
    let from_third : List ℕ = needs_line (at words 1 % count) ++ from_page in
    let from_second : List ℕ = needs_line (at words 0 % count) ++ from_third in
    let from_first : List ℕ = needs_line ((i + 1) % count) ++ from_second in
    let relocs_few : length relocs ≤ 131072 = let short = all_relocations_short (functions words) 0x808 (library_words words) in omega (arith, short, take_few 256 (drop 66 words)) in
    let defs_few : length (def_lines [] 0 (functions words)) ≤ 32768 = let short = all_defs_short [] 0 (functions words) in omega (arith, short, functions_few words) in
    let object : length from_object ≤ 131584 = then_short (object_line i) relocs 512 131072 (object_short i) relocs_few in
    let defs : length from_defs ≤ 164352 = then_short (def_lines [] 0 (functions words)) from_object 32768 131584 defs_few object in
    let page : length from_page ≤ 164362 = then_short (codes "data 1000\n") from_defs 10 164352 (at_most (codes "data 1000\n") 10 refl) defs in
    let third : length from_third ≤ 164874 = then_short (needs_line (at words 1 % count)) from_page 512 164362 (needs_short (at words 1 % count)) page in
    let second : length from_second ≤ 165386 = then_short (needs_line (at words 0 % count)) from_third 512 164874 (needs_short (at words 0 % count)) third in
    let first : length from_first ≤ 165898 = then_short (needs_line ((i + 1) % count)) from_second 512 165386 (needs_short ((i + 1) % count)) second in
    whole (codes "library\nhash both\nbuckets 8\n") from_first 28 165898 (at_most (codes "library\nhash both\nbuckets 8\n") 28 refl) first (omega arith)

needed_few : (count : ℕ) (words : List ℕ) → length (needed count words) ≤ 3
needed_few count words = omega (arith, length-map (take 3 words) (λ (word : ℕ). word % count), take_few 3 words)

pub program_short : (count : ℕ) (words : List ℕ) → length (program_recipe count words) ≤ 2 ^ 20
unfolding program_recipe
program_short count words =
    let i : ℕ = at words 0 % count in
    let relocs : List ℕ = relocations [] 0 (program_words words) in
    let from_object : List ℕ = object_line i ++ copy_line i in
    let from_bss : List ℕ = codes "bss 8\n" ++ from_object in
    let from_relocs : List ℕ = relocs ++ from_bss in
    let from_page : List ℕ = codes "data 800\n" ++ from_relocs in
    let from_needs : List ℕ = needs_lines [] (needed count words) ++ from_page in
    let needs_few : length (needs_lines [] (needed count words)) ≤ 1536 = let short = all_needs_short [] (needed count words) in omega (arith, short, needed_few count words) in
    let relocs_few : length relocs ≤ 65536 = let short = all_relocations_short [] 0 (program_words words) in omega (arith, short, take_few 128 (drop 3 words)) in
    let object : length from_object ≤ 1024 = then_short (object_line i) (copy_line i) 512 512 (object_short i) (copy_short i) in
    let bss : length from_bss ≤ 1030 = then_short (codes "bss 8\n") from_object 6 1024 (at_most (codes "bss 8\n") 6 refl) object in
    let with_relocs : length from_relocs ≤ 66566 = then_short relocs from_bss 65536 1030 relocs_few bss in
    let page : length from_page ≤ 66575 = then_short (codes "data 800\n") from_relocs 9 66566 (at_most (codes "data 800\n") 9 refl) with_relocs in
    let needs : length from_needs ≤ 68111 = then_short (needs_lines [] (needed count words)) from_page 1536 66575 needs_few page in
    whole (codes "program\nhash gnu\nbuckets 8\n") from_needs 27 68111 (at_most (codes "program\nhash gnu\nbuckets 8\n") 27 refl) needs (omega arith)
