-- The recipes of a generated set spell their lines.
use Rattle.std.proofs.Common.{◌≡◌, ℕ, zero, suc, ◌+◌, ◌*◌, ◌%◌, ◌^◌, ◌<◌, ◌≤◌, Bool, true, false, List, [], ◌∷◌, ◌++◌, length, map, take, drop, refl, sym, ap, subst, ◌∙◌, append_assoc, arith, inl, inr}
use Rattle.std.specs.Prelude.{◌==◌, codes}
use Rattle.std.specs.List.{list_all, list_any}
use Rattle.std.proofs.lemmas.Bool.{cases_Bool, and_parts, false≢true}
use Rattle.std.proofs.lemmas.Bool.Decides.{nat_tests}
use Rattle.std.proofs.lemmas.List.{append-nil, length-map, map-append}
use Rattle.pl_build.specs.declared.kind.FileKind.TheVariants.{Program, Library}
use Rattle.pl_build.specs.declared.line.Line.{Line}
use Rattle.pl_build.specs.declared.line.Line.TheVariants.{Empty, First, Hash, Buckets, Needs, Data, Bss, Names, Relocates}
use Rattle.pl_build.specs.Build.{lines}
use Rattle.pl_build.specs.Grammar.{line, line_of, bare, pair, hash_line, number_line_by, number_line}
use Rattle.pl_build.specs.Words.{is_digit, digit, is_number, digit_more, value, number}
use Rattle.pl_gen.specs.Draws.{at}
use Rattle.pl_gen.specs.Lines as gen
use Rattle.pl_gen.specs.Lines.{library_name, function_name, object_name, has}
use Rattle.pl_gen.specs.declared.relocation_kind.RelocationKind.{RelocationKind}
use Rattle.pl_gen.specs.declared.relocation_kind.RelocationKind.TheVariants.{Relative, Abs64, GlobDat, JumpSlot}
use Rattle.pl_gen.specs.Set.{functions, needed, library_recipe, program_recipe}
use Rattle.law_demo.specs.SetLines as set
use Rattle.law_demo.specs.SetLines.{first_lines, library_lines, program_lines, LibrariesSpell, ProgramsSpell}
use Rattle.law_demo.specs.SetRecipes.{once, needed_names, own_functions, own_object, reference, relocation_of, copy_of, library_words, program_words}
use Rattle.law_demo.specs.Spelled.{hexadecimal, defined, referred, recipe_relocation, by_function}
use Rattle.law_demo.specs.Split.{split_by}
use Rattle.law_demo.proofs.NameLaws.{library_plain, function_plain, object_plain, library_line, function_in_line, object_in_line}
use Rattle.law_demo.proofs.NumberLaws.{hex_all}
use Rattle.law_demo.proofs.SpelledLaws.{line_by, needs_read, functions_read, objects_read, refs_read, copies_read, relatives_read, absolutes_read, globdats_read, jumpslots_read}
use Rattle.law_demo.proofs.SplitLaws.{pieces_split, split_ended}

-- ---- texts that spell lines, whatever follows them

pub record Spells (text : List ℕ) (ls : List Line) : Type 0 where
  pub followed : (rest : List ℕ) → map line (split_by 10 (text ++ rest)) ≡ ls ++ map line (split_by 10 rest)

spells_nothing : Spells [] []
spells_nothing = record { followed = λ rest. refl }

spells_both : {a b : List ℕ} {xs ys : List Line} → Spells a xs → Spells b ys → Spells (a ++ b) (xs ++ ys)
spells_both {a} {b} {xs} {ys} one two = record {
  followed = λ rest.
      ap (λ (t : List ℕ). map line (split_by 10 t)) (append_assoc a b rest) ∙ one.followed (b ++ rest) ∙ ap (λ (ls : List Line). xs ++ ls) (two.followed rest) ∙ sym (append_assoc xs ys (map line (split_by 10 rest)));
}

-- one line and its newline
spells_line : (text : List ℕ) (l : Line) → list_any (λ b. b == 10) text ≡ false → line text ≡ l → Spells (text ++ 10 ∷ []) (l ∷ [])
spells_line text l whole is = record {
  followed = λ rest.
      ap (λ (t : List ℕ). map line (split_by 10 t)) (append_assoc text (10 ∷ []) rest)
      ∙ ap (map line) (split_ended 10 text rest whole)
      ∙ ap (λ (x : Line). x ∷ map line (split_by 10 rest)) is;
}

spells_as : (a b : List ℕ) (xs : List Line) → a ≡ b → Spells b xs → Spells a xs
spells_as a b xs e spells = subst (λ (t : List ℕ). Spells t xs) (sym e) spells

spells_to : (a : List ℕ) (xs ys : List Line) → xs ≡ ys → Spells a xs → Spells a ys
spells_to a xs ys e spells = subst (λ (ls : List Line). Spells a ls) e spells

empty_line : line [] ≡ Empty
unfolding line_of bare split_by
empty_line = line_by [] ([] ∷ []) refl

-- a whole recipe: behind the last newline is an empty line
spelled : (text : List ℕ) (ls : List Line) → Spells text ls → lines text ≡ ls ++ Empty ∷ []
unfolding lines split_by
spelled text ls spells = ap (map line) (pieces_split 10 text ∙ ap (split_by 10) (sym (append-nil text))) ∙ spells.followed [] ∙ ap (λ (l : Line). ls ++ l ∷ []) empty_line

-- ---- no newline in a line

none_append : (p : ℕ → Bool) (xs ys : List ℕ) → list_any p xs ≡ false → list_any p ys ≡ false → list_any p (xs ++ ys) ≡ false
none_append p [] ys one two = two
none_append p (x ∷ xs) ys one two = elim (cases_Bool (p x)) [
  | inl hit ↦ absurd (false≢true (sym (rw hit at one)))
  | inr miss ↦ rw miss (none_append p xs ys (rw miss at one) two)
]

not_digit : (b : ℕ) → (b == 10) ≡ true → is_digit b ≡ true → ⊥
unfolding is_digit
not_digit b hit is = grind (arith, nat_tests)

digits_in_line : (xs : List ℕ) → list_all is_digit xs ≡ true → list_any (λ b. b == 10) xs ≡ false
digits_in_line [] all = refl
digits_in_line (b ∷ xs) all =
    let parts = and_parts (is_digit b) (list_all is_digit xs) all in
    elim (cases_Bool (b == 10)) [
      | inl hit ↦ absurd (not_digit b hit parts.0)
      | inr miss ↦ rw miss (digits_in_line xs parts.1)
    ]

hex_in_line : (n : ℕ) → list_any (λ b. b == 10) (hexadecimal n) ≡ false
hex_in_line n = digits_in_line (hexadecimal n) (hex_all n)

-- ---- each kind of line

needs_spell : (i : ℕ) → Spells (gen.needs_line i) (Needs (library_name i) ∷ [])
unfolding gen.needs_line
needs_spell i =
    spells_as (codes "needs " ++ (library_name i ++ 10 ∷ [])) ((codes "needs " ++ library_name i) ++ 10 ∷ []) (Needs (library_name i) ∷ []) (sym (append_assoc (codes "needs ") (library_name i) (10 ∷ [])))
    (spells_line (codes "needs " ++ library_name i) (Needs (library_name i)) (none_append (λ b. b == 10) (codes "needs ") (library_name i) refl (library_line i)) (needs_read (library_name i) (library_plain i)))

-- a name or a number between words
between : (before middle after : List ℕ) → list_any (λ b. b == 10) before ≡ false → list_any (λ b. b == 10) middle ≡ false → list_any (λ b. b == 10) after ≡ false → list_any (λ b. b == 10) (before ++ (middle ++ after)) ≡ false
between before middle after one two three = none_append (λ b. b == 10) before (middle ++ after) one (none_append (λ b. b == 10) middle after two three)

def_spell : (offset n : ℕ) → offset < 2 ^ 64 → Spells (gen.def_line offset n) (Names (defined (function_name n) 2 offset) ∷ [])
unfolding gen.def_line
def_spell offset n small =
    let name : List ℕ = function_name n in
    let hex : List ℕ = hexadecimal offset in
    spells_as (codes "def " ++ (name ++ (codes " global func " ++ (hex ++ (codes " 8" ++ 10 ∷ []))))) ((codes "def " ++ (name ++ (codes " global func " ++ (hex ++ codes " 8")))) ++ 10 ∷ []) (Names (defined name 2 offset) ∷ []) (simp append_assoc)
    (spells_line (codes "def " ++ (name ++ (codes " global func " ++ (hex ++ codes " 8")))) (Names (defined name 2 offset))
    (between (codes "def ") name (codes " global func " ++ (hex ++ codes " 8")) refl (function_in_line n) (between (codes " global func ") hex (codes " 8") refl (hex_in_line offset) refl))
    (functions_read name offset (function_plain n) small))

object_spell : (i : ℕ) → Spells (gen.object_line i) (Names (own_object i) ∷ [])
unfolding gen.object_line
object_spell i =
    let name : List ℕ = object_name i in
    spells_as (codes "def " ++ (name ++ (codes " global object 800 8" ++ 10 ∷ []))) ((codes "def " ++ (name ++ codes " global object 800 8")) ++ 10 ∷ []) (Names (own_object i) ∷ []) (simp append_assoc)
    (spells_line (codes "def " ++ (name ++ codes " global object 800 8")) (Names (own_object i)) (between (codes "def ") name (codes " global object 800 8") refl (object_in_line i) refl) (objects_read name (object_plain i)))

ref_spell : (n : ℕ) → Spells (gen.ref_line n) (Names (referred (function_name n)) ∷ [])
unfolding gen.ref_line
ref_spell n =
    let name : List ℕ = function_name n in
    spells_as (codes "ref " ++ (name ++ (codes " weak func" ++ 10 ∷ []))) ((codes "ref " ++ (name ++ codes " weak func")) ++ 10 ∷ []) (Names (referred name) ∷ []) (simp append_assoc)
    (spells_line (codes "ref " ++ (name ++ codes " weak func")) (Names (referred name)) (between (codes "ref ") name (codes " weak func") refl (function_in_line n) refl) (refs_read name (function_plain n)))

copy_spell : (i : ℕ) → Spells (gen.copy_line i) (Relocates (copy_of i) ∷ [])
unfolding gen.copy_line
copy_spell i =
    let name : List ℕ = object_name i in
    spells_as (codes "rel copy 800 " ++ (name ++ (codes " 0" ++ 10 ∷ []))) ((codes "rel copy 800 " ++ (name ++ codes " 0")) ++ 10 ∷ []) (Relocates (copy_of i) ∷ []) (simp append_assoc)
    (spells_line (codes "rel copy 800 " ++ (name ++ codes " 0")) (Relocates (copy_of i)) (between (codes "rel copy 800 ") name (codes " 0") refl (object_in_line i) refl) (copies_read name (object_plain i)))

relative_spell : (place addend : ℕ) → place < 2 ^ 64 → addend < 2 ^ 64 → Spells (gen.relative_line place addend) (Relocates (recipe_relocation (codes "-") 8 place addend) ∷ [])
unfolding gen.relative_line
relative_spell place addend fits small =
    let hex : List ℕ = hexadecimal place in
    let more : List ℕ = hexadecimal addend in
    spells_as (codes "rel relative " ++ (hex ++ (codes " - " ++ (more ++ 10 ∷ [])))) ((codes "rel relative " ++ (hex ++ (codes " - " ++ more))) ++ 10 ∷ []) (Relocates (recipe_relocation (codes "-") 8 place addend) ∷ []) (simp append_assoc)
    (spells_line (codes "rel relative " ++ (hex ++ (codes " - " ++ more))) (Relocates (recipe_relocation (codes "-") 8 place addend))
    (between (codes "rel relative ") hex (codes " - " ++ more) refl (hex_in_line place) (none_append (λ b. b == 10) (codes " - ") more refl (hex_in_line addend)))
    (relatives_read place addend fits small))

-- by a function, of a kind in a word
function_text : (kind : List ℕ) (place n : ℕ) (l : Line) → list_any (λ b. b == 10) kind ≡ false → line (by_function kind place (function_name n)) ≡ l → Spells (gen.function_line kind place n) (l ∷ [])
unfolding gen.function_line
function_text kind place n l whole is =
    let name : List ℕ = function_name n in
    let hex : List ℕ = hexadecimal place in
    spells_as (codes "rel " ++ (kind ++ (codes " " ++ (hex ++ (codes " " ++ (name ++ (codes " 0" ++ 10 ∷ []))))))) (by_function kind place name ++ 10 ∷ []) (l ∷ []) (simp append_assoc)
    (spells_line (by_function kind place name) l
    (between (codes "rel ") kind (codes " " ++ (hex ++ (codes " " ++ (name ++ codes " 0")))) refl whole (between (codes " ") hex (codes " " ++ (name ++ codes " 0")) refl (hex_in_line place) (between (codes " ") name (codes " 0") refl (function_in_line n) refl)))
    is)

-- ---- lines of which each number has one

unless_spell : {A : Type 0} (f : A → Line) (x : A) (before : List ℕ) (n : ℕ) (text : List ℕ) → Spells text (f x ∷ []) → Spells (gen.unless_there before n text) (map f (once before n x))
unless_spell f x before n text spells = elim (cases_Bool (has before n)) [
  | inl known ↦ rw known spells_nothing
  | inr new ↦ rw new spells
]

all_needs : (before xs : List ℕ) → Spells (gen.needs_lines before xs) (map Needs (needed_names before xs))
unfolding gen.needs_lines needed_names
all_needs before [] = spells_nothing
all_needs before (i ∷ more) =
    spells_to _ _ _ (sym (map-append Needs (once before i (library_name i)) (needed_names (before ++ i ∷ []) more)))
    (spells_both (unless_spell Needs (library_name i) before i (gen.needs_line i) (needs_spell i)) (all_needs (before ++ i ∷ []) more))

all_defs : (before : List ℕ) (offset : ℕ) (xs : List ℕ) → offset + 8 * length xs < 2 ^ 64 → Spells (gen.def_lines before offset xs) (map Names (own_functions before offset xs))
unfolding gen.def_lines own_functions
all_defs before offset [] fits = spells_nothing
all_defs before offset (n ∷ more) fits =
    spells_to _ _ _ (sym (map-append Names (once before n (defined (function_name n) 2 offset)) (own_functions (before ++ n ∷ []) (offset + 8) more)))
    (spells_both (unless_spell Names (defined (function_name n) 2 offset) before n (gen.def_line offset n) (def_spell offset n (omega (arith, fits)))) (all_defs (before ++ n ∷ []) (offset + 8) more (omega (arith, fits))))

by_spell : (known : List ℕ) (kind : List ℕ) (number_of place n : ℕ) → Spells (gen.function_line kind place n) (Relocates (recipe_relocation (function_name n) number_of place 0) ∷ [])
    → Spells (gen.by_function known kind place n) (map Names (once known n (referred (function_name n))) ++ Relocates (recipe_relocation (function_name n) number_of place 0) ∷ [])
by_spell known kind number_of place n spells = spells_both (unless_spell Names (referred (function_name n)) known n (gen.ref_line n) (ref_spell n)) spells

one_relocation : (known : List ℕ) (place : ℕ) (kind : RelocationKind) (word : ℕ) → place < 2 ^ 64 → Spells (gen.relocation known place kind word) (set.relocation_lines known place kind word)
unfolding gen.relocation set.relocation_lines reference relocation_of
one_relocation known place Relative word fits = relative_spell place (8 * (word % 64)) fits (omega arith)
one_relocation known place Abs64 word fits = by_spell known (codes "abs64") 1 place (word % 1000) (function_text (codes "abs64") place (word % 1000) _ refl (absolutes_read (function_name (word % 1000)) place (function_plain (word % 1000)) fits))
one_relocation known place GlobDat word fits = by_spell known (codes "globdat") 6 place (word % 1000) (function_text (codes "globdat") place (word % 1000) _ refl (globdats_read (function_name (word % 1000)) place (function_plain (word % 1000)) fits))
one_relocation known place JumpSlot word fits = by_spell known (codes "jumpslot") 7 place (word % 1000) (function_text (codes "jumpslot") place (word % 1000) _ refl (jumpslots_read (function_name (word % 1000)) place (function_plain (word % 1000)) fits))

all_relocations : (known : List ℕ) (place : ℕ) (words : List ℕ) → place + 8 * length words < 2 ^ 64 → Spells (gen.relocations known place words) (set.all_relocation_lines known place words)
unfolding gen.relocations set.all_relocation_lines
all_relocations known place (kind ∷ (word ∷ more)) fits =
    spells_both (one_relocation known place (gen.kind_of kind) word (omega (arith, fits))) (all_relocations (gen.known_after known (gen.kind_of kind) word) (place + 8) more (omega (arith, fits)))
all_relocations known place (kind ∷ []) fits = spells_nothing
all_relocations known place [] fits = spells_nothing

-- ---- the lines with no name

fixed_line : (text : List ℕ) (words : List (List ℕ)) (l : Line) → list_any (λ b. b == 10) text ≡ false → split_by 32 text ≡ words → line_of words ≡ l → Spells (text ++ 10 ∷ []) (l ∷ [])
fixed_line text words l whole split is = spells_line text l whole (line_by text words split ∙ is)

library_head : Spells (codes "library\nhash both\nbuckets 8\n") (first_lines Library true)
unfolding split_by line_of bare pair hash_line number_line_by number_line number is_number value is_digit digit digit_more
library_head =
    let kind = fixed_line (codes "library") (codes "library" ∷ []) (First Library) refl refl refl in
    let hash = fixed_line (codes "hash both") (codes "hash" ∷ codes "both" ∷ []) (Hash (record { sysv = true; gnu = true })) refl refl refl in
    let buckets = fixed_line (codes "buckets 8") (codes "buckets" ∷ codes "8" ∷ []) (Buckets 8) refl refl refl in
    spells_both kind (spells_both hash buckets)

program_head : Spells (codes "program\nhash gnu\nbuckets 8\n") (first_lines Program false)
unfolding split_by line_of bare pair hash_line number_line_by number_line number is_number value is_digit digit digit_more
program_head =
    let kind = fixed_line (codes "program") (codes "program" ∷ []) (First Program) refl refl refl in
    let hash = fixed_line (codes "hash gnu") (codes "hash" ∷ codes "gnu" ∷ []) (Hash (record { sysv = false; gnu = true })) refl refl refl in
    let buckets = fixed_line (codes "buckets 8") (codes "buckets" ∷ codes "8" ∷ []) (Buckets 8) refl refl refl in
    spells_both kind (spells_both hash buckets)

library_data : Spells (codes "data 1000\n") (Data 0x1000 ∷ [])
unfolding split_by line_of pair number_line_by number_line number is_number value is_digit digit digit_more
library_data = fixed_line (codes "data 1000") (codes "data" ∷ codes "1000" ∷ []) (Data 0x1000) refl refl refl

program_data : Spells (codes "data 800\n") (Data 0x800 ∷ [])
unfolding split_by line_of pair number_line_by number_line number is_number value is_digit digit digit_more
program_data = fixed_line (codes "data 800") (codes "data" ∷ codes "800" ∷ []) (Data 0x800) refl refl refl

program_bss : Spells (codes "bss 8\n") (Bss 8 ∷ [])
unfolding split_by line_of pair number_line_by number_line number is_number value is_digit digit digit_more
program_bss = fixed_line (codes "bss 8") (codes "bss" ∷ codes "8" ∷ []) (Bss 8) refl refl refl

-- ---- the recipes

pub take_few : (n : ℕ) (xs : List ℕ) → length (take n xs) ≤ n
take_few zero xs = omega arith
take_few (suc n) [] = omega arith
take_few (suc n) (x ∷ xs) = let more = take_few n xs in omega (arith, more)

pub functions_few : (words : List ℕ) → length (functions words) ≤ 64
functions_few words = omega (arith, length-map (take 64 (drop 2 words)) (λ (word : ℕ). word % 1000), take_few 64 (drop 2 words))

library_spells : (count i : ℕ) (words : List ℕ) → Spells (library_recipe count i words) (library_lines count i words)
unfolding library_recipe library_lines
library_spells count i words =
    let relocations = all_relocations (functions words) 0x808 (library_words words) (omega (arith, take_few 256 (drop 66 words))) in
    let object = spells_both (object_spell i) relocations in
    let defs = spells_both (all_defs [] 0 (functions words) (omega (arith, functions_few words))) object in
    let page = spells_both library_data defs in
    let third = spells_both (needs_spell (at words 1 % count)) page in
    let second = spells_both (needs_spell (at words 0 % count)) third in
    let first = spells_both (needs_spell ((i + 1) % count)) second in
    spells_both library_head first

program_spells : (count : ℕ) (words : List ℕ) → Spells (program_recipe count words) (program_lines count words)
unfolding program_recipe program_lines
program_spells count words =
    let object = spells_both (object_spell (at words 0 % count)) (copy_spell (at words 0 % count)) in
    let bss = spells_both program_bss object in
    let relocations = spells_both (all_relocations [] 0 (program_words words) (omega (arith, take_few 128 (drop 3 words)))) bss in
    let page = spells_both program_data relocations in
    let needs = spells_both (all_needs [] (needed count words)) page in
    spells_both program_head needs

pub libraries_spell : LibrariesSpell
libraries_spell count i words = spelled (library_recipe count i words) (library_lines count i words) (library_spells count i words)

pub programs_spell : ProgramsSpell
programs_spell count words = spelled (program_recipe count words) (program_lines count words) (program_spells count words)
