-- The names that the recipes of a generated set have, and those of its files.
use Rattle.std.proofs.Common.{◌≡◌, ℕ, ◌+◌, ◌%◌, ◌<◌, Bool, true, false, List, [], ◌∷◌, ◌++◌, length, map, take, refl, sym, ap, ◌∙◌, arith, inl, inr}
use Rattle.std.specs.Prelude.{◌||◌}
use Rattle.std.specs.List.{AllByRecursion, list_any}
use Rattle.std.specs.Str.{bytes_eq}
use Rattle.std.proofs.Math.Nat.{mod-lt}
use Rattle.std.proofs.lemmas.Bool.{cases_Bool, false≢true, or_cases}
use Rattle.std.proofs.lemmas.List.Folds.{list_any-append}
use Rattle.std.proofs.lemmas.Slice.Eq.{bytes_eq-Decides}
use Rattle.pl_build.specs.declared.line.SymbolLine.{SymbolLine}
use Rattle.pl_gen.specs.Draws.{at}
use Rattle.pl_gen.specs.Lines.{library_name, object_name, has, kind_of}
use Rattle.pl_gen.specs.Set.{functions, needed}
use Rattle.pl_gen.specs.declared.relocation_kind.RelocationKind.{RelocationKind}
use Rattle.pl_gen.specs.declared.relocation_kind.RelocationKind.TheVariants.{Relative, Abs64, GlobDat, JumpSlot}
use Rattle.law_demo.specs.SetNames.{IsSpelled, defines_name, copies_name, is_needed, IsLibraryAmong, RecipesAreNamed, FilesAreNamed}
use Rattle.law_demo.specs.SetRecipes.{once, needed_names, own_functions, own_object, references, relocation_of, relocations_from, copy_of, library_words, program_words, library_of, program_of}
use Rattle.law_demo.specs.Spelled.{defined, recipe_relocation}
use Rattle.law_demo.proofs.CoverLaws.{any_second}
use Rattle.law_demo.proofs.FaultLaws.{IsBare, bare_both, own_bare, references_bare, defined_bare}
use Rattle.law_demo.proofs.NameLaws.{library_plain, program_plain, library_apart, program_apart, same_name}

-- ---- symbols

all_spelled : (ss : List SymbolLine) → AllByRecursion IsBare ss → AllByRecursion IsSpelled ss
all_spelled [] all = tt
all_spelled (s ∷ ss) all = (all.0.same, all_spelled ss all.1)

library_spelled : (count i : ℕ) (words : List ℕ) → AllByRecursion IsSpelled (library_of count i words).symbols
unfolding library_of
library_spelled count i words =
    all_spelled (own_functions [] 0 (functions words) ++ own_object i ∷ references (functions words) (library_words words))
    (bare_both (own_functions [] 0 (functions words)) (own_object i ∷ references (functions words) (library_words words)) (own_bare [] 0 (functions words))
    (defined_bare (object_name i) 1 0x800, references_bare (functions words) (library_words words)))

program_spelled : (count : ℕ) (words : List ℕ) → AllByRecursion IsSpelled (program_of count words).symbols
unfolding program_of
program_spelled count words =
    all_spelled (references [] (program_words words) ++ own_object (at words 0 % count) ∷ [])
    (bare_both (references [] (program_words words)) (own_object (at words 0 % count) ∷ []) (references_bare [] (program_words words)) (defined_bare (object_name (at words 0 % count)) 1 0x800, tt))

object_defines : (i : ℕ) → defines_name (object_name i) (own_object i) ≡ true
unfolding defined
object_defines i = same_name (object_name i)

library_defines : (count i : ℕ) (words : List ℕ) → list_any (defines_name (object_name i)) (library_of count i words).symbols ≡ true
unfolding library_of
library_defines count i words =
    any_second (defines_name (object_name i)) (own_functions [] 0 (functions words)) (own_object i ∷ references (functions words) (library_words words)) (rw (object_defines i) refl)

-- ---- copies

no_copy : (name : List ℕ) (place : ℕ) (kind : RelocationKind) (word : ℕ) → copies_name name (relocation_of place kind word) ≡ false
unfolding relocation_of recipe_relocation
no_copy name place Relative word = refl
no_copy name place Abs64 word = refl
no_copy name place GlobDat word = refl
no_copy name place JumpSlot word = refl

no_copies : (name : List ℕ) (place : ℕ) (words : List ℕ) → list_any (copies_name name) (relocations_from place words) ≡ false
unfolding relocations_from
no_copies name place (kind ∷ (word ∷ more)) = rw (no_copy name place (kind_of kind) word) (no_copies name (place + 8) more)
no_copies name place (kind ∷ []) = refl
no_copies name place [] = refl

library_copies : (count i : ℕ) (words name : List ℕ) → list_any (copies_name name) (library_of count i words).relocations ≡ false
unfolding library_of
library_copies count i words name = no_copies name 0x808 (library_words words)

copy_named : (i : ℕ) (name : List ℕ) → list_any (copies_name name) (copy_of i ∷ []) ≡ true → name ≡ object_name i
unfolding recipe_relocation
copy_named i name h = sym ((bytes_eq-Decides (object_name i) name).0 (only (bytes_eq (object_name i) name) h))
  where
    only : (b : Bool) → (b || false) ≡ true → b ≡ true
    only true h = refl
    only false h = h

program_copies : (count : ℕ) (words name : List ℕ) → list_any (copies_name name) (program_of count words).relocations ≡ true → name ≡ object_name (at words 0 % count)
unfolding program_of
program_copies count words name h =
    let parts : (list_any (copies_name name) (relocations_from 0 (program_words words)) || list_any (copies_name name) (copy_of (at words 0 % count) ∷ [])) ≡ true =
    sym (list_any-append (copies_name name) (relocations_from 0 (program_words words)) (copy_of (at words 0 % count) ∷ [])) ∙ h in
    copy_named (at words 0 % count) name (ap (λ (b : Bool). b || list_any (copies_name name) (copy_of (at words 0 % count) ∷ [])) (sym (no_copies name 0 (program_words words))) ∙ parts)

-- ---- needed libraries

same_text : (a b : List ℕ) → bytes_eq a b ≡ true → b ≡ a
same_text a b h = sym ((bytes_eq-Decides a b).0 h)

among_one : (count k : ℕ) (name : List ℕ) → k < count → bytes_eq (library_name k) name ≡ true → IsLibraryAmong count name
among_one count k name few h = record { index = k; few = few; named = same_text (library_name k) name h }

library_needs : (count i : ℕ) (words name : List ℕ) → 0 < count → is_needed (library_of count i words) name ≡ true → IsLibraryAmong count name
unfolding library_of
library_needs count i words name some h = elim (or_cases (bytes_eq (library_name ((i + 1) % count)) name) _ h) [
  | inl first ↦ among_one count ((i + 1) % count) name (mod-lt (i + 1) some) first
  | inr more ↦ elim (or_cases (bytes_eq (library_name (at words 0 % count)) name) _ more) [
    | inl second ↦ among_one count (at words 0 % count) name (mod-lt (at words 0) some) second
    | inr last ↦ elim (or_cases (bytes_eq (library_name (at words 1 % count)) name) _ last) [
      | inl third ↦ among_one count (at words 1 % count) name (mod-lt (at words 1) some) third
      | inr none ↦ absurd (false≢true none)
    ]
  ]
]

-- each number is that of a library
abbrev AreFew : ℕ → List ℕ → Type 0
AreFew count xs = AllByRecursion (λ x. x < count) xs

remainders_few : (count : ℕ) (xs : List ℕ) → 0 < count → AreFew count (map (λ x. x % count) xs)
remainders_few count [] some = tt
remainders_few count (x ∷ xs) some = (mod-lt x some, remainders_few count xs some)

once_among : (count : ℕ) (before : List ℕ) (k : ℕ) (name : List ℕ) → k < count → list_any (λ n. bytes_eq n name) (once before k (library_name k)) ≡ true → IsLibraryAmong count name
once_among count before k name few h = elim (cases_Bool (has before k)) [
  | inl hit ↦ absurd (false≢true (rw hit at h))
  | inr miss ↦ elim (or_cases (bytes_eq (library_name k) name) false (rw miss at h)) [
    | inl one ↦ among_one count k name few one
    | inr none ↦ absurd (false≢true none)
  ]
]

needed_among : (count : ℕ) (before xs : List ℕ) (name : List ℕ) → AreFew count xs → list_any (λ n. bytes_eq n name) (needed_names before xs) ≡ true → IsLibraryAmong count name
unfolding needed_names
needed_among count before [] name few h = absurd (false≢true h)
needed_among count before (k ∷ more) name few h =
    let one : List (List ℕ) = once before k (library_name k) in
    let rest : List (List ℕ) = needed_names (before ++ k ∷ []) more in
    elim (or_cases (list_any (λ n. bytes_eq n name) one) (list_any (λ n. bytes_eq n name) rest) (sym (list_any-append (λ n. bytes_eq n name) one rest) ∙ h)) [
      | inl here ↦ once_among count before k name few.0 here
      | inr later ↦ needed_among count (before ++ k ∷ []) more name few.1 later
    ]

program_needs : (count : ℕ) (words name : List ℕ) → 0 < count → is_needed (program_of count words) name ≡ true → IsLibraryAmong count name
unfolding program_of
program_needs count words name some h = needed_among count [] (needed count words) name (remainders_few count (take 3 words) some) h

-- the first that is drawn is needed
program_first : (count : ℕ) (words : List ℕ) → 0 < length words → is_needed (program_of count words) (library_name (at words 0 % count)) ≡ true
unfolding program_of needed_names
program_first count [] some = absurd (omega (arith, some))
program_first count (w ∷ ws) some = rw (same_name (library_name (w % count))) refl

pub recipes_named : RecipesAreNamed
recipes_named = record {
  libraries = λ count i words. record {
    named = record { spelled = library_spelled count i words; needs = library_needs count i words };
    copies = library_copies count i words;
    defines = library_defines count i words;
  };
  programs = λ count words some. record {
    named = record { spelled = program_spelled count words; needs = program_needs count words };
    copies = program_copies count words;
    needed = program_first count words some;
  };
}

pub files_named : FilesAreNamed
files_named = record {
  libraries = λ i. (library_plain i).valid;
  programs = λ j. (program_plain j).valid;
  apart = library_apart;
  programs_apart = program_apart;
  kinds_apart = λ i j. refl;
}
