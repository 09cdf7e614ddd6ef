-- How many files a set has, and which are its programs.
use Rattle.std.proofs.Common.{◌≡◌, ℕ, ◌+◌, ◌*◌, Bool, true, false, cond, List, [], ◌∷◌, ◌++◌, map, refl, ap, ◌∙◌}
use Rattle.std.specs.Prelude.{filter, length}
use Rattle.std.specs.List.{range_with_len}
use Rattle.std.proofs.lemmas.List.{length-append, map-append}
use Rattle.std.proofs.lemmas.List.Elements.{filter-append}
use Rattle.std.proofs.lemmas.List.FromFn.{length-map-range_with_len}
use Rattle.rand_pcg.specs.Lcg.{Lcg}
use Rattle.pl_gen.specs.Draws.{after, seeded}
use Rattle.pl_gen.specs.Lines.{library_name, program_name}
use Rattle.pl_gen.specs.Set as drawn
use Rattle.pl_gen.specs.Set.{demo_set}
use Rattle.pl_demo.specs.Demo.{is_program, names, programs, size}
use Rattle.pl_demo.specs.Laws.{ProgramsAreDrawn, SizesAreSums}

abbrev pub File : Type 0
File = List ℕ × List ℕ

-- the two parts of a set
abbrev pub libraries_in : ℕ → List File
libraries_in number = map (drawn.library (drawn.libraries number) (after 2 (seeded number))) (range_with_len 0 (drawn.libraries number))

abbrev pub programs_in : ℕ → List File
programs_in number = map (drawn.program (drawn.libraries number) (after (322 * drawn.libraries number) (after 2 (seeded number)))) (range_with_len 0 (drawn.programs number))

pub sizes : SizesAreSums
unfolding size demo_set
sizes number =
    length-append (libraries_in number) (programs_in number)
    ∙ (ap (λ (n : ℕ). n + length (programs_in number)) (length-map-range_with_len (drawn.library (drawn.libraries number) (after 2 (seeded number))) 0 (drawn.libraries number))
    ∙ ap (λ (n : ℕ). drawn.libraries number + n) (length-map-range_with_len (drawn.program (drawn.libraries number) (after (322 * drawn.libraries number) (after 2 (seeded number)))) 0 (drawn.programs number)))

-- ---- the names

library_names : (count : ℕ) (g : Lcg) (xs : List ℕ) → map (λ (file : File). file.0) (map (drawn.library count g) xs) ≡ map library_name xs
library_names count g [] = refl
library_names count g (i ∷ xs) = ap (λ (z : List (List ℕ)). library_name i ∷ z) (library_names count g xs)

program_names : (count : ℕ) (g : Lcg) (xs : List ℕ) → map (λ (file : File). file.0) (map (drawn.program count g) xs) ≡ map program_name xs
program_names count g [] = refl
program_names count g (j ∷ xs) = ap (λ (z : List (List ℕ)). program_name j ∷ z) (program_names count g xs)

no_program : (i : ℕ) → is_program (library_name i) ≡ false
unfolding is_program
no_program i = refl

a_program : (j : ℕ) → is_program (program_name j) ≡ true
unfolding is_program
a_program j = refl

none_of : (xs : List ℕ) → filter is_program (map library_name xs) ≡ []
none_of [] = refl
none_of (i ∷ xs) = ap (λ (b : Bool). cond b (library_name i ∷ filter is_program (map library_name xs)) (filter is_program (map library_name xs))) (no_program i) ∙ none_of xs

all_of : (xs : List ℕ) → filter is_program (map program_name xs) ≡ map program_name xs
all_of [] = refl
all_of (j ∷ xs) = ap (λ (b : Bool). cond b (program_name j ∷ filter is_program (map program_name xs)) (filter is_program (map program_name xs))) (a_program j) ∙ ap (λ (z : List (List ℕ)). program_name j ∷ z) (all_of xs)

pub names_are : (number : ℕ) → names number ≡ map library_name (range_with_len 0 (drawn.libraries number)) ++ map program_name (range_with_len 0 (drawn.programs number))
unfolding names demo_set
names_are number =
    map-append (λ (file : File). file.0) (libraries_in number) (programs_in number)
    ∙ (ap (λ (z : List (List ℕ)). z ++ map (λ (file : File). file.0) (programs_in number)) (library_names (drawn.libraries number) (after 2 (seeded number)) (range_with_len 0 (drawn.libraries number)))
    ∙ ap (λ (z : List (List ℕ)). map library_name (range_with_len 0 (drawn.libraries number)) ++ z) (program_names (drawn.libraries number) (after (322 * drawn.libraries number) (after 2 (seeded number))) (range_with_len 0 (drawn.programs number))))

pub programs_drawn : ProgramsAreDrawn
unfolding programs
programs_drawn number =
    let libraries : List (List ℕ) = map library_name (range_with_len 0 (drawn.libraries number)) in
    let own : List (List ℕ) = map program_name (range_with_len 0 (drawn.programs number)) in
    ap (λ (z : List (List ℕ)). filter is_program z) (names_are number)
    ∙ (filter-append is_program libraries own
    ∙ (ap (λ (z : List (List ℕ)). z ++ filter is_program own) (none_of (range_with_len 0 (drawn.libraries number)))
    ∙ all_of (range_with_len 0 (drawn.programs number))))
