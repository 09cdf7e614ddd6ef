-- The lines of a generated set's recipes are gathered into its recipes.
use Rattle.std.proofs.Common.{◌≡◌, ℕ, ◌+◌, ◌%◌, false, true, List, [], ◌∷◌, ◌++◌, map, fold, refl, sym, ap, ◌∙◌, append_assoc}
use Rattle.std.proofs.lemmas.List.{append-nil}
use Rattle.std.proofs.lemmas.List.Sums.{fold-append}
use Rattle.pl_build.specs.declared.kind.FileKind.TheVariants.{Program, Library}
use Rattle.pl_build.specs.declared.line.Line.{Line}
use Rattle.pl_build.specs.declared.line.Line.TheVariants.{Empty, Needs, Data, Bss, Names, Relocates}
use Rattle.pl_build.specs.declared.line.Relocation.{Relocation}
use Rattle.pl_build.specs.declared.line.SymbolLine.{SymbolLine}
use Rattle.pl_build.specs.declared.recipe.Recipe.{Recipe}
use Rattle.pl_build.specs.declared.recipe.Settings.{Settings}
use Rattle.pl_build.specs.Recipe.{added, empty, gathered}
use Rattle.pl_gen.specs.Draws.{at}
use Rattle.pl_gen.specs.Lines.{library_name, kind_of, known_after}
use Rattle.pl_gen.specs.Set.{functions, needed}
use Rattle.law_demo.specs.SetLines.{relocation_lines, all_relocation_lines, library_lines, program_lines}
use Rattle.law_demo.specs.SetRecipes.{needed_names, own_functions, own_object, reference, references, relocation_of, relocations_from, copy_of, library_words, program_words, settings_of, library_of, program_of}

-- a recipe without words, versions and packed words
abbrev recipe_of : Settings → List (List ℕ) → List SymbolLine → List Relocation → Recipe
recipe_of s needs symbols relocations = record { settings = s; needs = needs; words = []; versions = []; symbols = symbols; relocations = relocations; packed = [] }

needs_added : (xs needs : List (List ℕ)) (s : Settings) (symbols : List SymbolLine) (relocations : List Relocation) → fold added (recipe_of s needs symbols relocations) (map Needs xs) ≡ recipe_of s (needs ++ xs) symbols relocations
needs_added [] needs s symbols relocations = ap (λ (l : List (List ℕ)). recipe_of s l symbols relocations) (sym (append-nil needs))
needs_added (x ∷ xs) needs s symbols relocations =
    needs_added xs (needs ++ x ∷ []) s symbols relocations ∙ ap (λ (l : List (List ℕ)). recipe_of s l symbols relocations) (append_assoc needs (x ∷ []) xs)

names_added : (xs symbols : List SymbolLine) (s : Settings) (needs : List (List ℕ)) (relocations : List Relocation) → fold added (recipe_of s needs symbols relocations) (map Names xs) ≡ recipe_of s needs (symbols ++ xs) relocations
names_added [] symbols s needs relocations = ap (λ (l : List SymbolLine). recipe_of s needs l relocations) (sym (append-nil symbols))
names_added (x ∷ xs) symbols s needs relocations =
    names_added xs (symbols ++ x ∷ []) s needs relocations ∙ ap (λ (l : List SymbolLine). recipe_of s needs l relocations) (append_assoc symbols (x ∷ []) xs)

both_same : (s : Settings) (needs : List (List ℕ)) (a b : List SymbolLine) (c d : List Relocation) → a ≡ b → c ≡ d → recipe_of s needs a c ≡ recipe_of s needs b d
both_same s needs a b c d one two = ap (λ (l : List SymbolLine). recipe_of s needs l c) one ∙ ap (λ (l : List Relocation). recipe_of s needs b l) two

relocations_added : (known : List ℕ) (place : ℕ) (words : List ℕ) (s : Settings) (needs : List (List ℕ)) (symbols : List SymbolLine) (relocations : List Relocation)
    → fold added (recipe_of s needs symbols relocations) (all_relocation_lines known place words) ≡ recipe_of s needs (symbols ++ references known words) (relocations ++ relocations_from place words)
unfolding all_relocation_lines relocation_lines references relocations_from
relocations_added known place (kind ∷ (word ∷ more)) s needs symbols relocations =
    let mine : List SymbolLine = reference known (kind_of kind) word in
    let next : Relocation = relocation_of place (kind_of kind) word in
    let later : List ℕ = known_after known (kind_of kind) word in
    let rest : List Line = all_relocation_lines later (place + 8) more in
    let start : Recipe = recipe_of s needs symbols relocations in
    let first : fold added start (map Names mine ++ Relocates next ∷ []) ≡ recipe_of s needs (symbols ++ mine) (relocations ++ next ∷ []) =
    fold-append added start (map Names mine) (Relocates next ∷ []) ∙ ap (λ (r : Recipe). fold added r (Relocates next ∷ [])) (names_added mine symbols s needs relocations) in
    fold-append added start (map Names mine ++ Relocates next ∷ []) rest
    ∙ ap (λ (r : Recipe). fold added r rest) first
    ∙ relocations_added later (place + 8) more s needs (symbols ++ mine) (relocations ++ next ∷ [])
    ∙ both_same s needs _ _ _ _ (append_assoc symbols mine (references later more)) (append_assoc relocations (next ∷ []) (relocations_from (place + 8) more))
relocations_added known place (kind ∷ []) s needs symbols relocations = both_same s needs _ _ _ _ (sym (append-nil symbols)) (sym (append-nil relocations))
relocations_added known place [] s needs symbols relocations = both_same s needs _ _ _ _ (sym (append-nil symbols)) (sym (append-nil relocations))

-- ---- a library

library_added : (count i : ℕ) (words : List ℕ) → fold added empty (library_lines count i words) ≡ library_of count i words
unfolding library_lines library_of
library_added count i words =
    let s : Settings = settings_of Library true 0x1000 0 in
    let needs : List (List ℕ) = library_name ((i + 1) % count) ∷ library_name (at words 0 % count) ∷ library_name (at words 1 % count) ∷ [] in
    let own : List SymbolLine = own_functions [] 0 (functions words) in
    let rest : List Line = Names (own_object i) ∷ all_relocation_lines (functions words) 0x808 (library_words words) in
    fold-append added (recipe_of s needs [] []) (map Names own) rest
    ∙ ap (λ (r : Recipe). fold added r rest) (names_added own [] s needs [])
    ∙ relocations_added (functions words) 0x808 (library_words words) s needs (own ++ own_object i ∷ []) []
    ∙ ap (λ (l : List SymbolLine). recipe_of s needs l (relocations_from 0x808 (library_words words))) (append_assoc own (own_object i ∷ []) (references (functions words) (library_words words)))

library_ends : (count i : ℕ) (words : List ℕ) → added (library_of count i words) Empty ≡ library_of count i words
unfolding library_of
library_ends count i words = refl

pub library_gathered : (count i : ℕ) (words : List ℕ) → gathered (library_lines count i words ++ Empty ∷ []) ≡ library_of count i words
unfolding gathered
library_gathered count i words =
    fold-append added empty (library_lines count i words) (Empty ∷ []) ∙ ap (λ (r : Recipe). added r Empty) (library_added count i words) ∙ library_ends count i words

-- ---- a program

program_added : (count : ℕ) (words : List ℕ) → fold added empty (program_lines count words) ≡ program_of count words
unfolding program_lines program_of
program_added count words =
    let object : ℕ = at words 0 % count in
    let needs : List (List ℕ) = needed_names [] (needed count words) in
    let last : List Line = Bss 8 ∷ Names (own_object object) ∷ Relocates (copy_of object) ∷ [] in
    let rest : List Line = Data 0x800 ∷ (all_relocation_lines [] 0 (program_words words) ++ last) in
    fold-append added (recipe_of (settings_of Program false 0 0) [] [] []) (map Needs needs) rest
    ∙ ap (λ (r : Recipe). fold added r rest) (needs_added needs [] (settings_of Program false 0 0) [] [])
    ∙ fold-append added (recipe_of (settings_of Program false 0x800 0) needs [] []) (all_relocation_lines [] 0 (program_words words)) last
    ∙ ap (λ (r : Recipe). fold added r last) (relocations_added [] 0 (program_words words) (settings_of Program false 0x800 0) needs [] [])

program_ends : (count : ℕ) (words : List ℕ) → added (program_of count words) Empty ≡ program_of count words
unfolding program_of
program_ends count words = refl

pub program_gathered : (count : ℕ) (words : List ℕ) → gathered (program_lines count words ++ Empty ∷ []) ≡ program_of count words
unfolding gathered
program_gathered count words =
    fold-append added empty (program_lines count words) (Empty ∷ []) ∙ ap (λ (r : Recipe). added r Empty) (program_added count words) ∙ program_ends count words
