-- The set as the code has it, and as it is drawn.
use Rattle.std.proofs.Common.{◌≡◌, ℕ, suc, Bool, true, false, List, [], ◌∷◌, ◌++◌, map, refl, ap, ◌∙◌}
use Rattle.std.specs.Prelude.{filter, fold, length, string_bytes, if◌then◌else◌}
use Rattle.std.specs.List.{flat_map}
use Rattle.pl_base.specs.Files.{Files}
use Rattle.pl_gen.specs.Set.{demo_set, seen}
use Rattle.pl_gen.specs.declared.set.DemoFile.{DemoFile}
use Rattle.pl_demo.specs.declared.counting.Counts.{Counts}
use Rattle.pl_demo.specs.Counted.{all_counts, counts_of, none, plus, with_counts}
use Rattle.pl_demo.specs.Demo.{counts, folder, is_program, names, program_name, programs, size}
use Rattle.pl_demo.specs.Made.{made_files, no_files, with_demo_file, with_file}
use Rattle.pl_demo.specs.Prelinked.{prelinked}

-- ---- the files

fold_entries : (set : List DemoFile) (files : Files) → fold with_demo_file files set ≡ fold with_file files (seen set)
fold_entries [] files = refl
fold_entries (file ∷ set) files = fold_entries set (with_demo_file files file)

pub all_made : (set : List DemoFile) (whole : List (List ℕ × List ℕ)) → seen set ≡ whole → fold with_demo_file no_files set ≡ made_files whole
unfolding made_files
all_made set whole is = fold_entries set no_files ∙ ap (λ (z : List (List ℕ × List ℕ)). fold with_file no_files z) is

-- the folder of the code, at the end, is the one that is meant
pub folder_is : (number : ℕ) (set lent : List DemoFile) (begun made done last : Files) → seen set ≡ demo_set number → lent ≡ set → begun ≡ no_files → made ≡ fold with_demo_file begun lent → done ≡ prelinked made → last ≡ done → last ≡ folder number
unfolding folder
folder_is number set lent begun made done last is same empty all run stayed =
    let whole : fold with_demo_file begun lent ≡ made_files (demo_set number) =
    ap (λ (fs : Files). fold with_demo_file fs lent) empty ∙ (ap (λ (z : List DemoFile). fold with_demo_file no_files z) same ∙ all_made set (demo_set number) is) in
    stayed ∙ (run ∙ ap prelinked (all ∙ whole))

-- ---- the names

names_seen : (set : List DemoFile) → map (λ (file : DemoFile). string_bytes file.name) set ≡ map (λ (file : List ℕ × List ℕ). file.0) (seen set)
names_seen [] = refl
names_seen (file ∷ set) = ap (λ (z : List (List ℕ)). string_bytes file.name ∷ z) (names_seen set)

kept : (b : Bool) (name : List ℕ) (rest other : List (List ℕ)) → rest ≡ other → (if b then name ∷ [] else []) ++ rest ≡ (if b then name ∷ other else other)
kept true name rest other is = ap (λ (z : List (List ℕ)). name ∷ z) is
kept false name rest other is = is

filtered : (set : List DemoFile) → flat_map program_name set ≡ filter is_program (map (λ (file : DemoFile). string_bytes file.name) set)
filtered [] = refl
filtered (file ∷ set) = kept (is_program (string_bytes file.name)) (string_bytes file.name) (flat_map program_name set) (filter is_program (map (λ (file : DemoFile). string_bytes file.name) set)) (filtered set)

module _ (number : ℕ) (set lent : List DemoFile) (is : seen set ≡ demo_set number) (same : lent ≡ set) where
  demo_names : map (λ (file : DemoFile). string_bytes file.name) lent ≡ names number
  unfolding names
  demo_names = ap (λ (z : List DemoFile). map (λ (file : DemoFile). string_bytes file.name) z) same ∙ (names_seen set ∙ ap (λ (z : List (List ℕ × List ℕ)). map (λ (file : List ℕ × List ℕ). file.0) z) is)

  pub programs_are : flat_map program_name lent ≡ programs number
  unfolding programs
  programs_are = filtered lent ∙ ap (λ (z : List (List ℕ)). filter is_program z) demo_names

  -- ---- what they have

  fold_counts : (files : Files) (all : List DemoFile) (total : Counts) → fold (with_counts files) total all ≡ fold (λ (t : Counts) (name : List ℕ). plus t (counts_of files name)) total (map (λ (file : DemoFile). string_bytes file.name) all)
  fold_counts files [] total = refl
  fold_counts files (file ∷ all) total = fold_counts files all (with_counts files total file)

  pub counts_are : (files : Files) → files ≡ folder number → fold (with_counts files) none lent ≡ counts number
  unfolding counts all_counts
  counts_are files at =
      fold_counts files lent none
      ∙ (ap (λ (fs : Files). fold (λ (t : Counts) (name : List ℕ). plus t (counts_of fs name)) none (map (λ (file : DemoFile). string_bytes file.name) lent)) at
      ∙ ap (λ (z : List (List ℕ)). fold (λ (t : Counts) (name : List ℕ). plus t (counts_of (folder number) name)) none z) demo_names)

size_seen : (set : List DemoFile) → length set ≡ length (seen set)
size_seen [] = refl
size_seen (file ∷ set) = ap suc (size_seen set)

pub size_is : (number : ℕ) (set : List DemoFile) → seen set ≡ demo_set number → length set ≡ size number
unfolding size
size_is number set is = size_seen set ∙ ap (λ (z : List (List ℕ × List ℕ)). length z) is
