-- The files of a generated set are built as their recipes describe, and read so.
use Rattle.std.proofs.Common.{◌≡◌, ℕ, ◌+◌, ◌^◌, ◌%◌, ◌≤◌, false, List, [], ◌∷◌, ◌++◌, length, None, Ok, refl, ap, ◌∙◌, arith}
use Rattle.pl_base.specs.Pairs.{any_pair}
use Rattle.pl_base.proofs.SumLaws.{round_up-near}
use Rattle.pl_build.specs.declared.layout.Tables.{Tables}
use Rattle.pl_build.specs.declared.line.Line.{Line}
use Rattle.pl_build.specs.declared.line.Line.TheVariants.{Empty}
use Rattle.pl_build.specs.declared.layout_plan.LayoutPlan.{LayoutPlan}
use Rattle.pl_build.specs.declared.recipe.Recipe.{Recipe}
use Rattle.pl_build.specs.declared.recipe.Settings.{Settings}
use Rattle.pl_build.specs.Build.{build, made_of}
use Rattle.pl_build.specs.Checks.{first_fault}
use Rattle.pl_build.specs.File.{made, parts_end, sections_offset}
use Rattle.pl_build.specs.Layout.{end_of}
use Rattle.pl_build.specs.LayoutPlan.{plan_of}
use Rattle.pl_build.specs.Segments.{data_offset}
use Rattle.pl_build.specs.Recipe.{gathered}
use Rattle.pl_gen.specs.Draws.{at}
use Rattle.pl_gen.specs.Set.{functions, library_recipe, program_recipe}
use Rattle.law_demo.specs.Modest.{is_namesake}
use Rattle.law_demo.specs.SetLines.{library_lines, program_lines, LibrariesAreBuilt, ProgramsAreBuilt}
use Rattle.law_demo.specs.SetRead.{IsFine, IsRead, SetIsRead}
use Rattle.law_demo.specs.SetRecipes.{own_functions, own_object, references, library_words, program_words, library_of, program_of}
use Rattle.law_demo.proofs.AcceptedLaws.{plain_accepted}
use Rattle.law_demo.proofs.FaultLaws.{library_faultless, program_faultless}
use Rattle.law_demo.proofs.FileLaws.{names_of, made_is}
use Rattle.law_demo.proofs.FineLaws.{library_fine, program_fine}
use Rattle.law_demo.proofs.GatherLaws.{library_gathered, program_gathered}
use Rattle.law_demo.proofs.HeadLaws.{few_names, few_roles}
use Rattle.law_demo.proofs.HeadedLaws.{file_long, laid_tables}
use Rattle.law_demo.proofs.MadeLaws.{bounded_made}
use Rattle.law_demo.proofs.SetLaws.{libraries_spell, programs_spell}
use Rattle.law_demo.proofs.ShortLaws.{library_short, program_short}

-- ---- built

made_by : (all : List Line) (r : Recipe) → first_fault all ≡ None → gathered all ≡ r → made_of all ≡ made (plan_of r)
unfolding made_of
made_by all r none is = rw none (ap (λ (x : Recipe). made (plan_of x)) is)

library_apart : (count i : ℕ) (words : List ℕ) → any_pair is_namesake (own_functions [] 0 (functions words) ++ own_object i ∷ references (functions words) (library_words words)) ≡ false
unfolding library_of
library_apart count i words = (library_fine count i words).modest.names

program_apart : (count : ℕ) (words : List ℕ) → any_pair is_namesake (references [] (program_words words) ++ own_object (at words 0 % count) ∷ []) ≡ false
unfolding program_of
program_apart count words = (program_fine count words).modest.names

pub libraries_built : LibrariesAreBuilt
unfolding build
libraries_built count i words =
    ap made_of (libraries_spell count i words)
    ∙ made_by (library_lines count i words ++ Empty ∷ []) (library_of count i words) (library_faultless count i words (library_apart count i words)) (library_gathered count i words)

pub programs_built : ProgramsAreBuilt
unfolding build
programs_built count words =
    ap made_of (programs_spell count words)
    ∙ made_by (program_lines count words ++ Empty ∷ []) (program_of count words) (program_faultless count words (program_apart count words)) (program_gathered count words)

-- ---- read

plan_settings : (r : Recipe) → (plan_of r).settings ≡ r.settings
unfolding plan_of
plan_settings r = refl

file_small : (r : Recipe) (bytes : List ℕ) → IsFine r → r.settings.data_size ≤ 2 ^ 16 → made (plan_of r) ≡ Ok bytes → length bytes ≤ 2 ^ 21
unfolding sections_offset parts_end
file_small r bytes fine few e =
    let p : LayoutPlan = plan_of r in
    let f = made_is p bytes e in
    let t : Tables = f.0 in
    let ends : end_of t ≤ 1048576 = (laid_tables p t f.1).0 in
    let n : ℕ = data_offset (end_of t) + p.settings.data_size + length (names_of p).bytes in
    let same : p.settings.data_size ≡ r.settings.data_size = ap (λ (s : Settings). s.data_size) (plan_settings r) in
    omega (arith, ap (λ (l : List ℕ). length l) f.2, file_long r t fine.plain f.1, round_up-near n 8 (omega arith), round_up-near (end_of t) 4096 (omega arith), ends, same, few, few_names r fine.plain, few_roles r fine.plain)

-- of each recipe of the class that a text is built as
read_so : (text : List ℕ) (r : Recipe) → length text ≤ 2 ^ 20 → IsFine r → r.settings.data_size ≤ 2 ^ 16 → build text ≡ made (plan_of r) → IsRead text r
read_so text r short fine few is =
    let m = bounded_made r fine.plain fine.modest fine.bounded in
    let accepted = plain_accepted r m.0 fine.plain fine.modest m.1 in
    record {
      short = short;
      fine = fine;
      bytes = m.0;
      built = is ∙ m.1;
      made = m.1;
      small = file_small r m.0 fine few m.1;
      t = accepted.0;
      tables = accepted.1;
      accepted = accepted.2;
    }

library_data : (count i : ℕ) (words : List ℕ) → (library_of count i words).settings.data_size ≤ 2 ^ 16
unfolding library_of
library_data count i words = omega arith

program_data : (count : ℕ) (words : List ℕ) → (program_of count words).settings.data_size ≤ 2 ^ 16
unfolding program_of
program_data count words = omega arith

pub set_read : SetIsRead
set_read = record {
  libraries = λ count i words. read_so (library_recipe count i words) (library_of count i words) (library_short count i words) (library_fine count i words) (library_data count i words) (libraries_built count i words);
  programs = λ count words. read_so (program_recipe count words) (program_of count words) (program_short count words) (program_fine count words) (program_data count words) (programs_built count words);
}
