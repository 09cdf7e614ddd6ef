-- Why a folder stays sound: the laws of law_sound at the format of prelinked files and at what a run makes.
use Rattle.std.specs.Prelude.{◌≡◌, ◌⊎◌, ℕ, false, List, Some, None, Ok, is_some}
use Rattle.pl_conflict.specs.Format.{Rule}
use Rattle.pl_elf.specs.declared.range.Range.{Range}
use Rattle.pl_form.specs.Files.{original_in}
use Rattle.pl_cone.specs.Plans.{planned}
use Rattle.pl_cone.specs.Skipped.{skip_causes}
use Rattle.pl_cone.specs.declared.planning.Asked.{Asked}
use Rattle.pl_cone.specs.Plans.{RunPlan}
use Rattle.pl_scope.specs.Members.{has}
use Rattle.law_sound.specs.Rule.{Files}
use Rattle.pl_rewrite.specs.Changes.{from_scratch, next}

-- in a folder that keeps the rule a run's files are those from scratch, of current names too
abbrev pub NextIsFromScratch : Type 0
NextIsFromScratch = (files : Files) (region : Range) (p : RunPlan) → Rule skip_causes files → (n : List ℕ) → next files region p n ≡ from_scratch files region p n

-- in every folder no file comes and none goes
abbrev pub NamesStay : Type 0
NamesStay = (files : Files) (region : Range) (p : RunPlan) (n : List ℕ) → is_some (next files region p n) ≡ is_some (files n)

-- in every folder each name keeps its original
abbrev pub OriginalsStay : Type 0
OriginalsStay = (files : Files) (region : Range) (p : RunPlan) (n file : List ℕ) → next files region p n ≡ Some file → (before : List ℕ) × (files n ≡ Some before) × (original_in file ≡ original_in before)

-- these are all names with files
abbrev pub AreNames : Files → List (List ℕ) → Type 0
AreNames files ns = (n : List ℕ) → has ns n ≡ false → files n ≡ None

-- each name has its old file or the run's
abbrev pub IsMixed : Files → Range → RunPlan → Files → Type 0
IsMixed files region p mixed = (n : List ℕ) → (mixed n ≡ files n) ⊎ (mixed n ≡ next files region p n)

-- a folder that keeps the rule keeps it with any of the rows of a run made
abbrev pub MixturesKeepTheRule : Type 0
MixturesKeepTheRule = (files : Files) (ns : List (List ℕ)) (a : Asked) (p : RunPlan) (mixed : Files) → AreNames files ns → planned files ns a ≡ Ok p → Rule skip_causes files → IsMixed files a.region p mixed → Rule skip_causes mixed
