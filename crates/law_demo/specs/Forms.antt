-- Files of plain recipes that have a form.
use Rattle.std.specs.Prelude.{◌≡◌, ◌⊎◌, ◌<◌, ◌≤◌, ◌+◌, ℕ, false, List, None, Ok}
use Rattle.pl_base.specs.Bytes.{IsBytes}
use Rattle.pl_elf.specs.declared.range.Range.{Range}
use Rattle.pl_build.specs.declared.layout.Tables.{Tables}
use Rattle.pl_build.specs.declared.recipe.Recipe.{Recipe}
use Rattle.pl_build.specs.declared.recipe.Settings.{Settings}
use Rattle.pl_build.specs.declared.roles.PlacedSection.{PlacedSection}
use Rattle.pl_build.specs.File.{made}
use Rattle.pl_build.specs.Layout.{tables}
use Rattle.pl_build.specs.LayoutPlan.{data_address, plan_of}
use Rattle.pl_form.specs.Faults.{form_fault}
use Rattle.pl_form.specs.Files.{marked_in}
use Rattle.pl_form.specs.Marks.{has_mark}
use Rattle.pl_form.specs.declared.constants.TheConstants.{MAX_ZEROS, REGION_GAP}
use Rattle.law_demo.specs.Accepted.{planned_object}
use Rattle.law_demo.specs.Modest.{IsModest}
use Rattle.law_demo.specs.Plain.{IsPlain}

-- ---- form faults

-- spare entries of the dynamic table, data, and few zeros behind it
pub record HasRoom (s : Settings) : Type 0 where
  pub spare : 4 ≤ s.spare
  pub some_data : 0 < s.data_size
  pub zeros : s.bss ≤ MAX_ZEROS

-- a region lies above the data, the zeros and a gap, or has no address
abbrev pub IsAbove : Settings → Range → Type 0
IsAbove s region = (data_address s + s.data_size + s.bss + REGION_GAP ≤ region.start) ⊎ (region.end ≤ region.start)

-- the object of a plain recipe with room has no form fault under such a region
abbrev pub RoomyObjectsHaveNoFault : Type 0
RoomyObjectsHaveNoFault = (r : Recipe) (t : Tables) (before : List PlacedSection) (region : Range) → IsPlain r → tables (plan_of r) ≡ Ok t → HasRoom r.settings → IsAbove r.settings region → form_fault (planned_object r t before) region ≡ Ok tt

-- ---- marks

pub record IsBare (bytes : List ℕ) : Type 0 where
  pub unmarked : has_mark bytes ≡ false
  pub none : marked_in bytes ≡ None

-- the file of a plain and modest recipe has no mark
abbrev pub PlainFilesAreBare : Type 0
PlainFilesAreBare = (r : Recipe) (bytes : List ℕ) → IsPlain r → IsModest r → made (plan_of r) ≡ Ok bytes → IsBare bytes

-- and is bytes
abbrev pub PlainFilesAreBytes : Type 0
PlainFilesAreBytes = (r : Recipe) (bytes : List ℕ) → IsPlain r → IsModest r → made (plan_of r) ≡ Ok bytes → IsBytes bytes
