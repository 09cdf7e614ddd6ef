-- The tables of a plain recipe's file by what they hold, and where its tags and sections say that they are.
use Rattle.std.specs.Prelude.{◌≡◌, ℕ, Bool, true, List, [], ◌∷◌, ◌++◌, Ok, if◌then◌else◌}
use Rattle.std.specs.List.{list_any}
use Rattle.pl_base.specs.Windows.{Window}
use Rattle.pl_elf.specs.declared.section.Section.{Section}
use Rattle.pl_dyn.specs.declared.constants.TheConstants.{DT_HASH, DT_GNU_HASH}
use Rattle.pl_dyn.specs.declared.tags.Tag.{Tag}
use Rattle.pl_object.specs.FilePart.{nothing}
use Rattle.pl_object.specs.TableClauses.{check_tables}
use Rattle.pl_object.specs.Tables.{symbols_memory, strings_memory, rela_memory, jmprel_memory, section_memory, relr_memory}
use Rattle.pl_build.specs.declared.layout.Tables.{Tables}
use Rattle.pl_build.specs.declared.recipe.Recipe.{Recipe}
use Rattle.pl_build.specs.declared.roles.PlacedSection.{PlacedSection}
use Rattle.pl_build.specs.declared.roles.Role.{Role}
use Rattle.pl_build.specs.declared.roles.Role.TheVariants.{Hash, GnuHash, Dynsym, Dynstr, RelaDyn, RelaPlt, Dynamic}
use Rattle.pl_build.specs.Choices.{chosen}
use Rattle.pl_build.specs.File.{made}
use Rattle.pl_build.specs.Layout.{tables}
use Rattle.pl_build.specs.LayoutPlan.{plan_of, is_jump_slot, is_other}
use Rattle.law_demo.specs.Plain.{IsPlain}
use Rattle.law_demo.specs.Planned.{planned_header, planned_segments, planned_sections}
use Rattle.law_demo.specs.Tags.{planned_tags}

-- where a table is, in memory and in the file
pub record Extent : Type 0 where
  pub addr : ℕ
  pub offset : ℕ
  pub size : ℕ

abbrev pub place_in : Role → Extent → PlacedSection
place_in role e = record { role = role; addr = e.addr; offset = e.offset; size = e.size }

pub record Extents : Type 0 where
  pub hash : Extent
  pub gnu_hash : Extent
  pub symbols : Extent
  pub strings : Extent
  pub others : Extent
  pub slots : Extent
  pub dynamic : Extent

-- the tables before the dynamic one, each with whether it is there
abbrev pub rows_before : Recipe → Extents → List (Bool × PlacedSection)
rows_before r e =
    (r.settings.hashes.sysv, place_in Hash e.hash) ∷ (r.settings.hashes.gnu, place_in GnuHash e.gnu_hash)
    ∷ (true, place_in Dynsym e.symbols) ∷ (true, place_in Dynstr e.strings)
    ∷ (list_any is_other r.relocations, place_in RelaDyn e.others) ∷ (list_any is_jump_slot r.relocations, place_in RelaPlt e.slots) ∷ []

abbrev pub before_dynamic : Recipe → Extents → List PlacedSection
before_dynamic r e = chosen (rows_before r e)

-- a table in memory, or nothing
abbrev pub memory_at : Extent → Window
memory_at e = record { at = e.addr; size = e.size }

abbrev pub memory_if : Bool → Extent → Window
memory_if there e = if there then memory_at e else nothing

-- tags and sections say that the tables are there
pub record TellsPlaces (r : Recipe) (e : Extents) (sections : List Section) (tags : List Tag) : Type 0 where
  pub symbols : symbols_memory tags sections ≡ memory_at e.symbols
  pub strings : strings_memory tags ≡ memory_at e.strings
  pub others : rela_memory tags ≡ memory_if (list_any is_other r.relocations) e.others
  pub slots : jmprel_memory tags ≡ memory_if (list_any is_jump_slot r.relocations) e.slots
  pub hash : section_memory DT_HASH tags sections ≡ memory_if r.settings.hashes.sysv e.hash
  pub gnu_hash : section_memory DT_GNU_HASH tags sections ≡ memory_if r.settings.hashes.gnu e.gnu_hash
  pub packed : relr_memory tags ≡ nothing

-- of a plain recipe's file, whose tables are at these places, clauses 12 to 14 take the tables
pub record TablesTaken (r : Recipe) (bytes : List ℕ) (t : Tables) : Type 0 where
  pub extents : Extents
  pub places : t.places ≡ before_dynamic r extents ++ place_in Dynamic extents.dynamic ∷ []
  pub tells : TellsPlaces r extents (planned_sections (plan_of r) t) (planned_tags (plan_of r) (before_dynamic r extents))
  pub taken : check_tables bytes (planned_header (plan_of r) t) (planned_segments (plan_of r) t) (planned_sections (plan_of r) t) (planned_tags (plan_of r) (before_dynamic r extents)) ≡ Ok tt

abbrev pub TablesAreTaken : Type 0
TablesAreTaken = (r : Recipe) (bytes : List ℕ) → IsPlain r → made (plan_of r) ≡ Ok bytes → (t : Tables) × (tables (plan_of r) ≡ Ok t) × TablesTaken r bytes t
