-- Where the tables of a plan stand in bytes.
use Rattle.std.specs.Prelude.{◌≡◌, ℕ, ◌+◌, ◌%◌, ◌≤◌, ◌<◌, List, [], ◌∷◌, ◌++◌, length}
use Rattle.pl_base.specs.Bytes.{part}
use Rattle.pl_base.specs.Sums.{plus}
use Rattle.pl_build.specs.declared.constants.TheConstants.{TABLES_OFFSET, TABLE_ALIGN, MAX_TABLES}
use Rattle.pl_build.specs.declared.layout.Tables.{Tables}
use Rattle.pl_build.specs.declared.layout_plan.LayoutPlan.{LayoutPlan}
use Rattle.pl_build.specs.declared.roles.PlacedSection.{PlacedSection}
use Rattle.pl_build.specs.Layout.{contents, end_of}
use Rattle.pl_build.specs.LayoutPlan.{base_of}

-- the bytes at a table's place are its contents, behind an offset, at a multiple of the tables' alignment, and its address is as far behind the base as it is in the file. Other tables have the places before it.
pub record Stands (p : LayoutPlan) (bytes : List ℕ) (from : ℕ) (before : List PlacedSection) (place : PlacedSection) : Type 0 where
  pub after : from ≤ place.offset
  pub some : 0 < place.size
  pub aligned : place.offset % TABLE_ALIGN ≡ 0
  pub address : place.addr ≡ plus (base_of p.settings) place.offset
  pub within : place.offset + place.size ≤ length bytes
  pub holds : part place.offset place.size bytes ≡ contents p before place.role

-- one after the other
abbrev pub AreStanding : LayoutPlan → List ℕ → ℕ → List PlacedSection → List PlacedSection → Type 0
AreStanding p bytes from before [] = Unit {0}
AreStanding p bytes from before (place ∷ places) = Stands p bytes from before place × AreStanding p bytes (place.offset + place.size) (before ++ place ∷ []) places

-- behind so many bytes as precede the tables
pub record AreLaid (p : LayoutPlan) (front : List ℕ) (t : Tables) : Type 0 where
  pub standing : AreStanding p (front ++ t.bytes) TABLES_OFFSET [] t.places
  pub fits : end_of t ≤ MAX_TABLES
