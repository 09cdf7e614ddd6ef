-- The form faults of originals, by their numbers.
use Rattle.std.specs.Prelude.{ℕ, List, Option, Some, None, Result, Ok, Err, if◌then◌else◌}
use Rattle.pl_elf.specs.declared.range.Range.{Range}
use Rattle.pl_form.specs.Faults.{form_fault}
use Rattle.pl_form.specs.Marks.{has_mark}
use Rattle.pl_form.specs.declared.fault.FormFault.{FormFault}
use Rattle.pl_form.specs.declared.fault.FormFault.TheVariants.{NoSpareTags, BssTooLarge, StrayHeader, InRegion, LastLoadNotLast, TooLarge, NoMemory}
use Rattle.pl_object.specs.Reads.{reads}
use Rattle.pl_object.specs.declared.object.Object.{Object}

-- the number of a form fault
abbrev pub number_of : FormFault → ℕ
number_of NoSpareTags = 1
number_of BssTooLarge = 2
number_of StrayHeader = 3
number_of InRegion = 4
number_of LastLoadNotLast = 5
number_of TooLarge = 6
number_of NoMemory = 0

abbrev pub fault_number : {A : Type 0} → Result A FormFault → Option ℕ
fault_number (Ok u) = None
fault_number (Err fault) = Some (number_of fault)

-- an object's first form fault under a region of slots
abbrev pub fault_of : Range → Object → Option ℕ
fault_of region o = fault_number (form_fault o region)

abbrev pub fault_by : {E : Type 0} → Range → Result Object E → Option ℕ
fault_by region (Ok o) = fault_of region o
fault_by region (Err e) = None

-- the same of a file that is its own original; one that bears a mark or is refused has none
unfoldable pub fault_in : Range → List ℕ → Option ℕ
fault_in region o = if has_mark o then None else fault_by region (reads o)
