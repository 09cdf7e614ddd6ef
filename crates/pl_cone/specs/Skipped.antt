-- Why a run does not prelink a name of a folder.
use Rattle.std.specs.Prelude.{ℕ, List, Option, Result}
use Rattle.pl_cone.specs.Candidates.{prelinkable_by}
use Rattle.pl_cone.specs.Skips.{of_walk}
use Rattle.pl_cone.specs.declared.skip.Skip.{Skip}
use Rattle.pl_cone.specs.declared.skip.Skip.TheVariants.{NotThere, BadMark, Refused, NoMemory}
use Rattle.pl_conflict.specs.Format.{Causes, format}
use Rattle.pl_elf.specs.declared.range.Range.{Range}
use Rattle.pl_object.specs.declared.refusal.Refusal.{Refusal}
use Rattle.pl_object.specs.declared.refusal.Refusal.TheVariants as refusals
use Rattle.law_sound.specs.Rule.{Files, objects, original_at}
use Rattle.pl_cone.specs.Faults.{fault_in}

abbrev pub of_refusal : List ℕ → Refusal → Skip
of_refusal n (refusals.Clause number argument) = Refused n number argument
of_refusal n refusals.NoMemory = NoMemory

-- why a name of a walk has no object. A file that is too large ends a run before it skips a name: the cause has the clause that bounds a file's size
abbrev pub skip_causes : Causes Skip
skip_causes = record { absent = NotThere; large = λ n. Refused n 30 0; bad_mark = BadMark; refused = of_refusal; walk = of_walk }

-- the number of the first form fault of a name's original, if it has one
abbrev pub fault_at : Range → Files → List ℕ → Option ℕ
fault_at region files n = fault_in region (original_at (format skip_causes) (files n))

-- that a name may be prelinked, or the first cause why not; that its form is too large is not looked at
unfoldable pub skip_of : Files → Range → List ℕ → Result (Unit {0}) Skip
skip_of files region n = prelinkable_by (objects (format skip_causes) files) (fault_at region files) n
