-- What a load takes of a folder's files: of a position-independent program under the name that is loaded the one that it becomes.
use Rattle.std.specs.Prelude.{List, ℕ, Option, if◌then◌else◌}
use Rattle.std.specs.Option.{option_map}
use Rattle.std.specs.Str.{bytes_eq}
use Rattle.pl_place.specs.Policy.{Choice}
use Rattle.law_sound.specs.Rule as sound
use Rattle.pl_pie.specs.Placed.{placed}
use Rattle.pl_pie.specs.declared.placing.Placing.{Placing}
use Rattle.pl_pie.specs.declared.placing.Placing.TheVariants.{NotPie, NoPlace, Fixed}

-- what is loaded of a file under the name that is loaded: the program that a position-independent one becomes
abbrev pub of_placing : List ℕ → Placing → List ℕ
of_placing bytes NotPie = bytes
of_placing bytes NoPlace = bytes
of_placing bytes (Fixed at file) = file

unfoldable pub first_bytes : Choice → List ℕ → List ℕ
first_bytes choose bytes = of_placing bytes (placed choose bytes)

-- a folder's files with that one in its place
unfoldable pub loading_folder : Choice → sound.Files → List ℕ → List ℕ → Option (List ℕ)
loading_folder choose folder name n = if bytes_eq n name then option_map (first_bytes choose) (folder n) else folder n
