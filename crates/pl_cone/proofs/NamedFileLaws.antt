-- The files of a folder by their names.
use Rattle.std.proofs.Common.{◌≡◌, ℕ, false, List, ◌∷◌, Option, Some, refl, ap}
use Rattle.std.specs.Prelude.{find}
use Rattle.std.specs.Option.{option_map}
use Rattle.std.specs.Str.{bytes_eq}
use Rattle.pl_cone.specs.Taken.{files_in}
use Rattle.pl_cone.specs.declared.taken.Taken.{Taken}

-- the first file of a name
abbrev pub found : List Taken → List ℕ → Option Taken
found files n = find (λ t. bytes_eq t.name n) files

pub found_cons : (n : List ℕ) (t : Taken) (ts : List Taken) → bytes_eq t.name n ≡ false → found (t ∷ ts) n ≡ found ts n
found_cons n t ts miss = rw miss refl

-- a folder has its bytes
pub file_at : (n : List ℕ) (ts : List Taken) (t : Taken) → found ts n ≡ Some t → files_in ts n ≡ Some t.bytes
unfolding files_in
file_at n ts t is = ap (option_map (λ (u : Taken). u.bytes)) is
