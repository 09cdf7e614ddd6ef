-- What a crash might have left since a moment.
use Rattle.std.specs.Prelude.{◌⊎◌, ℕ, ◌≤◌, List, [], ◌∷◌, length}
use Rattle.pl_folder.specs.Disk.{View, State, IsCrashImage, Disk, clock}

-- of states, the newest first: one of a moment from t on has this image
abbrev pub HadImage : List State → ℕ → View → Type 0
HadImage [] t v = ⊥
HadImage (s ∷ past) t v = (t ≤ length past) × IsCrashImage s v ⊎ HadImage past t v

-- one of the images of the moments from t to now
abbrev pub Since : Disk → ℕ → View → Type 0
Since d t v = HadImage (d.now ∷ d.past) t v

-- each image of the state has P
abbrev pub Within : State → (View → Type 0) → Type 0
Within s P = (v : View) → IsCrashImage s v → P v

-- each image of a moment after the old disk's has P, and so have those of now
pub record Keeps (old new : Disk) (P : View → Type 0) : Type 0 where
  pub later : clock old ≤ clock new
  pub each : (t : ℕ) (v : View) → Since new t v → Since old t v ⊎ P v
  pub now : Within new.now P
