-- One image of a state, by a number: bit i modulo 64 says whether the i-th change of names is kept, and whether the i-th file that is not firm is whole or empty.
use Rattle.std.specs.Prelude.{◌≡◌, ℕ, zero, suc, ◌+◌, ◌/◌, ◌%◌, ◌^◌, ◌==◌, ◌||◌, Bool, true, false, cond, List, [], ◌∷◌, length}
use Rattle.pl_folder.specs.Disk.{Content, NameChange, State, Disk, IsCrashImage, kept, read}

-- bit i modulo 64 of a number
abbrev pub has_bit : ℕ → ℕ → Bool
has_bit choice i = choice / 2 ^ (i % 64) % 2 == 1

-- which of the changes are kept, by a test of their numbers; the last of the list is number 0
abbrev pub kept_changes : (ℕ → Bool) → List NameChange → List Bool
kept_changes keeps [] = []
kept_changes keeps (c ∷ changes) = keeps (length changes) ∷ kept_changes keeps changes

-- how many of the files before this one are not firm
abbrev pub loose_before : (ℕ → Content) → ℕ → ℕ
loose_before files zero = 0
loose_before files (suc file) = cond (files file).is_firm (loose_before files file) (loose_before files file + 1)

-- a file after the crash: with its bytes, or empty
abbrev pub shown : Bool → Content → Content
shown whole file = record { bytes = cond (file.is_firm || whole) file.bytes []; is_firm = true }

-- the disk after the crash, settled
abbrev pub chosen : List Bool → (ℕ → Bool) → State → State
chosen keep whole s = record { base = kept keep s.changes s.base; changes = []; files = λ file. shown (whole file) (s.files file); count = s.count }

-- the image that a test chooses
abbrev pub image_by : (ℕ → Bool) → State → State
image_by keeps s = chosen (kept_changes keeps s.changes) (λ file. keeps (loose_before s.files file)) s

-- the image that a number chooses
abbrev pub image_of : ℕ → State → State
image_of choice s = image_by (has_bit choice) s

-- it reads as one of the images that a crash may leave
abbrev pub ChosenIsImage : Type 0
ChosenIsImage = (choice : ℕ) (s : State) → IsCrashImage s (read (image_of choice s))

-- settled, with no call yet
pub record IsStart (d : Disk) : Type 0 where
  pub past : d.past ≡ []
  pub changes : d.now.changes ≡ []
  pub firm : (file : ℕ) → (d.now.files file).is_firm ≡ true
