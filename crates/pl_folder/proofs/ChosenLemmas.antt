-- The image that a number chooses is one that a crash may leave.
use Rattle.std.proofs.Common.{◌≡◌, ◌||◌, ℕ, Bool, true, cond, List, [], Option, Some, None, refl, ap}
use Rattle.pl_folder.specs.Disk.{Content, State, Shows, IsCrashImage, bytes_of, kept, read}
use Rattle.pl_folder.specs.Chosen.{ChosenIsImage, chosen, has_bit, image_of, kept_changes, loose_before, shown}

-- a firm file is shown as it is
firm_shown : (whole : Bool) (file : Content) → file.is_firm ≡ true → cond (file.is_firm || whole) file.bytes [] ≡ file.bytes
firm_shown whole file firm = ap (λ b. cond (b || whole) file.bytes []) firm

shows_chosen : (files : ℕ → Content) (whole : ℕ → Bool) (at : Option ℕ) → Shows files at (bytes_of (λ file. shown (whole file) (files file)) at)
shows_chosen files whole None = refl
shows_chosen files whole (Some file) = λ firm. ap (λ bytes. Some bytes) (firm_shown (whole file) (files file) firm)

pub chosen_image : ChosenIsImage
chosen_image choice s =
    let keep = kept_changes (has_bit choice) s.changes in
    record { keep = keep; shows = λ n. shows_chosen s.files (λ file. has_bit choice (loose_before s.files file)) (kept keep s.changes s.base n) }
