-- Why no stop of a command leaves an unsound folder.
use Rattle.std.specs.Prelude.{◌≡◌, ◌⊎◌, ℕ, true, List, Some, None, Result, Ok}
use Rattle.std.specs.FinMap.{get}
use Rattle.pl_base.specs.Files.{Files}
use Rattle.pl_folder.specs.Calls.{Calls}
use Rattle.pl_conflict.specs.Format.{format}
use Rattle.pl_folder.specs.Disk.{Name, State, View, clock}
use Rattle.pl_folder.specs.Seen.{Ending, IsFolder, Seen}
use Rattle.pl_folder.specs.Since.{Since, Within}
use Rattle.pl_form.specs.Files.{marked_in}
use Rattle.pl_journal.specs.Meaning.{IsSettled, StandsBetween, StandsFor, applied}
use Rattle.pl_journal.specs.Names.{journal}
use Rattle.pl_journal.specs.Rows.{recovered}
use Rattle.pl_journal.specs.declared.change.Change.{Change}
use Rattle.pl_rewrite.specs.Skipped.{skip_causes}
use Rattle.pl_place.specs.Policy.{Choice}
use Rattle.pl_scope.specs.Members.{has}
use Rattle.law_sound.specs.History.{IsAllowed}
use Rattle.law_sound.specs.Rule.{is_verified, matches, members}
use Rattle.pl_change.specs.Changes.{removal_meant}
use Rattle.pl_batch.specs.Changes.{run_meant}
use Rattle.pl_change.specs.Commands.{Commands, IsBefore, Meaning, Outcome}
use Rattle.pl_change.specs.Replace.{fixed_as, loosened_of, replacing_meant}
use Rattle.pl_change.specs.Restored.{restored}
use Rattle.pl_change.specs.declared.cause.Cause.{Cause}
use Rattle.pl_batch.specs.declared.run.Run.{Run}
use Rattle.law_folder.specs.Originals.{HasOriginal, HasOriginals, SameOriginals}
use Rattle.law_folder.specs.Safe.{Ends, IsSafe, IsSafeImage, Leaves, after}
use Rattle.law_folder.specs.Sound.{IsSound, KeepsTheRule, named}

-- ---- sound folders

-- a sound folder keeps the rule as it stands,
abbrev pub SoundKeepTheRule : Type 0
SoundKeepTheRule = (v : View) → IsSound v → KeepsTheRule v

-- and when it is recovered;
abbrev pub RecoveredKeepTheRule : Type 0
RecoveredKeepTheRule = (v : View) → IsSound v → KeepsTheRule (recovered v)

-- without a journal the rule is enough,
abbrev pub RuleIsEnough : Type 0
RuleIsEnough = (v : View) → v journal ≡ None → KeepsTheRule v → IsSound v

-- and a folder without files is sound
abbrev pub EmptyIsSound : Type 0
EmptyIsSound = IsSound (λ n. None)

-- ---- what others write between commands

-- within these bounds a folder without a journal stays sound,
abbrev pub OthersStaySound : Type 0
OthersStaySound = (before after : View) → before journal ≡ None → after journal ≡ None → IsSound before → IsAllowed (format skip_causes) (named before) (named after) → IsSound after

-- and it is sound where each name that matches is verified, with all members of its walk
abbrev pub VerifiedAreSound : Type 0
VerifiedAreSound = (v : View) → v journal ≡ None → ((n m : Name) → matches (format skip_causes) (named v) n ≡ true → has (members (format skip_causes) (named v) n) m ≡ true → is_verified (format skip_causes) (named v) m ≡ true) → IsSound v

-- ---- images

-- what a crash of a recovery leaves of a sound folder is sound,
abbrev pub RecoveriesStaySound : Type 0
RecoveriesStaySound = (old v : View) → IsSound old → StandsFor old v → IsSound v

-- so is what a crash of a safe command's run leaves,
abbrev pub RunsStaySound : Type 0 → Type 0
RunsStaySound C =
    (meant : Meaning C) (old v : View) (before : Files) (rows : List Change) → IsSafe meant → IsSound old → IsBefore old before → meant before ≡ Ok rows → StandsBetween (recovered old) rows v → IsSound v

-- and each image of a settled folder that keeps the rule
abbrev pub SettledAreSound : Type 0
SettledAreSound = (files : View) (s : State) → IsSettled files s → KeepsTheRule files → Within s IsSound

-- ---- commands

-- the commands are safe
abbrev pub RunsAreSafe : Type 0
RunsAreSafe = (asked : Run) → IsSafe (run_meant asked)

abbrev pub RemovalsAreSafe : Type 0
RemovalsAreSafe = (name : List ℕ) → IsSafe (removal_meant name)

-- A safe command over a folder that reads as a sound one: each image that it leaves is sound, and stands for the files before or after,
abbrev pub CommandsLeave : Type 0 → Type 0
CommandsLeave C =
    (meant : Meaning C) (o : Outcome C) (e : Ending) (a b : Seen) → IsSafe meant → IsFolder a → a.records ≡ true → IsSound (get a.files) → Calls e (Commands meant o) a b → Leaves o (IsSafeImage meant (restored a.files)) a.disk b.disk

-- where each image at the start was sound, each one since then is,
abbrev pub EveryImageIsSound : Type 0 → Type 0
EveryImageIsSound C =
    (meant : Meaning C) (o : Outcome C) (e : Ending) (a b : Seen) → IsSafe meant → IsFolder a → a.records ≡ true → Within a.disk.now IsSound → Calls e (Commands meant o) a b → (v : View) → Since b.disk (clock a.disk) v → IsSound v

-- where it is done or refused the files after it are the only image,
abbrev pub CommandsEnd : Type 0 → Type 0
CommandsEnd C = (meant : Meaning C) (o : Outcome C) (e : Ending) (a b : Seen) → IsFolder a → a.records ≡ true → Calls e (Commands meant o) a b → Ends o (after meant (restored a.files)) b.disk.now

-- and of a folder that tells its files alone, what is read afterwards is such an image, also where it failed
abbrev pub CommandsRead : Type 0 → Type 0
CommandsRead C =
    (meant : Meaning C) (o : Outcome C) (e : Ending) (a b : Seen) → IsSafe meant → a.tells ≡ true → IsSound (get a.files) → Calls e (Commands meant o) a b → IsSafeImage meant (restored a.files) (get b.files)

-- what is made of an original is no prelinked file
abbrev pub MakesBare : (List ℕ → Result (List ℕ) Cause) → Type 0
MakesBare make = (original bytes : List ℕ) → make original ≡ Ok bytes → marked_in bytes ≡ None

-- a command is safe that replaces a file by such a one,
abbrev pub ReplacementsAreSafe : Type 0
ReplacementsAreSafe = (make : List ℕ → Result (List ℕ) Cause) (name : List ℕ) → MakesBare make → IsSafe (replacing_meant make name)

-- and a fixed program is one, and a loosened one
abbrev pub FixingMakesBare : Type 0
FixingMakesBare = (choose : Choice) (name : List ℕ) → MakesBare (fixed_as choose name)

abbrev pub LooseningMakesBare : Type 0
LooseningMakesBare = (name : List ℕ) → MakesBare (loosened_of name)

-- ---- originals

-- a command that replaces a file changes the original of its name alone
abbrev pub ReplacementsKeepOriginals : Type 0
ReplacementsKeepOriginals = (make : List ℕ → Result (List ℕ) Cause) (name : List ℕ) → MakesBare make → (before : Files) (rows : List Change) → replacing_meant make name before ≡ Ok rows → (file : List ℕ) × HasOriginal name (Some file) (get before) (applied rows (get before))

-- what commands do to originals
abbrev pub RunsKeepOriginals : Type 0
RunsKeepOriginals = (asked : Run) (before : Files) (rows : List Change) → run_meant asked before ≡ Ok rows → HasOriginals asked rows (get before)

abbrev pub RemovalsKeepOriginals : Type 0
RemovalsKeepOriginals = (name : List ℕ) (before : Files) (rows : List Change) → removal_meant name before ≡ Ok rows → HasOriginal name None (get before) (applied rows (get before))

-- a recovered image has all originals from before, or all from after
abbrev pub ImagesKeepOriginals : Type 0 → Type 0
ImagesKeepOriginals C =
    (meant : Meaning C) (before : Files) (image : View) → IsSafeImage meant before image → SameOriginals (recovered image) (get before) ⊎ SameOriginals (recovered image) (after meant before)
