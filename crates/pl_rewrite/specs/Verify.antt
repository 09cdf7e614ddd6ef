-- Whether a file is the prelinked file of the originals that are there.
use Rattle.std.specs.Prelude.{◌≡◌, ℕ, Bool, true, false, List, map, slice_get, Option, Some, None, Vec, is_some, if◌then◌else◌}
use Rattle.std.specs.declared.alloc.Global.{Global}
use Rattle.std.specs.List.{list_all}
use Rattle.std.specs.Str.{bytes_eq}
use Rattle.std.specs.Option.{option_and_then, option_map}
use Rattle.pl_conflict.specs.Format.{format}
use Rattle.pl_form.specs.declared.file.Marked.{Marked}
use Rattle.pl_cone.specs.Currency.{old_stamp}
use Rattle.pl_cone.specs.Skipped.{skip_causes}
use Rattle.pl_cone.specs.Taken.{files_in, marked_by}
use Rattle.pl_cone.specs.declared.taken.Taken.{Taken}
use Rattle.law_sound.specs.Rule as sound
use Rattle.law_sound.specs.Rule.{Files, original_at}
use Rattle.pl_form.specs.declared.version.Version.{Version}
use Rattle.pl_rewrite.specs.Rows.{IsFileMeant, IsNumbered, IsWalkRow}
use Rattle.pl_rewrite.specs.RowWords.{IsNeeded, is_needed}
use Rattle.pl_rewrite.specs.declared.numbers.Numbered.{Numbered}
use Rattle.pl_rewrite.specs.declared.row_words.Needed.{Needed}

-- the file of a name is marked, and is the prelinked file of its walk's originals, at the versions, slots and stamps that their files bear
abbrev pub is_verified : Files → List ℕ → Bool
is_verified files n = sound.is_verified (format skip_causes) files n

-- the file that is meant
abbrev pub prelinked_in : Files → List ℕ → Option (List ℕ)
prelinked_in files n = sound.prelinked_in (format skip_causes) files n

-- its original then
abbrev pub verified_original : Files → List ℕ → Option (List ℕ)
verified_original files n = if is_verified files n then Some (original_at (format skip_causes) (files n)) else None

-- ---- files that were taken

abbrev pub slot_by : Option Marked → ℕ
slot_by None = 0
slot_by (Some m) = m.slot

abbrev pub slot_borne : Taken → ℕ
slot_borne t = slot_by (marked_by t.entry)

abbrev pub is_marked_at : List Taken → ℕ → Bool
is_marked_at ts row = is_some (option_and_then (λ t. marked_by t.entry) (slice_get ts row))

abbrev pub are_marked : List Taken → List ℕ → Bool
are_marked ts rows = list_all (is_marked_at ts) rows

-- the numbers are those that the files bear
pub record AreBorne (n : Numbered) : Type 0 where
  pub places : n.places.now ≡ map slot_borne n.files.now
  pub stamps : n.stamps.now ≡ map old_stamp n.files.now

-- ---- the file that is meant of a row

abbrev pub IsMeantFile : Numbered → ℕ → Version → Option (Vec ℕ Global) → Type 0
IsMeantFile n row version file = IsFileMeant n row version (option_map (λ v. v.items) file)

-- where the file of the row bears the version
abbrev pub IsMeantIn : List Taken → ℕ → Version → Option (List ℕ) → Type 0
IsMeantIn ts row version file = (t : Taken) (m : Marked) → slice_get ts row ≡ Some t → marked_by t.entry ≡ Some m → m.version ≡ version → file ≡ prelinked_in (files_in ts) t.name

abbrev pub is_same : Option (List ℕ) → List ℕ → Bool
is_same None bytes = false
is_same (Some file) bytes = bytes_eq file bytes

-- ---- what the relocations of rows find

-- each row that is needed has a walk
abbrev pub HaveNeededWalks : Numbered → Needed → Type 0
HaveNeededWalks n needed = (row : ℕ) → is_needed needed row ≡ true → IsWalkRow n row

-- those of numbered files, with a flag of each for each row
pub record AreNeededRows (n : Numbered) (needed : Needed) : Type 0 where
  pub numbered : IsNumbered n
  pub flags : IsNeeded n needed
  pub walks : HaveNeededWalks n needed
