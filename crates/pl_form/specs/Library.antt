-- The form of a library.
use Rattle.std.specs.Prelude.{◌≡◌, ◌≤◌, ◌<◌, ◌+◌, ◌*◌, ◌%◌, ◌^◌, true, ℕ, List, Option, Vec, length}
use Rattle.std.specs.declared.alloc.Global.{Global}
use Rattle.pl_base.specs.Windows.{IsIn}
use Rattle.pl_elf.specs.Kinds.{is_library}
use Rattle.pl_lists.specs.Lists.{is_list, list_strings}
use Rattle.pl_lists.specs.declared.list_row.ListRow.{ListRow}
use Rattle.pl_object.specs.declared.object.Object.{Object}
use Rattle.pl_form.specs.Forms as forms
use Rattle.pl_form.specs.Forms.{original_of}
use Rattle.pl_form.specs.Found.{ps_of}
use Rattle.pl_form.specs.declared.parts.Listed.{Listed}
use Rattle.pl_form.specs.Extending.{HasNames}
use Rattle.pl_form.specs.Faults.{IsFirm}
use Rattle.pl_form.specs.Words.{listed, all_filled, checksum_of, digest_in}
use Rattle.pl_form.specs.Originals.{AreFoundIn}
use Rattle.pl_form.specs.declared.layout.Layout.{Layout}
use Rattle.pl_form.specs.declared.layout.Source.{Source}
use Rattle.pl_form.specs.declared.version.Version.{Version}

-- by the bytes at all places
unfoldable pub library_with : List ℕ → ℕ → ℕ → List ListRow → List ℕ → Version → List ℕ
library_with o slot stamp list flat version =
    forms.form_of_library (original_of o) slot stamp (checksum_of o) (listed list) flat (digest_in version o)

-- the same by its checksum and by the strings and the table of its list
abbrev pub moved : List ℕ → ℕ → ℕ → ℕ → Listed → List ℕ → Version → List ℕ
moved o slot stamp checksum l flat version = forms.form_of_library (original_of o) slot stamp checksum l flat (digest_in version o)

-- by the words at the places
abbrev pub library_form : List ℕ → ℕ → ℕ → List ListRow → List (Option ℕ) → Version → List ℕ
library_form o slot stamp list words version = library_with o slot stamp list (all_filled o (ps_of o) words) version

-- ---- what a plan asks of a library

pub record IsMovable (bytes : List ℕ) (x : Object) (l : Layout) : Type 0 where
  pub few : length bytes + 100 < 2 ^ 32
  pub rows : length x.sections < 2 ^ 16
  pub names : HasNames bytes
  pub dynamic : IsIn (length bytes) l.dynamic
  pub spare : 16 * l.tags + 32 ≤ l.dynamic.size

-- ---- what has one

-- a library that was accepted from a file, and has no form fault other than InRegion
pub record IsFirmLibrary (o : List ℕ) (x : Object) : Type 0 where
  pub firm : IsFirm o x
  pub library : is_library x.kind ≡ true

-- such a library with its layout and its SHA-256
pub record IsLibrarySource (s : Source) : Type 0 where
  pub firm : IsFirmLibrary s.original.now s.object.now
  pub found : AreFoundIn s.original.now s.layout.now s.digest.now

-- a list that is spelled, whose names have together fewer than 2^30 bytes
pub record IsListing (list : List ListRow) : Type 0 where
  pub spelled : is_list list ≡ true
  pub names : length (list_strings list) < 2 ^ 30

-- the strings and the table of a list, of at most 1 GiB each
pub record IsShortList (l : Listed) : Type 0 where
  pub strings : length l.strings ≤ 2 ^ 30
  pub rows : length l.rows ≤ 2 ^ 30

-- an even slot
pub record IsEven (slot : ℕ) : Type 0 where
  pub below : slot < 2 ^ 64
  pub even : slot % 2 ≡ 0

-- how long the form is at most: three times the original, the list, and less than 4 MiB
abbrev pub most_bytes : List ℕ → List ListRow → ℕ
most_bytes o list = 3 * length o + (length (list_strings list) + 20 * length list) + 4160457

-- a form is no longer than that
abbrev pub IsShortForm : List ℕ → List ListRow → Vec ℕ Global → Type 0
IsShortForm o list form = length form.items ≤ most_bytes o list
