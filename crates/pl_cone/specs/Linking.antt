-- What the relocations of the files of a folder find, and why some may not be prelinked, row by row.
use Rattle.std.specs.Prelude.{◌≡◌, ◌≢◌, ◌<◌, ℕ, Bool, true, false, ◌||◌, ◌&&◌, nat_lt, List, length, slice_get, Option, Some, None, Result, Ok, Err}
use Rattle.pl_base.specs.Answers.{Answers, unless_found}
use Rattle.pl_cone.specs.Candidates as candidates
use Rattle.pl_cone.specs.Links.{IsLinkOf}
use Rattle.pl_cone.specs.Plans.{cause_of}
use Rattle.pl_cone.specs.Skipped.{skip_of}
use Rattle.pl_cone.specs.Skips.{skip_is_memory}
use Rattle.pl_cone.specs.Table.{AreWalks, IsLinkBy, faults_of, folder_objects, refusals_in, walk_for, walked_by}
use Rattle.pl_cone.specs.Taken.{AreTaken, WereTaken, files_in, is_library_entry, object_of}
use Rattle.pl_cone.specs.declared.linking.Link.{Link}
use Rattle.pl_cone.specs.declared.linking.Linked.{Linked}
use Rattle.pl_cone.specs.declared.linking.WalkedFiles as walked
use Rattle.pl_cone.specs.declared.skip.Skip.{Skip}
use Rattle.pl_cone.specs.declared.skip.Skip.TheVariants as skips
use Rattle.pl_cone.specs.declared.taken.Taken.{Taken}
use Rattle.pl_elf.specs.Kinds.{is_static}
use Rattle.pl_elf.specs.declared.range.Range.{Range}
use Rattle.pl_form.specs.declared.file.Entry.{Entry}
use Rattle.pl_form.specs.declared.file.Entry.TheVariants.{There, BadMark, Refused}
use Rattle.pl_scope.specs.Folder.{IsFolderIndex}

-- files with the walks of their names, and the index of what they define
pub record IsWalked (w : walked.WalkedFiles) : Type 0 where
  pub taken : WereTaken w.files.now
  pub walks : AreWalks w.files.now (record { walks = w.walks.now; causes = refusals_in w.files.now })
  pub index : IsFolderIndex (folder_objects w.files.now) w.index.now

-- ---- a row

abbrev pub is_library_in : Option Taken → Bool
is_library_in None = false
is_library_in (Some t) = is_library_entry t.entry

abbrev pub is_library_row : walked.WalkedFiles → ℕ → Bool
is_library_row w row = is_library_in (slice_get w.files.now row)

-- a static program
abbrev pub is_static_entry : Entry → Bool
is_static_entry (There file) = is_static (object_of file).kind
is_static_entry BadMark = false
is_static_entry (Refused number argument) = false

-- a row's file, and its walk, which is not refused
pub record HasWalk (w : walked.WalkedFiles) (row : ℕ) : Type 0 where
  pub taken : Taken
  pub rows : List ℕ
  pub file : slice_get w.files.now row ≡ Some taken
  pub walk : slice_get w.walks.now row ≡ Some rows
  pub told : walk_for w.files.now taken.name ≡ Ok (walked_by w.files.now rows)

-- a file has no form fault
abbrev pub formed_by : Taken → Result (Unit {0}) Skip
formed_by t = unless_found t.fault (skips.Form t.name) (Ok tt)

abbrev pub fits : walked.WalkedFiles → Taken → List ℕ → Result (Unit {0}) Skip
fits w t rows = candidates.fit (faults_of w.files.now) t.name (walked_by w.files.now rows)

abbrev pub LinksBy : walked.WalkedFiles → List ℕ → Result (Unit {0}) Skip → Result Link Skip → Type 0
LinksBy w rows fit (Ok l) = (fit ≡ Ok tt) × IsLinkBy w.files.now w.index.now rows l
LinksBy w rows fit (Err skip) = Answers skip_is_memory (Err skip) fit

-- whether a row's name may be prelinked, and what its relocations find; its walk is not refused
abbrev pub LinksRow : walked.WalkedFiles → ℕ → Result Link Skip → Type 0
LinksRow w row result = (h : HasWalk w row) → LinksBy w h.rows (fits w h.taken h.rows) result

-- links of the libraries that may be prelinked tell what varies
abbrev pub AreLibraryLinks : walked.WalkedFiles → List Link → Type 0
AreLibraryLinks w links = (row : ℕ) (l : Link) (h : HasWalk w row) → is_library_row w row ≡ true → fits w h.taken h.rows ≡ Ok tt → slice_get links row ≡ Some l → IsLinkOf w.index.now (walked_by w.files.now h.rows) l

-- a row has a walk, there is a link for each row, and those of the libraries tell what varies, if it is another's
pub record MayLinkRow (w : walked.WalkedFiles) (r : ℕ) (links : List Link) : Type 0 where
  pub walked : IsWalked w
  pub row : HasWalk w r
  pub sized : length links ≡ length w.files.now
  pub libraries : is_library_row w r ≡ false → AreLibraryLinks w links

-- ---- all rows

pub record IsSized (w : walked.WalkedFiles) (l : Linked) : Type 0 where
  pub links : length l.links.items ≡ length w.files.now
  pub causes : length l.causes.items ≡ length w.files.now

-- the cause of a row and its link are those that are meant
pub record IsRowLinked (w : walked.WalkedFiles) (l : Linked) (row : ℕ) : Type 0 where
  pub meant : (region : Range) (t : Taken) → AreTaken region w.files.now → slice_get w.files.now row ≡ Some t → slice_get l.causes.items row ≡ Some (cause_of (skip_of (files_in w.files.now) region t.name))
  pub by : (rows : List ℕ) (link : Link) → slice_get l.causes.items row ≡ Some None → slice_get w.walks.now row ≡ Some rows → slice_get l.links.items row ≡ Some link → IsLinkBy w.files.now w.index.now rows link

-- of a row it is told whether its walk is refused, and nothing else
abbrev pub IsRowUnlinked : walked.WalkedFiles → Linked → ℕ → Type 0
IsRowUnlinked w l row = slice_get l.causes.items row ≡ slice_get (refusals_in w.files.now) row

abbrev pub IsRow : Bool → walked.WalkedFiles → Linked → ℕ → Type 0
IsRow true w l row = IsRowLinked w l row
IsRow false w l row = IsRowUnlinked w l row

-- some rows are linked, and the others remain
pub record HaveDone (w : walked.WalkedFiles) (done : ℕ → Bool) (l : Linked) : Type 0 where
  pub sized : IsSized w l
  pub rows : (row : ℕ) → row < length w.files.now → IsRow (done row) w l row

-- the libraries before a row
abbrev pub libraries_to : walked.WalkedFiles → ℕ → ℕ → Bool
libraries_to w count row = nat_lt row count && is_library_row w row

-- all libraries, and the others before a row
abbrev pub others_to : walked.WalkedFiles → ℕ → ℕ → Bool
others_to w count row = nat_lt row count || is_library_row w row

-- so many rows were looked at, of the libraries alone, or of the others after them
abbrev pub done_to : Bool → walked.WalkedFiles → ℕ → (ℕ → Bool)
done_to true w count = libraries_to w count
done_to false w count = others_to w count

abbrev pub HaveLinked : Bool → walked.WalkedFiles → ℕ → Linked → Type 0
HaveLinked libraries w count l = HaveDone w (done_to libraries w count) l

-- a row comes next: those of the libraries are linked, if it is another's
pub record IsNextRow (w : walked.WalkedFiles) (row : ℕ) (l : Linked) : Type 0 where
  pub walked : IsWalked w
  pub within : row < length w.files.now
  pub sized : IsSized w l
  pub unlinked : IsRowUnlinked w l row
  pub libraries : is_library_row w row ≡ false → AreLibraryLinks w l.links.items

abbrev pub AreLinked : walked.WalkedFiles → Linked → Type 0
AreLinked w l = IsSized w l × ((row : ℕ) → row < length w.files.now → IsRowLinked w l row)

-- the cause of a row and its link are put in, and every other row stays
pub record IsPut (w : walked.WalkedFiles) (before after : Linked) (row : ℕ) : Type 0 where
  pub sized : IsSized w after
  pub linked : IsRowLinked w after row
  pub links : (other : ℕ) → other ≢ row → slice_get after.links.items other ≡ slice_get before.links.items other
  pub causes : (other : ℕ) → other ≢ row → slice_get after.causes.items other ≡ slice_get before.causes.items other
