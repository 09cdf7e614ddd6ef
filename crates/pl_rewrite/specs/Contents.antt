-- What the files of programs are made of.
use Rattle.std.specs.Prelude.{◌≡◌, ◌<◌, ℕ, true, false, List, length, slice_get, Option, Some, None, Result, Ok, Err}
use Rattle.std.specs.Option.{option_map}
use Rattle.pl_cone.specs.Links.{IsLinking}
use Rattle.pl_cone.specs.Table.{walked_by}
use Rattle.pl_cone.specs.declared.linking.Link.{Link}
use Rattle.pl_cone.specs.declared.scopes.WalkLinking.{WalkLinking}
use Rattle.pl_conflict.specs.Prelinked as firm
use Rattle.pl_conflict.specs.Prelinked.{Firm, objects_of, slots_of}
use Rattle.pl_form.specs.declared.version.Version.{Version}
use Rattle.pl_lists.specs.declared.conflict_row.ConflictRow.{ConflictRow}
use Rattle.pl_form.specs.Files.{marked_in}
use Rattle.pl_form.specs.declared.file.Marked.{Marked}
use Rattle.pl_rewrite.specs.Fills.{conflicts_with, fills_of, form_of, memory_of}
use Rattle.pl_rewrite.specs.declared.numbers.Numbered.{Numbered}
use Rattle.pl_rewrite.specs.declared.outcomes.NewProgram.{NewProgram}
use Rattle.pl_rewrite.specs.declared.program.Contents.{Contents}
use Rattle.pl_rewrite.specs.declared.program.Work.{Work}
use Rattle.pl_rewrite.specs.declared.row_words.Needed.{Needed}
use Rattle.pl_rewrite.specs.declared.row_words.RowWords.{RowWords}
use Rattle.pl_tls.specs.declared.module.Module.{Module}
use Rattle.pl_tls.specs.declared.fault.TlsFault.{TlsFault}
use Rattle.pl_value.specs.Meanings.{meanings}
use Rattle.pl_value.specs.declared.fault.OrdinaryFault.{OrdinaryFault}
use Rattle.pl_value.specs.declared.meaning.Meaning.{Meaning}
use Rattle.pl_rewrite.specs.Rows.{IsFileMeant, IsNumbered, IsWalkRow, firms_of, is_library_row, places_of, walk_of}
use Rattle.pl_rewrite.specs.RemainingRows.{RefusesAll}
use Rattle.pl_rewrite.specs.Sources.{AreVersionsOf, BeginsIn}
use Rattle.pl_rewrite.specs.RowWords.{AreHeldAt, AreRowWords, FindsRow, IsLinkAt}

-- what the libraries of each program's walk hold is told
pub record IsWork (w : Work) : Type 0 where
  pub numbered : IsNumbered w.numbered.now
  pub asked : Needed
  pub row_words : AreRowWords w.numbered.now asked w.row_words.now

-- the words that the file of the library of a row holds at the places of its remaining relocations are told
pub record IsHeldRow (n : Numbered) (row : ℕ) (s : RowWords) : Type 0 where
  pub link : Link
  pub is : IsLinkAt n row link
  pub held : AreHeldAt n row link.remaining s.held

-- a program, what whose relocations find is told, and the libraries of whose walk are told
pub record IsProgramRow (w : Work) (row : ℕ) : Type 0 where
  pub walk : IsWalkRow w.numbered.now row
  pub program : is_library_row w.numbered.now row ≡ false
  pub found : (s : RowWords) → slice_get w.row_words.now row ≡ Some s → FindsRow w.numbered.now row s.found
  pub held : (m r : ℕ) (s : RowWords) → 0 < m → slice_get (walk_of w.numbered.now row) m ≡ Some r → slice_get w.row_words.now r ≡ Some s → IsHeldRow w.numbered.now r s

-- such a program, the members of whose walk can be prelinked together
pub record IsSetProgram (w : Work) (row : ℕ) : Type 0 where
  pub work : IsWork w
  pub program : IsProgramRow w row
  pub set : firm.are_set (firms_of w.numbered.now row) ≡ true

-- the linking of a row's walk at its places
pub record IsLinkingOfRow (w : Work) (row : ℕ) (l : WalkLinking) : Type 0 where
  pub is : IsLinking l
  pub scope : l.scope.now ≡ walked_by w.numbered.now.files.now (walk_of w.numbered.now row)
  pub places : l.places.now ≡ places_of w.numbered.now.places.now (walk_of w.numbered.now row)

abbrev pub count_in : Option Marked → ℕ
count_in None = 0
count_in (Some m) = length m.conflicts

abbrev pub conflicts_in : List ℕ → ℕ
conflicts_in file = count_in (marked_in file)

-- what is made is the file that is meant, with so many conflict rows
abbrev pub IsNewProgram : Numbered → ℕ → Version → Option NewProgram → Type 0
IsNewProgram n row version None = IsFileMeant n row version None
IsNewProgram n row version (Some p) = IsFileMeant n row version (Some p.file.items) × (p.conflicts ≡ conflicts_in p.file.items)

-- the conflict rows and the fills are those of the program's file, and its relocations have values
pub record HasContents (w : Work) (row : ℕ) (l : WalkLinking) (c : Contents) : Type 0 where
  pub given : List Meaning
  pub values : meanings (objects_of (firms_of w.numbered.now row)) (slots_of (firms_of w.numbered.now row)) l.modules.now ≡ Ok given
  pub rows : (ss : List Firm) → AreVersionsOf (firms_of w.numbered.now row) ss → conflicts_with ss l.modules.now ≡ Some c.rows.items
  pub fills : c.fills.items ≡ fills_of (firms_of w.numbered.now row) (memory_of (firms_of w.numbered.now row) given)

-- or the first relocation that has no value
abbrev pub IsContents : Work → ℕ → WalkLinking → Result Contents OrdinaryFault → Type 0
IsContents w row l (Ok c) = HasContents w row l c
IsContents w row l (Err fault) = RefusesAll l fault

abbrev pub file_in : Option NewProgram → Option (List ℕ)
file_in made = option_map (λ p. p.file.items) made

abbrev pub HasSoMany : Option NewProgram → ℕ → Type 0
HasSoMany None count = Unit {0}
HasSoMany (Some p) count = p.conflicts ≡ count

abbrev pub rows_count : Option (List ConflictRow) → ℕ
rows_count None = 0
rows_count (Some rows) = length rows

-- the members of a row's walk in any versions, the first in this one
abbrev pub AreMembersIn : Numbered → ℕ → Version → List Firm → Type 0
AreMembersIn n row version ss = AreVersionsOf (firms_of n row) ss × BeginsIn version ss

-- the form of the program of a row with contents; none where it is longer than a folder stores
abbrev pub IsFormIn : Numbered → ℕ → Version → Contents → Option NewProgram → Type 0
IsFormIn n row version c made = (ss : List Firm) → AreMembersIn n row version ss → file_in made ≡ firm.stored (form_of ss c.fills.items c.rows.items)

abbrev pub IsProgramForm : Work → ℕ → Version → Contents → Option NewProgram → Type 0
IsProgramForm w row version c made = HasSoMany made (length c.rows.items) × IsFormIn w.numbered.now row version c made

-- the program's file by modules of thread-local storage, with so many conflict rows
abbrev pub IsFileWith : List Firm → List Module → Option NewProgram → Type 0
IsFileWith ss modules made = (file_in made ≡ firm.stored (firm.with_modules {E = TlsFault} ss (Ok modules))) × HasSoMany made (rows_count (conflicts_with ss modules))

abbrev pub IsProgramWith : Work → ℕ → Version → List Module → Option NewProgram → Type 0
IsProgramWith w row version modules made = (ss : List Firm) → AreMembersIn w.numbered.now row version ss → IsFileWith ss modules made
