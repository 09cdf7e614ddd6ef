-- A disk while its calls are replayed: the changes of names, the oldest first, and the files.
use Rattle.std.specs.Prelude.{◌≡◌, ℕ, ◌+◌, ◌||◌, Bool, true, false, cond, List, [], ◌∷◌, ◌++◌, length, map, reverse, slice_index_or, is_some, Option, Some, None}
use Rattle.std.specs.FinMap.{get}
use Rattle.pl_base.specs.Files.{Files}
use Rattle.pl_folder.specs.declared.directory_change.DirectoryChange.{DirectoryChange}
use Rattle.pl_folder.specs.declared.directory_change.DirectoryChange.TheVariants as changes
use Rattle.pl_folder.specs.declared.choice.Choice.{Choice}
use Rattle.pl_folder.specs.declared.choice.Choice.TheVariants.{All, Bits}
use Rattle.pl_folder.specs.declared.replay.FileContent.{FileContent}
use Rattle.pl_folder.specs.declared.replay.Replay.{Replay}
use Rattle.pl_folder.specs.Chosen.{has_bit, shown}
use Rattle.pl_folder.specs.Disk.{Name, Content, NameChange, Bind, Move, Unbind, State, bytes_of, changed, same}
use Rattle.pl_folder.specs.Entries.{name_bytes}

abbrev pub change_of : DirectoryChange → NameChange
change_of (changes.Bind name file) = Bind (name_bytes name) file
change_of (changes.Move from to file) = Move (name_bytes from) (name_bytes to) file
change_of (changes.Unbind name) = Unbind (name_bytes name)

abbrev pub changes_of : List DirectoryChange → List NameChange
changes_of all = map change_of all

-- the file of a name after a change, and after several, the oldest first
abbrev pub bound_after : NameChange → Name → Option ℕ → Option ℕ
bound_after c n file = changed c (λ m. file) n

abbrev pub bound_by : List NameChange → Name → Option ℕ → Option ℕ
bound_by [] n file = file
bound_by (c ∷ all) n file = bound_by all n (bound_after c n file)

-- the name that a change binds
abbrev pub bound_name : NameChange → Option Name
bound_name (Bind k file) = Some k
bound_name (Move from to file) = Some to
bound_name (Unbind k) = None

abbrev pub is_name : Name → Option Name → Bool
is_name n None = false
is_name n (Some k) = same n k

-- whether one of the changes binds a name
abbrev pub any_binds : Name → List NameChange → Bool
any_binds n [] = false
any_binds n (c ∷ all) = is_name n (bound_name c) || any_binds n all

-- the changes that a test keeps, the first of them being number i
abbrev pub chosen_changes : (ℕ → Bool) → ℕ → List NameChange → List NameChange
chosen_changes keeps i [] = []
chosen_changes keeps i (c ∷ all) = cond (keeps i) (c ∷ chosen_changes keeps (i + 1) all) (chosen_changes keeps (i + 1) all)

abbrev pub keeps : Choice → ℕ → Bool
keeps All i = true
keeps (Bits bits) i = has_bit bits i

abbrev pub content_of : FileContent → Content
content_of file = record { bytes = file.bytes.items; is_firm = file.is_firm }

abbrev pub contents_of : List FileContent → List Content
contents_of files = map content_of files

-- a file by its number; past the last one there is nothing
abbrev pub content_at : List Content → ℕ → Content
content_at files file = slice_index_or files file (record { bytes = []; is_firm = true })

-- the files after the crash, where so many before them are not firm
abbrev pub shown_files : (ℕ → Bool) → ℕ → List Content → List Content
shown_files keeps i [] = []
shown_files keeps i (file ∷ files) = shown (keeps i) file ∷ shown_files keeps (cond file.is_firm i (i + 1)) files

-- what stands under a name once all is settled
abbrev pub settled_view : Replay → Name → Option (List ℕ)
settled_view replay n = bytes_of (content_at (contents_of replay.files.items)) (bound_by (changes_of replay.settled.items) n None)

-- a file was added to a table under this name, if it was not there
pub record Adds (view : Name → Option (List ℕ)) (name : Name) (old new : Files) : Type 0 where
  pub others : (n : Name) → same n name ≡ false → get new n ≡ get old n
  pub there : (n : Name) → is_some (get old n) ≡ true → get new n ≡ get old n
  pub added : (n : Name) → same n name ≡ true → get old n ≡ None → get new n ≡ view n

-- the state that is replayed
pub record Stands (replay : Replay) (s : State) : Type 0 where
  pub base : (n : Name) → s.base n ≡ bound_by (changes_of replay.settled.items) n None
  pub changes : s.changes ≡ reverse (changes_of replay.changes.items)
  pub files : (file : ℕ) → s.files file ≡ content_at (contents_of replay.files.items) file
  pub count : s.count ≡ length replay.files.items
