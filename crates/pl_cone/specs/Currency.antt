-- The files that may stay as they are, and the stamps of a run, by rows.
use Rattle.std.specs.Prelude.{◌≡◌, ℕ, Bool, true, false, not, ◌&&◌, ◌||◌, ◌==◌, List, [], ◌∷◌, map, length, fold, max, slice_get, slice_index, Option, Some, None, Result, Ok, if◌then◌else◌}
use Rattle.std.specs.List.{list_all, list_any, range_with_len}
use Rattle.std.specs.Str.{bytes_eq}
use Rattle.pl_cone.specs.Plans.{stamp_after}
use Rattle.pl_cone.specs.Table.{IsRunTableOfSome, is_candidate_row, rows_of, walk_of}
use Rattle.pl_cone.specs.Taken.{is_library_entry, marked_by}
use Rattle.pl_cone.specs.declared.skip.ConeFault.{ConeFault}
use Rattle.pl_cone.specs.declared.table.RunTable.{RunTable}
use Rattle.pl_cone.specs.declared.taken.Taken.{Taken}
use Rattle.pl_form.specs.declared.file.Marked.{Marked}
use Rattle.pl_form.specs.declared.version.Version.{Version}
use Rattle.pl_form.specs.declared.version.Version.TheVariants.{One, Two}
use Rattle.pl_lists.specs.declared.list_row.ListRow.{ListRow}

-- ---- marks

abbrev pub is_two : Version → Bool
is_two One = false
is_two Two = true

abbrev pub is_present : Marked → Bool
is_present m = is_two m.version

-- a row of a list tells a prelinked file of this name
abbrev pub tells_marked : List ℕ → Option Marked → ListRow → Bool
tells_marked n None r = false
tells_marked n (Some m) r = r.stamp == m.stamp && (r.checksum == m.checksum && bytes_eq r.name n)

abbrev pub is_row : Taken → ListRow → Bool
is_row t r = tells_marked t.name (marked_by t.entry) r

abbrev pub is_row_of : Option Taken → ListRow → Bool
is_row_of None r = false
is_row_of (Some t) r = is_row t r

-- a list has a row for each of these files, in their order
unfoldable pub lists_members : List Taken → List ListRow → List ℕ → Bool
lists_members ts [] [] = true
lists_members ts [] (row ∷ rows) = false
lists_members ts (r ∷ rs) [] = false
lists_members ts (r ∷ rs) (row ∷ rows) = is_row_of (slice_get ts row) r && lists_members ts rs rows

abbrev pub holds_marked : List Taken → Taken → Option Marked → List ℕ → ℕ → Bool
holds_marked ts t None others place = false
holds_marked ts t (Some m) others place = is_present m && ((not (is_library_entry t.entry) || m.slot == place) && lists_members ts m.list others)

-- a file has a mark as they are made now, stands at its place if it is a library, and its list tells the others of its walk
abbrev pub holds : List Taken → Taken → List ℕ → ℕ → Bool
holds ts t others place = holds_marked ts t (marked_by t.entry) others place

abbrev pub holds_at : List Taken → Option Taken → List ℕ → ℕ → Bool
holds_at ts None others place = false
holds_at ts (Some t) others place = holds ts t others place

abbrev pub is_held : List Taken → List ℕ → ℕ → Bool
is_held ts [] place = false
is_held ts (first ∷ others) place = holds_at ts (slice_get ts first) others place

-- ---- columns

-- there is a place for each row of a table
pub record HavePlaces (t : RunTable) (starts : List ℕ) : Type 0 where
  pub table : IsRunTableOfSome t
  pub places : length starts ≡ length t.files.now

abbrev pub held_at : RunTable → List ℕ → ℕ → Bool
held_at t places row = is_held t.files.now (walk_of t row) (slice_index places row)

-- which files hold at these places
abbrev pub held_rows : RunTable → List ℕ → List Bool
held_rows t places = map (held_at t places) (rows_of t)

abbrev pub is_set : Option Bool → Bool
is_set None = false
is_set (Some b) = b

abbrev pub is_held_row : List Bool → ℕ → Bool
is_held_row held row = is_set (slice_get held row)

abbrev pub all_held : List Bool → List ℕ → Bool
all_held held rows = list_all (is_held_row held) rows

-- a candidate of whose walk not each member holds
abbrev pub stale_at : RunTable → List Bool → ℕ → Bool
stale_at t held row = is_candidate_row t row && not (all_held held (walk_of t row))

abbrev pub stale_rows : RunTable → List ℕ → List Bool
stale_rows t places = map (stale_at t (held_rows t places)) (rows_of t)

-- ---- stamps

abbrev pub greatest_in : Marked → ℕ
greatest_in m = fold (λ most r. max most r.stamp) m.stamp m.list

abbrev pub greatest_by : Option Marked → ℕ
greatest_by None = 0
greatest_by (Some m) = greatest_in m

abbrev pub greatest_of_file : Taken → ℕ
greatest_of_file t = greatest_by (marked_by t.entry)

abbrev pub greatest_of_files : ℕ → List Taken → ℕ
greatest_of_files last ts = fold (λ most t. max most (greatest_of_file t)) last ts

abbrev pub run_stamp : List Taken → List Bool → ℕ → ℕ → Result ℕ ConeFault
run_stamp ts stale last now = if list_any (λ b. b) stale then stamp_after (greatest_of_files last ts) now else Ok last

abbrev pub stamp_by : Option Marked → ℕ
stamp_by None = 0
stamp_by (Some m) = m.stamp

abbrev pub old_stamp : Taken → ℕ
old_stamp t = stamp_by (marked_by t.entry)

abbrev pub next_stamp_of_file : Taken → Bool → ℕ → ℕ
next_stamp_of_file t stale stamp = if is_library_entry t.entry then if stale then stamp else old_stamp t else 0

abbrev pub stamp_in : Option Taken → Bool → ℕ → ℕ
stamp_in None stale stamp = 0
stamp_in (Some t) stale stamp = next_stamp_of_file t stale stamp

abbrev pub stamp_at : List Taken → List Bool → ℕ → ℕ → ℕ
stamp_at ts stale stamp row = stamp_in (slice_get ts row) (is_set (slice_get stale row)) stamp

-- the stamps of all rows after a run
abbrev pub stamps_of : List Taken → List Bool → ℕ → List ℕ
stamps_of ts stale stamp = map (stamp_at ts stale stamp) (range_with_len 0 (length ts))
