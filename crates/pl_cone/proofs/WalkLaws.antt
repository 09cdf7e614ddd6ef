-- The walk of a file's name: its first object, its members' objects, and the walks within it.
use Rattle.std.proofs.Common.{◌≡◌, ℕ, suc, ◌<◌, List, [], ◌∷◌, length, drop, Option, Some, None, Result, Ok, Err, refl, sym, ap, subst, ◌∙◌, arith, inl, inr}
use Rattle.std.specs.Prelude.{◌⊎◌, find, slice_get}
use Rattle.std.specs.List.{All}
use Rattle.std.specs.Option.{option_and_then, option_map}
use Rattle.std.specs.Str.{bytes_eq}
use Rattle.std.proofs.lemmas.List.Elements.{All-nil, All-tail}
use Rattle.std.proofs.lemmas.Option.{none-some, same_Some, slice_get_cases, slice_get-map}
use Rattle.pl_conflict.specs.Format.{format}
use Rattle.pl_elf.specs.Kinds.{is_library, is_static}
use Rattle.pl_elf.specs.declared.range.Range.{Range}
use Rattle.pl_form.specs.declared.file.Entry.{Entry}
use Rattle.pl_form.specs.declared.file.Entry.TheVariants.{There, BadMark, Refused}
use Rattle.pl_object.specs.declared.object.Object.{Object}
use Rattle.pl_scope.specs.Walk.{Walked}
use Rattle.pl_scope.proofs.ClosureLaws.{WalkTells, walk_is}
use Rattle.pl_scope.proofs.StepLaws.{err_ok, same_ok}
use Rattle.pl_scope.proofs.WalkedLaws.{member_file, walk_distinct}
use Rattle.law_sound.specs.Rule.{object_at, objects}
use Rattle.pl_cone.specs.Candidates.{kind_of}
use Rattle.pl_cone.specs.Folder.{IsMadeOf, IsMember}
use Rattle.pl_cone.specs.Linking.{HasWalk, IsWalked, is_static_entry}
use Rattle.pl_cone.specs.Needs.{object_for}
use Rattle.pl_cone.specs.Skipped.{skip_causes}
use Rattle.pl_cone.specs.Skips.{of_walk}
use Rattle.pl_cone.specs.Table.{AreRows, AreWalks, IsRunTable, IsWalkOfFile, refusal_of, refusals_in, rows_in, walk_for, walk_of, walked_by}
use Rattle.pl_cone.specs.Taken.{AreTaken, IsTaken, files_in, is_library_entry, object_by}
use Rattle.pl_cone.specs.declared.linking.WalkedFiles as walked
use Rattle.pl_cone.specs.declared.skip.Skip.{Skip}
use Rattle.pl_cone.specs.declared.table.RunTable.{RunTable}
use Rattle.pl_cone.specs.declared.taken.Taken.{Taken}
use Rattle.pl_cone.proofs.EntryLaws.{IsTold}
use Rattle.pl_cone.proofs.MembersLaws.{AreOnce, HasMember, has_member_at, once_members, walked_cons}
use Rattle.pl_cone.proofs.RowLaws.{IsRow, row_is, found_holds, taken_entry}
use Rattle.pl_cone.proofs.SingleLaws.{folder_by}

-- ---- the objects of names

object_there : (n : List ℕ) (e : Entry) (o : Object) → object_for n e ≡ Ok o → object_by e ≡ Some o
object_there n (There file) o is = ap (λ (p : Object). Some p) (same_ok _ o is)
object_there n BadMark o is = absurd (err_ok _ o is)
object_there n (Refused number argument) o is = absurd (err_ok _ o is)

by_found : (region : Range) (ts : List Taken) (n : List ℕ) (o : Object) (found : Option Taken) → All (IsTaken region) ts → find (λ t. bytes_eq t.name n) ts ≡ found
    → object_at (format skip_causes) n (option_map (λ (t : Taken). t.bytes) found) ≡ Ok o → option_and_then (λ (t : Taken). object_by t.entry) found ≡ Some o
by_found region ts n o None all is there = absurd (err_ok _ o there)
by_found region ts n o (Some t) all is there =
    let taken : IsTaken region t = found_holds (IsTaken region) (λ (x : Taken). bytes_eq x.name n) ts t all is in
    let told : IsTold n t.bytes t.entry = taken_entry region n t taken in
    object_there n t.entry o (told.object ∙ there)

-- the object of a name in the folder is that of its file
pub folder_is : (region : Range) (ts : List Taken) (n : List ℕ) (o : Object) → AreTaken region ts → objects (format skip_causes) (files_in ts) n ≡ Ok o → folder_by ts n ≡ Some o
unfolding files_in folder_by
folder_is region ts n o taken there = by_found region ts n o (find (λ t. bytes_eq t.name n) ts) taken.each refl there

-- ---- a walk

pub walk_made : (region : Range) (ts : List Taken) (n : List ℕ) (ws : Walked) → AreTaken region ts → walk_for ts n ≡ Ok ws → IsMadeOf (folder_by ts) ws
walk_made region ts n ws taken h = λ i m o at. folder_is region ts m o taken (member_file of_walk (objects (format skip_causes) (files_in ts)) n ws h i (m, o) at)

pub walk_first : (ts : List Taken) (n : List ℕ) (ws : Walked) → walk_for ts n ≡ Ok ws → WalkTells (objects (format skip_causes) (files_in ts)) n ws
walk_first ts n ws h = walk_is of_walk (objects (format skip_causes) (files_in ts)) n ws h

pub first_member : (ts : List Taken) (n : List ℕ) (ws : Walked) → walk_for ts n ≡ Ok ws → IsMember ws 0 n
first_member ts n ws h =
    let t = walk_first ts n ws h in
    record { object = t.object; at = ap (λ (w : Walked). slice_get w 0) t.is }

pub walk_some : (ts : List Taken) (n : List ℕ) (ws : Walked) → walk_for ts n ≡ Ok ws → 0 < length ws
walk_some ts n ws h =
    let t = walk_first ts n ws h in
    rw t.is (omega arith)

-- the first object is that of the name's file
pub record IsFirst (t : Taken) (ws : Walked) : Type 0 where
  pub object : Object
  pub there : object_by t.entry ≡ Some object
  pub kind : kind_of ws ≡ object.kind

pub first_is : (region : Range) (ts : List Taken) (row : ℕ) (t : Taken) (ws : Walked) → AreTaken region ts → slice_get ts row ≡ Some t → walk_for ts t.name ≡ Ok ws → IsFirst t ws
first_is region ts row t ws taken at h =
    let i = walk_first ts t.name ws h in
    let is : IsRow region ts t = row_is region ts row t taken at in
    record {
      object = i.object;
      there = object_there t.name t.entry i.object (sym is.object ∙ i.file);
      kind = ap kind_of i.is;
    }

pub library_entry : (e : Entry) (o : Object) → object_by e ≡ Some o → is_library_entry e ≡ is_library o.kind
library_entry (There file) o is = ap (λ (p : Object). is_library p.kind) (same_Some _ o is)
library_entry BadMark o is = absurd (none-some o is)
library_entry (Refused number argument) o is = absurd (none-some o is)

pub static_entry : (e : Entry) (o : Object) → object_by e ≡ Some o → is_static_entry e ≡ is_static o.kind
static_entry (There file) o is = ap (λ (p : Object). is_static p.kind) (same_Some _ o is)
static_entry BadMark o is = absurd (none-some o is)
static_entry (Refused number argument) o is = absurd (none-some o is)

-- ---- the walk of a row

pub refusal_at : (ts : List Taken) (row : ℕ) (t : Taken) → slice_get ts row ≡ Some t → slice_get (refusals_in ts) row ≡ Some (refusal_of (walk_for ts t.name))
refusal_at ts row t at = slice_get-map (λ (x : Taken). refusal_of (walk_for ts x.name)) ts row ∙ ap (option_map (λ (x : Taken). refusal_of (walk_for ts x.name))) at

by_refusal : (ts : List Taken) (t : Taken) (rows : List ℕ) (ws : Walked) → walk_for ts t.name ≡ Ok ws → IsWalkOfFile ts t rows (refusal_of (walk_for ts t.name)) → AreRows ts rows × (walk_for ts t.name ≡ Ok (walked_by ts rows))
by_refusal ts t rows ws is walk = subst (λ (r : Result Walked Skip). IsWalkOfFile ts t rows (refusal_of r)) is walk

-- its rows, where it is not refused
pub rows_told : (ts : List Taken) (walks : List (List ℕ)) (row : ℕ) (t : Taken) (rows : List ℕ) (ws : Walked) → AreWalks ts (record { walks = walks; causes = refusals_in ts }) → slice_get ts row ≡ Some t → slice_get walks row ≡ Some rows → walk_for ts t.name ≡ Ok ws
    → AreRows ts rows × (walk_for ts t.name ≡ Ok (walked_by ts rows))
rows_told ts walks row t rows ws are file walk is = by_refusal ts t rows ws is (are.each row t rows (refusal_of (walk_for ts t.name)) file walk (refusal_at ts row t file))

pub rows_are : (w : walked.WalkedFiles) (row : ℕ) → IsWalked w → (h : HasWalk w row) → AreRows w.files.now h.rows
rows_are w row is h = (rows_told w.files.now w.walks.now row h.taken h.rows (walked_by w.files.now h.rows) is.walks h.file h.walk h.told).0

-- none of which stands twice
pub rows_once : (w : walked.WalkedFiles) (row : ℕ) → IsWalked w → (h : HasWalk w row) → AreOnce h.rows
rows_once w row is h =
    once_members w.files.now h.rows (rows_are w row is h).each (walk_distinct of_walk (objects (format skip_causes) (files_in w.files.now)) h.taken.name (walked_by w.files.now h.rows) h.told)

-- ---- the walk of a row of a table

pub empty_rows : (ts : List Taken) → AreRows ts []
empty_rows ts = record { within = All-nil (λ (r : ℕ). r < length ts); each = refl; few = omega arith }

pub rows_after : (ts : List Taken) (r : ℕ) (rows : List ℕ) → AreRows ts (r ∷ rows) → AreRows ts rows
rows_after ts r rows is =
    let h : HasMember ts (r ∷ rows) 0 r = has_member_at ts (r ∷ rows) 0 r is.each refl in
    let size : length (walked_by ts (r ∷ rows)) ≡ suc (length (walked_by ts rows)) = ap length (walked_cons ts r rows h.taken h.object h.file h.is) in
    record { within = All-tail (λ (k : ℕ). k < length ts) r rows is.within; each = omega (arith, is.each, size); few = omega (arith, is.few) }

pub others_are : (ts : List Taken) (rows : List ℕ) → AreRows ts rows → AreRows ts (drop 1 rows)
others_are ts [] is = is
others_are ts (r ∷ rows) is = rows_after ts r rows is

by_walk : (ts : List Taken) (x : Taken) (rows : List ℕ) (r : Result Walked Skip) → IsWalkOfFile ts x rows (refusal_of r) → AreRows ts rows
by_walk ts x rows (Ok ws) is = is.0
by_walk ts x rows (Err e) is = subst (λ (rs : List ℕ). AreRows ts rs) (sym is.0) (empty_rows ts)

pub table_rows : (region : Range) (t : RunTable) (row : ℕ) → IsRunTable region t → AreRows t.files.now (walk_of t row)
table_rows region t row is = elim (slice_get_cases t.walks row).1 [
  | inl p ↦ elim (slice_get_cases t.files.now row).1 [
    | inl q ↦
        subst (λ (rs : Option (List ℕ)). AreRows t.files.now (rows_in rs)) (sym p.2)
        (by_walk t.files.now q.0 p.0 (walk_for t.files.now q.0.name) (is.walks.each row q.0 p.0 (refusal_of (walk_for t.files.now q.0.name)) q.2 p.2 (refusal_at t.files.now row q.0 q.2)))
    | inr none ↦ absurd (omega (arith, none.0, is.walks.walks, p.1))
  ]
  | inr none ↦ subst (λ (rs : Option (List ℕ)). AreRows t.files.now (rows_in rs)) (sym none.1) (empty_rows t.files.now)
]
