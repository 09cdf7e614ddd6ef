-- The loader's test of the fast path is the folder's.
use Rattle.std.proofs.Common.{◌≡◌, ℕ, suc, Bool, true, false, List, [], ◌∷◌, map, length, drop, Option, Some, None, Result, Ok, refl, sym, ap, subst, ◌∙◌, arith}
use Rattle.std.specs.Prelude.{◌&&◌, ◌==◌, nat_eq}
use Rattle.std.specs.List.{All, list_all, zip}
use Rattle.std.specs.Option.{is_some}
use Rattle.std.specs.Str.{bytes_eq}
use Rattle.std.specs.Cmp.Lexicographic.{pointwise}
use Rattle.std.proofs.lemmas.Bool.{false≢true}
use Rattle.std.proofs.lemmas.Bool.Decides.{nat_tests}
use Rattle.std.proofs.lemmas.List.Elements.{All-head, All-tail}
use Rattle.pl_elf.specs.Kinds.{is_library}
use Rattle.pl_form.specs.Words.{checksum_of}
use Rattle.pl_lists.specs.declared.list_row.ListRow.{ListRow}
use Rattle.pl_scope.specs.Members.{names}
use Rattle.pl_scope.specs.Walk.{Walked}
use Rattle.law_sound.specs.Rule as sound
use Rattle.law_sound.specs.Rule.{Files, Row, mark_at, original_at, slot_of, stamp_of, row_at, row_eq, is_marked, tells_walk, matches, walk_in}
use Rattle.pl_conflict.specs.Format as format
use Rattle.pl_conflict.specs.Format.{Causes, mark_in, row_of_list, slot_at, others_in, libraries}
use Rattle.pl_loader.specs.Fast.{is_row_of, tells_one, are_rows_of, lists_libraries, is_slot_of, is_at_slot, are_at_slots, is_fast_by, is_fast}
use Rattle.pl_loader.specs.Loading.{IsLibrary}
use Rattle.pl_loader.specs.declared.object_file.Mark.{Mark}
use Rattle.pl_loader.specs.declared.object_file.ObjectFile.{ObjectFile}
use Rattle.law_loads.specs.Paths.{walk_of}
use Rattle.law_loads.specs.Loads.{PathsAreOne}
use Rattle.law_loads.proofs.FileLaws.{mark_by, Sums}
use Rattle.law_loads.proofs.WalkLaws.{IsTaken, Begins, folder_walk, begins}

-- ---- tests

-- three tests in a row, grouped otherwise
grouped : (a b c : Bool) → (a && b && c) ≡ (a && (b && c))
grouped true b c = refl
grouped false b c = refl

-- the first rows' tests go in front of the others'
in_front : (size rows marked others this one : Bool) → (size && rows) ≡ (marked && others) → (size && ((this && one) && rows)) ≡ ((this && marked) && (one && others))
in_front size rows marked others true true same = same
in_front true rows marked others true false same = sym (none marked)
  where
    none : (b : Bool) → (b && false) ≡ false
    none true = refl
    none false = refl
in_front false rows marked others true false same = sym (none marked)
  where
    none : (b : Bool) → (b && false) ≡ false
    none true = refl
    none false = refl
in_front true rows marked others false one same = refl
in_front false rows marked others false one same = refl

no_more : (b : Bool) → false ≡ (b && false)
no_more true = refl
no_more false = refl

-- a test that matters only where the one before it holds
where_so : (a b c : Bool) → (a ≡ true → b ≡ c) → (a && b) ≡ (a && c)
where_so true b c same = same refl
where_so false b c same = refl

both_true : (a b : Bool) → (a && b) ≡ true → (a ≡ true) × (b ≡ true)
both_true true b h = (refl, h)
both_true false b h = absurd (false≢true h)

none_more : (n : ℕ) → nat_eq 0 (suc n) ≡ false
none_more n = grind (arith, nat_tests)

some_none : (n : ℕ) → nat_eq (suc n) 0 ≡ false
some_none n = grind (arith, nat_tests)

one_more : (a b : ℕ) → nat_eq (suc a) (suc b) ≡ nat_eq a b
one_more a b = grind (arith, nat_tests)

number_flip : (a b : ℕ) → nat_eq a b ≡ nat_eq b a
number_flip a b = grind (arith, nat_tests)

-- ---- one library

-- a row is a library's by the loader's test, and by the folder's
one_by : (row : ListRow) (n original : List ℕ) (version : ℕ) (mark : Option Mark) → Sums original true mark
    → is_row_of row n mark ≡ (is_some (mark_by version mark) && row_eq (row_of_list row) (record { name = n; stamp = stamp_of (mark_by version mark); checksum = checksum_of original }))
one_by row n original version None sums = refl
one_by row n original version (Some k) sums =
    ap (λ (c : ℕ). bytes_eq row.name n && nat_eq row.stamp k.stamp && nat_eq row.checksum c) (sums refl)
    ∙ grouped (bytes_eq row.name n) (nat_eq row.stamp k.stamp) (nat_eq row.checksum (checksum_of original))

-- what the folder tells of a file's mark and original
record IsTold {F : Type 0} (causes : Causes F) (folder : Files) (f : ObjectFile) : Type 0 where
  version : ℕ
  mark : mark_at (format.format causes) (folder f.name) ≡ mark_by version f.mark
  original : original_at (format.format causes) (folder f.name) ≡ f.bytes

told : {F : Type 0} (causes : Causes F) (folder : Files) (name : List ℕ) (f : ObjectFile) → IsTaken causes folder name f → IsTold causes folder f
told causes folder name f t = record {
  version = t.is.version;
  mark = ap (mark_at (format.format causes)) t.there ∙ t.is.mark;
  original = ap (original_at (format.format causes)) t.there ∙ t.is.original;
}

library_sums : (original : List ℕ) (library : Bool) (mark : Option Mark) → library ≡ true → Sums original library mark → Sums original true mark
library_sums original library mark is sums = subst (λ (b : Bool). Sums original b mark) is sums

abbrev row_made : List ℕ → ℕ → ℕ → Row
row_made n stamp checksum = record { name = n; stamp = stamp; checksum = checksum }

one_is : {F : Type 0} (causes : Causes F) (folder : Files) (name : List ℕ) (f : ObjectFile) (row : ListRow) → IsTaken causes folder name f → IsLibrary f
    → tells_one (row, f) ≡ (is_marked (format.format causes) folder f.name && row_eq (row_of_list row) (row_at (format.format causes) f.name (folder f.name)))
one_is causes folder name f row t library =
    let d = told causes folder name f t in
    let sums : Sums f.bytes true f.mark = library_sums f.bytes (is_library f.object.kind) f.mark library t.is.sums in
    one_by row f.name f.bytes d.version f.mark sums
    ∙ sym (ap (λ (k : Option sound.Mark). is_some k && row_eq (row_of_list row) (row_made f.name (stamp_of k) (checksum_of (original_at (format.format causes) (folder f.name))))) d.mark
    ∙ ap (λ (o : List ℕ). is_some (mark_by d.version f.mark) && row_eq (row_of_list row) (row_made f.name (stamp_of (mark_by d.version f.mark)) (checksum_of o))) d.original)

-- ---- all libraries

-- the folder's test of a list and the names of libraries
abbrev tells_names : {F : Type 0} → Causes F → Files → List ListRow → List ObjectFile → Bool
tells_names causes folder list fs = sound.lists_members (format.format causes) folder (map row_of_list list) (names (walk_of fs))

tells_same : {F : Type 0} (causes : Causes F) (folder : Files) (name : List ℕ) (list : List ListRow) (fs : List ObjectFile) → All (IsTaken causes folder name) fs → All IsLibrary fs → lists_libraries list fs ≡ tells_names causes folder list fs
unfolding are_rows_of
tells_same causes folder name [] [] taken kinds = refl
tells_same causes folder name [] (f ∷ fs) taken kinds = ap (λ (b : Bool). b && true) (none_more (length fs)) ∙ no_more (list_all (is_marked (format.format causes) folder) (names (walk_of (f ∷ fs))))
tells_same causes folder name (row ∷ list) [] taken kinds = ap (λ (b : Bool). b && true) (some_none (length list))
tells_same causes folder name (row ∷ list) (f ∷ fs) taken kinds =
    let rest = tells_same causes folder name list fs (All-tail (IsTaken causes folder name) f fs taken) (All-tail IsLibrary f fs kinds) in
    let one = one_is causes folder name f row (All-head (IsTaken causes folder name) f fs taken) (All-head IsLibrary f fs kinds) in
    ap (λ (b : Bool). b && (tells_one (row, f) && list_all tells_one (zip list fs))) (one_more (length list) (length fs))
    ∙ ap (λ (b : Bool). (length list == length fs) && (b && list_all tells_one (zip list fs))) one
    ∙ in_front (length list == length fs) (list_all tells_one (zip list fs)) (list_all (is_marked (format.format causes) folder) (names (walk_of fs)))
    (pointwise row_eq (map row_of_list list) (map (λ m. row_at (format.format causes) m (folder m)) (names (walk_of fs)))) (is_marked (format.format causes) folder f.name)
    (row_eq (row_of_list row) (row_at (format.format causes) f.name (folder f.name))) rest

-- ---- places

slot_by : (version place : ℕ) (mark : Option Mark) → is_some (mark_by version mark) ≡ true → is_slot_of mark place ≡ nat_eq place (slot_of (mark_by version mark))
slot_by version place None some = absurd (false≢true some)
slot_by version place (Some k) some = number_flip k.slot place

slot_is : {F : Type 0} (causes : Causes F) (folder : Files) (name : List ℕ) (f : ObjectFile) (place : ℕ) → IsTaken causes folder name f → is_marked (format.format causes) folder f.name ≡ true
    → is_slot_of f.mark place ≡ nat_eq place (slot_at causes folder f.name)
slot_is causes folder name f place t marked =
    let d = told causes folder name f t in
    slot_by d.version place f.mark (sym (ap (λ (k : Option sound.Mark). is_some k) d.mark) ∙ marked) ∙ sym (ap (λ (k : Option sound.Mark). nat_eq place (slot_of k)) d.mark)

slots_same : {F : Type 0} (causes : Causes F) (folder : Files) (name : List ℕ) (fs : List ObjectFile) (at : List ℕ) → All (IsTaken causes folder name) fs → length at ≡ length fs → list_all (is_marked (format.format causes) folder) (names (walk_of fs)) ≡ true
    → are_at_slots fs at ≡ pointwise nat_eq at (map (slot_at causes folder) (names (walk_of fs)))
unfolding are_at_slots
slots_same causes folder name [] [] taken size marked = refl
slots_same causes folder name [] (place ∷ at) taken size marked = absurd (omega (arith, size))
slots_same causes folder name (f ∷ fs) [] taken size marked = absurd (omega (arith, size))
slots_same causes folder name (f ∷ fs) (place ∷ at) taken size marked =
    let p = both_true (is_marked (format.format causes) folder f.name) (list_all (is_marked (format.format causes) folder) (names (walk_of fs))) marked in
    let one = slot_is causes folder name f place (All-head (IsTaken causes folder name) f fs taken) p.0 in
    let rest = slots_same causes folder name fs at (All-tail (IsTaken causes folder name) f fs taken) (omega (arith, size)) p.1 in
    ap (λ (b : Bool). b && list_all is_at_slot (zip fs at)) one ∙ ap (λ (b : Bool). nat_eq place (slot_at causes folder f.name) && b) rest

-- ---- the whole

-- the folder's test, by the program's mark
abbrev fast_by : {F : Type 0} → Causes F → Files → Option sound.Mark → List ObjectFile → List ℕ → Bool
fast_by {F = F} causes folder mark fs at =
    tells_walk (format.format causes) folder mark (Ok (walk_of fs)) && pointwise nat_eq at (map (slot_at causes folder) (others_in {E = F} (Ok (walk_of fs))))

by_mark : {F : Type 0} (causes : Causes F) (folder : Files) (name : List ℕ) (program : ObjectFile) (fs : List ObjectFile) (at : List ℕ) (version : ℕ) (mark : Option Mark) → All (IsTaken causes folder name) fs → All IsLibrary fs → length at ≡ length fs
    → is_fast_by mark fs at ≡ fast_by causes folder (mark_by version mark) (program ∷ fs) at
by_mark causes folder name program fs at version None taken kinds size = refl
by_mark causes folder name program fs at version (Some k) taken kinds size =
    let same = tells_same causes folder name k.list fs taken kinds in
    ap (λ (b : Bool). b && are_at_slots fs at) same
    ∙ where_so (tells_names causes folder k.list fs) (are_at_slots fs at) (pointwise nat_eq at (map (slot_at causes folder) (names (walk_of fs))))
    (λ holds. slots_same causes folder name fs at taken size
    (both_true (list_all (is_marked (format.format causes) folder) (names (walk_of fs))) (pointwise row_eq (map row_of_list k.list) (map (λ m. row_at (format.format causes) m (folder m)) (names (walk_of fs)))) holds).0)

folder_fast : {F : Type 0} (causes : Causes F) (folder : Files) (name : List ℕ) (all : List ObjectFile) (at : List ℕ) (mark : Option sound.Mark) → mark_at (format.format causes) (folder name) ≡ mark → walk_in (format.format causes) folder name ≡ Ok (walk_of all)
    → format.is_fast causes folder name at ≡ fast_by causes folder mark all (drop 1 at)
unfolding format.is_fast
folder_fast {F} causes folder name all at mark is walks =
    ap (λ (k : Option sound.Mark). tells_walk (format.format causes) folder k (walk_in (format.format causes) folder name) && pointwise nat_eq (drop 1 at) (map (slot_at causes folder) (libraries causes folder name))) is
    ∙ ap (λ (r : Result Walked F). tells_walk (format.format causes) folder mark r && pointwise nat_eq (drop 1 at) (map (slot_at causes folder) (others_in r))) walks

fewer : (at : List ℕ) (f : ObjectFile) (fs : List ObjectFile) → length at ≡ length (f ∷ fs) → length (drop 1 at) ≡ length fs
fewer [] f fs size = absurd (omega (arith, size))
fewer (place ∷ at) f fs size = omega (arith, size)

pub loader_fast : {F : Type 0} (causes : Causes F) (folder : Files) (name : List ℕ) (all : List ObjectFile) (at : List ℕ) → walk_in (format.format causes) folder name ≡ Ok (walk_of all) → Begins causes folder name all → length at ≡ length all
    → is_fast all at ≡ format.is_fast causes folder name at
unfolding is_fast
loader_fast causes folder name all at walks b size =
    let d = told causes folder name b.program b.first in
    let few : length (drop 1 at) ≡ length b.libraries = fewer at b.program b.libraries (size ∙ ap length b.is) in
    let mark : mark_at (format.format causes) (folder name) ≡ mark_by d.version b.program.mark = ap (λ (n : List ℕ). mark_at (format.format causes) (folder n)) (sym b.named) ∙ d.mark in
    ap (λ (fs : List ObjectFile). is_fast fs at) b.is
    ∙ by_mark causes folder name b.program b.libraries (drop 1 at) d.version b.program.mark b.others b.kinds few
    ∙ sym (ap (λ (fs : List ObjectFile). fast_by causes folder (mark_by d.version b.program.mark) fs (drop 1 at)) b.is)
    ∙ sym (folder_fast causes folder name all at (mark_by d.version b.program.mark) mark walks)

-- so the folder's list matches
pub fast_matches : {F : Type 0} (causes : Causes F) (folder : Files) (name : List ℕ) (at : List ℕ) → format.is_fast causes folder name at ≡ true → matches (format.format causes) folder name ≡ true
unfolding format.is_fast
fast_matches causes folder name at fast = (both_true (matches (format.format causes) folder name) (pointwise nat_eq (drop 1 at) (map (slot_at causes folder) (libraries causes folder name))) fast).0

pub paths_are_one : {E F : Type 0} → PathsAreOne E F
paths_are_one causes folder fault file name all at is size =
    let w = folder_walk causes folder fault file name all is in
    loader_fast causes folder name all at w.walks (begins causes folder name all w) size
