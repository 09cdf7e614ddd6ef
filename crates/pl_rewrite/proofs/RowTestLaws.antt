-- Numbers, names and addresses of the member of a row.
use Rattle.std.proofs.Common.{◌≡◌, ℕ, ◌+◌, ◌-◌, ◌%◌, ◌^◌, ◌<◌, ◌≤◌, Bool, true, false, List, [], ◌∷◌, ◌++◌, length, map, drop, take, get_or, Option, Some, None, refl, sym, ap, subst, ◌∙◌, arith}
use Rattle.std.specs.Prelude.{◌&&◌, ◌==◌, nat_le, not, slice_get}
use Rattle.std.specs.List.{All, AllZip, flat_map, list_all}
use Rattle.std.specs.Option.{option_map}
use Rattle.std.proofs.lemmas.List.{take_all}
use Rattle.std.proofs.lemmas.Slice.Zip.{AllZip-long}
use Rattle.std.proofs.lemmas.List.Elements.{All-cons, All-head, All-nil, All-tail}
use Rattle.std.proofs.lemmas.Option.{same_Some, slice_get-get_or}
use Rattle.pl_base.specs.Names.{is_valid_name}
use Rattle.pl_base.specs.Windows.{Window, any_share}
use Rattle.pl_cone.specs.Table.{AreRows}
use Rattle.pl_cone.specs.Taken.{object_by}
use Rattle.pl_cone.specs.declared.taken.Taken.{Taken}
use Rattle.pl_conflict.specs.Prelinked as firm
use Rattle.pl_conflict.specs.Prelinked.{Firm}
use Rattle.pl_elf.specs.Headers.{loads}
use Rattle.pl_elf.specs.Kinds.{is_library}
use Rattle.pl_elf.specs.declared.constants.TheConstants.{ADDRESS_LIMIT}
use Rattle.pl_object.specs.declared.object.Object.{Object}
use Rattle.pl_rewrite.specs.Forms.{has_valid_name}
use Rattle.pl_rewrite.specs.Rows.{IsAligned, IsFirmAt, bare, firm_at, firm_by, firms_of, has_numbers, is_named_well, number_at, numbers_fit, of_firm, walk_of, windows_of}
use Rattle.pl_rewrite.specs.Sources.{AreSources}
use Rattle.pl_rewrite.specs.declared.numbers.Numbered.{Numbered}
use Rattle.pl_rewrite.proofs.FirmLaws.{aligned_all}
use Rattle.pl_rewrite.proofs.FirmRowLaws.{firms_zip, zip_flat, zip_tests}
use Rattle.pl_rewrite.proofs.ListLaws.{library_is, program_is, set_nothing, set_tests}

-- ---- a row

-- what a row's file is
pub file_at : (n : Numbered) (row : ℕ) (t : Taken) → row < length n.files.now → t ≡ get_or n.files.now row t → slice_get n.files.now row ≡ Some t
file_at n row t lt is = slice_get-get_or n.files.now row t lt ∙ ap (λ (x : Taken). Some x) (sym is)

-- the same, of what is read at the row
pub file_or : (n : Numbered) (row : ℕ) (d : Taken) → row < length n.files.now → slice_get n.files.now row ≡ Some (get_or n.files.now row d)
file_or n row d lt = slice_get-get_or n.files.now row d lt

pub firm_of_file : (n : Numbered) (row : ℕ) (t : Taken) (o : Option Object) → slice_get n.files.now row ≡ Some t → o ≡ object_by t.entry → firm_at n row ≡ option_map (firm_by n row t) o
firm_of_file n row t o at is = rw at (ap (option_map (firm_by n row t)) (sym is))

-- a file with an object is a member
pub firm_there : (n : Numbered) (row : ℕ) (t : Taken) (o : Object) → slice_get n.files.now row ≡ Some t → Some o ≡ object_by t.entry → IsFirmAt n row (firm_by n row t o)
firm_there n row t o at is = rw (at, ← is) refl

pub column_at : (xs : List ℕ) (row d : ℕ) → row < length xs → get_or xs row d ≡ number_at xs row
column_at xs row d lt = sym (rw (slice_get-get_or xs row d lt) refl)

-- ---- numbers

pub numbers_none : (n : Numbered) (row : ℕ) (t : Taken) → slice_get n.files.now row ≡ Some t → None ≡ object_by t.entry → false ≡ has_numbers n row
numbers_none n row t at none = sym (ap (of_firm false firm.has_numbers) (firm_of_file n row t None at none))

-- by the numbers alone
same_numbers : (n : Numbered) (row : ℕ) (t : Taken) (o : Object) → numbers_fit o (number_at n.places.now row) (number_at n.stamps.now row) ≡ firm.has_numbers (firm_by n row t o)
unfolding firm.has_numbers
same_numbers n row t o = refl

pub numbers_told : (n : Numbered) (row : ℕ) (t : Taken) (o : Object) (b : Bool) (slot stamp : ℕ) → slice_get n.files.now row ≡ Some t → Some o ≡ object_by t.entry → slot ≡ number_at n.places.now row → stamp ≡ number_at n.stamps.now row → b ≡ numbers_fit o slot stamp → b ≡ has_numbers n row
numbers_told n row t o b slot stamp at there place time is =
    is ∙ ap (λ (s : ℕ). numbers_fit o s stamp) place ∙ ap (numbers_fit o (number_at n.places.now row)) time ∙ same_numbers n row t o
    ∙ sym (ap (of_firm false firm.has_numbers) (firm_of_file n row t (Some o) at there))

pub fit_library : (o : Object) (b : Bool) (slot stamp : ℕ) → is_library o.kind ≡ true → stamp < 2 ^ 32 → b ≡ (slot % o.align == 0 && nat_le (slot + o.span) ADDRESS_LIMIT) → b ≡ numbers_fit o slot stamp
fit_library o b slot stamp library low is = library_is (bare o slot stamp) b library refl low is

pub fit_program : (o : Object) (b : Bool) (slot stamp : ℕ) → is_library o.kind ≡ false → b ≡ (slot == 0 && stamp == 0) → b ≡ numbers_fit o slot stamp
fit_program o b slot stamp other is = program_is (bare o slot stamp) b other refl is

-- ---- names

pub named_none : (n : Numbered) (row : ℕ) (t : Taken) → slice_get n.files.now row ≡ Some t → None ≡ object_by t.entry → false ≡ is_named_well n row
named_none n row t at none = sym (ap (of_firm false has_valid_name) (firm_of_file n row t None at none))

pub named_well : (n : Numbered) (row : ℕ) (t : Taken) (o : Object) (b : Bool) → slice_get n.files.now row ≡ Some t → Some o ≡ object_by t.entry → b ≡ is_valid_name t.name → b ≡ is_named_well n row
named_well n row t o b at there is = is ∙ sym (ap (of_firm false has_valid_name) (firm_of_file n row t (Some o) at there))

-- ---- addresses

pub windows_none : (n : Numbered) (row : ℕ) (t : Taken) → slice_get n.files.now row ≡ Some t → None ≡ object_by t.entry → windows_of n row ≡ []
windows_none n row t at none = ap (of_firm [] firm.windows_of) (firm_of_file n row t None at none)

library_window : (r : Firm) → is_library r.object.kind ≡ true → firm.windows_of r ≡ record { at = r.member.slot; size = r.object.span } ∷ []
unfolding firm.windows_of
library_window r library = rw library refl

program_windows : (r : Firm) → is_library r.object.kind ≡ false → firm.windows_of r ≡ map firm.load_window (loads r.object.segments)
unfolding firm.windows_of
program_windows r other = rw other refl

pub windows_library : (n : Numbered) (row : ℕ) (t : Taken) (o : Object) (slot : ℕ) → slice_get n.files.now row ≡ Some t → Some o ≡ object_by t.entry → is_library o.kind ≡ true → slot ≡ number_at n.places.now row → windows_of n row ≡ record { at = slot; size = o.span } ∷ []
windows_library n row t o slot at there library place =
    ap (of_firm [] firm.windows_of) (firm_of_file n row t (Some o) at there) ∙ library_window (firm_by n row t o) library
    ∙ ap (λ (s : ℕ). record { at = s; size = o.span } ∷ []) (sym place)

pub windows_program : (n : Numbered) (row : ℕ) (t : Taken) (o : Object) → slice_get n.files.now row ≡ Some t → Some o ≡ object_by t.entry → is_library o.kind ≡ false → windows_of n row ≡ map firm.load_window (loads o.segments)
windows_program n row t o at there other = ap (of_firm [] firm.windows_of) (firm_of_file n row t (Some o) at there) ∙ program_windows (firm_by n row t o) other

-- ---- a walk

test_is : {X : Type 0} (none : X) (f : Firm → X) (n : Numbered) (row : ℕ) (r : Firm) → IsFirmAt n row r → of_firm none f (firm_at n row) ≡ f r
test_is none f n row r e = ap (of_firm none f) e

aligned_at : (n : Numbered) (row : ℕ) (r : Firm) → IsFirmAt n row r → 0 < r.object.align → IsAligned n row
aligned_at n row r e low x there = subst (λ (y : Firm). 0 < y.object.align) (same_Some r x (sym e ∙ there)) low

aligned_rows : (n : Numbered) (rows : List ℕ) (rs : List Firm) → AllZip (IsFirmAt n) rows rs → All (λ r. 0 < r.object.align) rs → All (IsAligned n) rows
aligned_rows n [] [] zip all = All-nil (IsAligned n)
aligned_rows n [] (r ∷ rs) zip all = absurd zip
aligned_rows n (row ∷ rows) [] zip all = absurd zip
aligned_rows n (row ∷ rows) (r ∷ rs) zip all =
    All-cons (IsAligned n) row rows (aligned_at n row r zip.0 (All-head (λ x. 0 < x.object.align) r rs all)) (aligned_rows n rows rs zip.1 (All-tail (λ x. 0 < x.object.align) r rs all))

pub all_aligned : (n : Numbered) (row : ℕ) → AreRows n.files.now (walk_of n row) → AreSources (firms_of n row) → All (IsAligned n) (walk_of n row)
all_aligned n row are sources = aligned_rows n (walk_of n row) (firms_of n row) (firms_zip n row are) (aligned_all (firms_of n row) sources)

-- the tests of a walk's rows are those of its members
pub set_rows : (n : Numbered) (row first : ℕ) (others : List ℕ) (r : Firm) (rs : List Firm) (numbers apart names : Bool) → walk_of n row ≡ first ∷ others → firms_of n row ≡ r ∷ rs → AreRows n.files.now (walk_of n row) → AreSources (firms_of n row)
    → numbers ≡ list_all (has_numbers n) (walk_of n row) → apart ≡ not (any_share (flat_map (windows_of n) (walk_of n row))) → names ≡ list_all (is_named_well n) others → (numbers && apart && names) ≡ firm.are_set (firms_of n row)
set_rows n row first others r rs numbers apart names walk firms are sources one two three =
    let zip = firms_zip n row are in
    let all : AllZip (IsFirmAt n) (first ∷ others) (r ∷ rs) = subst (λ (xs : List ℕ). AllZip (IsFirmAt n) xs (r ∷ rs)) walk (subst (AllZip (IsFirmAt n) (walk_of n row)) firms zip) in
    set_tests (firms_of n row) r rs numbers apart names firms sources
    (one ∙ zip_tests n (has_numbers n) firm.has_numbers (walk_of n row) (firms_of n row) (λ k m e. test_is false firm.has_numbers n k m e) zip)
    (two ∙ ap (λ (ws : List Window). not (any_share ws)) (zip_flat n (windows_of n) firm.windows_of (walk_of n row) (firms_of n row) (λ k m e. test_is [] firm.windows_of n k m e) zip))
    (three ∙ zip_tests n (is_named_well n) has_valid_name others rs (λ k m e. test_is false has_valid_name n k m e) all.1)

-- ---- what a slice pattern takes of a walk

pub rest_is : {X : Type 0} (xs : List X) → take (length xs - 1) (drop 1 xs) ≡ drop 1 xs
rest_is [] = refl
rest_is (x ∷ xs) = take_all (length (x ∷ xs) - 1) xs (omega arith)

pub rest_all : {X : Type 0} (P : X → Type 0) (xs : List X) → All P xs → All P (take (length xs - 1) (drop 1 xs))
rest_all P [] all = all
rest_all P (x ∷ xs) all = subst (All P) (sym (rest_is (x ∷ xs))) (All-tail P x xs all)

first_row : (n : Numbered) (row : ℕ) (ws : List ℕ) (ms : List Firm) (numbers apart names : Bool) → ws ≡ walk_of n row → ms ≡ firms_of n row → 1 ≤ length ws → AllZip (IsFirmAt n) ws ms → AreRows n.files.now (walk_of n row) → AreSources (firms_of n row)
    → numbers ≡ list_all (has_numbers n) ws → apart ≡ not (any_share (flat_map (windows_of n) ws)) → names ≡ list_all (is_named_well n) (take (length ws - 1) (drop 1 ws)) → (numbers && apart && names) ≡ firm.are_set (firms_of n row)
first_row n row [] ms numbers apart names is firms some zip are sources one two three = absurd (omega (arith, some))
first_row n row (w ∷ ws) [] numbers apart names is firms some zip are sources one two three = absurd zip
first_row n row (w ∷ ws) (m ∷ ms) numbers apart names is firms some zip are sources one two three =
    set_rows n row w ws m ms numbers apart names (sym is) (sym firms) are sources (one ∙ ap (list_all (has_numbers n)) is) (two ∙ ap (λ (xs : List ℕ). not (any_share (flat_map (windows_of n) xs))) is)
    (three ∙ ap (list_all (is_named_well n)) (rest_is (w ∷ ws)))

pub set_walk : (n : Numbered) (row : ℕ) (ws : List ℕ) (numbers apart names : Bool) → ws ≡ walk_of n row → 1 ≤ length ws → AreRows n.files.now (walk_of n row) → AreSources (firms_of n row)
    → numbers ≡ list_all (has_numbers n) ws → apart ≡ not (any_share (flat_map (windows_of n) ws)) → names ≡ list_all (is_named_well n) (take (length ws - 1) (drop 1 ws)) → (numbers && apart && names) ≡ firm.are_set (firms_of n row)
set_walk n row ws numbers apart names is some are sources one two three =
    first_row n row ws (firms_of n row) numbers apart names is refl some (subst (λ (xs : List ℕ). AllZip (IsFirmAt n) xs (firms_of n row)) (sym is) (firms_zip n row are)) are sources one two three

none_set : (rs : List Firm) → length rs < 1 → false ≡ firm.are_set rs
none_set rs none = sym (set_nothing rs none)

pub set_none : (n : Numbered) (row : ℕ) (ws : List ℕ) → ws ≡ walk_of n row → length ws < 1 → AreRows n.files.now (walk_of n row) → false ≡ firm.are_set (firms_of n row)
set_none n row ws is none are = none_set (firms_of n row) (omega (arith, none, ap length is, AllZip-long (IsFirmAt n) (walk_of n row) (firms_of n row) (firms_zip n row are)))
