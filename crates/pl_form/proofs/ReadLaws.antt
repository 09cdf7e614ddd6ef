-- What is read of a file, step by step, as far as the marks.
use Rattle.std.proofs.Common.{◌≡◌, ℕ, ◌+◌, ◌-◌, ◌^◌, ◌<◌, ◌≤◌, Bool, true, false, List, [], length, Option, Some, None, Ok, Err, refl, sym, ap, ◌∙◌, arith, inl, inr}
use Rattle.std.specs.Prelude.{nat_le, nat_lt}
use Rattle.std.specs.Str.{bytes_eq}
use Rattle.std.proofs.lemmas.Bool.{cases_Bool, and_parts, leb-true, le-leb, lt-ltb}
use Rattle.std.proofs.lemmas.Slice.Eq.{bytes_eq-Decides}
use Rattle.pl_elf.specs.Headers.{header, section_offset}
use Rattle.pl_lists.specs.Reading.{list_of, conflicts_of}
use Rattle.pl_lists.specs.declared.conflict_row.ConflictRow.{ConflictRow}
use Rattle.pl_lists.specs.declared.list_row.ListRow.{ListRow}
use Rattle.pl_object.specs.Reads.{reads}
use Rattle.pl_object.specs.declared.object.Object.{Object}
use Rattle.pl_object.specs.declared.refusal.Refusal.{Refusal}
use Rattle.pl_form.specs.Back.{◌>>=◌, has_undo_section, find_undo, restored}
use Rattle.pl_form.specs.Found.{reader, ps_of}
use Rattle.pl_undo.specs.declared.undo.Undo.{Undo}
use Rattle.pl_form.specs.Marks.{form_with}
use Rattle.pl_form.specs.Reading.{is_firm, firm_object, section_from_end, spelled, with_conflicts, library_lists, program_lists, fits, is_form, marked_by, marked_of}
use Rattle.pl_form.specs.declared.constants.TheConstants.{STORED}
use Rattle.pl_form.specs.declared.file.Marked.{Marked}
use Rattle.pl_form.specs.declared.read.Lists.{Lists}

-- ---- the original

pub no_read : (o : List ℕ) (r : Refusal) → reads o ≡ Err r → None ≡ firm_object o
unfolding firm_object
no_read o r e = elim (cases_Bool (nat_lt (length o) (2 ^ 32))) [
  | inl few ↦ rw (few, e) refl
  | inr many ↦ rw many refl
]

pub no_firm : (o : List ℕ) (x : Object) → reads o ≡ Ok x → false ≡ is_firm o x → None ≡ firm_object o
unfolding firm_object
no_firm o x e firm = elim (cases_Bool (nat_lt (length o) (2 ^ 32))) [
  | inl few ↦ rw (few, e, sym firm) refl
  | inr many ↦ rw many refl
]

pub firm_is : (o : List ℕ) (x : Object) → length o < 2 ^ 32 → reads o ≡ Ok x → true ≡ is_firm o x → Some x ≡ firm_object o
unfolding firm_object
firm_is o x few e firm = rw (lt-ltb (length o) (2 ^ 32) few, e, sym firm) refl

-- ---- sections

-- a row before the undo section's lies in the file too
pub row_in : (file : List ℕ) (rows : ℕ) → has_undo_section file ≡ true → 2 ≤ rows → section_offset (header file) ((header file).shnum - rows) + 64 ≤ length file
row_in file rows two le =
    let p = and_parts (nat_le 2 (header file).shnum) _ two in
    let q = and_parts (nat_le (section_offset (header file) ((header file).shnum - 2) + 64) (length file)) _ p.1 in
    let low = leb-true (section_offset (header file) ((header file).shnum - 2) + 64) (length file) q.0 in
    omega (arith, low, le)

-- ---- lists

pub library_found : (file : List ℕ) (list : List ListRow) → Some list ≡ spelled (list_of (section_from_end 3 file) (section_from_end 4 file)) → Some (with_conflicts list []) ≡ library_lists file
library_found file list e = ap (λ (o : Option (List ListRow)). o >>= λ l. Some (with_conflicts l [])) e

pub library_none : (file : List ℕ) → None ≡ spelled (list_of (section_from_end 3 file) (section_from_end 4 file)) → None ≡ library_lists file
library_none file e = ap (λ (o : Option (List ListRow)). o >>= λ l. Some (with_conflicts l [])) e

abbrev then_conflicts : Option (List ConflictRow) → List ListRow → Option Lists
then_conflicts c list = c >>= λ conflicts. Some (with_conflicts list conflicts)

pub program_none : (file : List ℕ) → None ≡ spelled (list_of (section_from_end 4 file) (section_from_end 5 file)) → None ≡ program_lists file
program_none file e = ap (λ (o : Option (List ListRow)). o >>= then_conflicts (spelled (conflicts_of (section_from_end 3 file)))) e

pub program_unspelled : (file : List ℕ) (list : List ListRow) → Some list ≡ spelled (list_of (section_from_end 4 file) (section_from_end 5 file)) → None ≡ spelled (conflicts_of (section_from_end 3 file)) → None ≡ program_lists file
program_unspelled file list e f =
    ap (λ (c : Option (List ConflictRow)). then_conflicts c list) f ∙ ap (λ (o : Option (List ListRow)). o >>= then_conflicts (spelled (conflicts_of (section_from_end 3 file)))) e

pub program_found : (file : List ℕ) (list : List ListRow) (conflicts : List ConflictRow) → Some list ≡ spelled (list_of (section_from_end 4 file) (section_from_end 5 file)) → Some conflicts ≡ spelled (conflicts_of (section_from_end 3 file))
    → Some (with_conflicts list conflicts) ≡ program_lists file
program_found file list conflicts e f =
    ap (λ (c : Option (List ConflictRow)). then_conflicts c list) f ∙ ap (λ (o : Option (List ListRow)). o >>= then_conflicts (spelled (conflicts_of (section_from_end 3 file)))) e

-- ---- the form

pub no_fit : (file : List ℕ) (m : Marked) (flat : List ℕ) → false ≡ fits m (ps_of m.original) (length flat) → false ≡ is_form file m flat
unfolding is_form
no_fit file m flat e = rw (sym e) refl

other_bytes : (xs ys : List ℕ) → length xs < length ys → bytes_eq xs ys ≡ false
other_bytes xs ys less = elim (cases_Bool (bytes_eq xs ys)) [
  | inl same ↦ absurd (let e : xs ≡ ys = (bytes_eq-Decides xs ys).0 same in omega (arith, less, ap length e))
  | inr other ↦ other
]

pub too_long : (file : List ℕ) (m : Marked) (flat : List ℕ) → length file ≤ STORED → STORED < length (form_with m flat) → true ≡ fits m (ps_of m.original) (length flat) → false ≡ is_form file m flat
unfolding is_form
too_long file m flat small long e =
    let other : bytes_eq file (form_with m flat) ≡ false = other_bytes file (form_with m flat) (omega (arith, small, long)) in
    rw (sym e, other) refl

pub is_compared : (file : List ℕ) (m : Marked) (flat form : List ℕ) (b : Bool) → true ≡ fits m (ps_of m.original) (length flat) → form ≡ form_with m flat → b ≡ bytes_eq file form → b ≡ is_form file m flat
unfolding is_form
is_compared file m flat form b e is same =
    let whole : is_form file m flat ≡ bytes_eq file (form_with m flat) = rw (sym e) refl in
    same ∙ ap (bytes_eq file) is ∙ sym whole

-- ---- the whole

pub there : (file : List ℕ) (u : Undo) → Some u ≡ find_undo file → has_undo_section file ≡ true
there file u e = elim (cases_Bool (has_undo_section file)) [
  | inl two ↦ two
  | inr none ↦ absurd (let no : find_undo file ≡ None = rw none refl in let bad : ◌≡◌ {A = Option Undo} (Some u) None = e ∙ no in cc)
]

pub long_file : (file : List ℕ) → STORED < length file → None ≡ marked_of file
unfolding marked_of
long_file file long = elim (cases_Bool (nat_le (length file) STORED)) [
  | inl small ↦ absurd (omega (arith, long, leb-true (length file) STORED small))
  | inr large ↦ rw large refl
]

pub no_undo : (file : List ℕ) → length file ≤ STORED → None ≡ find_undo file → None ≡ marked_of file
unfolding marked_of
no_undo file small e = rw (le-leb (length file) STORED small, sym e) refl

pub no_original : (file : List ℕ) (u : Undo) → length file ≤ STORED → Some u ≡ find_undo file → None ≡ restored reader u file → None ≡ marked_of file
unfolding marked_of
no_original file u small e f = rw (le-leb (length file) STORED small, sym e, sym f) refl

pub marked_is : (file : List ℕ) (u : Undo) (o : List ℕ) (r : Option Marked) → length file ≤ STORED → Some u ≡ find_undo file → Some o ≡ restored reader u file → r ≡ marked_by file u o → r ≡ marked_of file
unfolding marked_of
marked_is file u o r small e f is =
    let whole : marked_of file ≡ marked_by file u o = rw (le-leb (length file) STORED small, sym e, sym f) refl in
    is ∙ sym whole
