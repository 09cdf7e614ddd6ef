-- A whole file is undone, and is a form of one original only.
use Rattle.std.proofs.Common.{◌≡◌, ℕ, ◌+◌, ◌≤◌, true, List, [], ◌∷◌, ◌++◌, length, Option, Some, ap, ◌∙◌, arith}
use Rattle.std.specs.Prelude.{nat_le}
use Rattle.std.proofs.lemmas.Bool.Decides.{nat_tests}
use Rattle.std.proofs.lemmas.List.{length-append}
use Rattle.pl_base.specs.Windows.{Window, Agree}
use Rattle.pl_elf.specs.Headers.{header}
use Rattle.pl_undo.specs.declared.undo.Undo.{Undo}
use Rattle.pl_move.specs.Moves.{IsSlot, all_moved}
use Rattle.pl_move.specs.declared.table.Table.{Table}
use Rattle.pl_form.specs.Back.{head_windows, spot_windows, Reader, from_front, front_of, undo_section, has_undo_section, section_part, restored, back, undo_of, inserted}
use Rattle.pl_form.specs.declared.parts.Spot.{Spot}
use Rattle.pl_form.proofs.FrontLaws.{IsReadable}
use Rattle.pl_form.proofs.FrontTheorem.{front_undone}
use Rattle.pl_form.proofs.PartsLaws.{inserted_back, length-inserted}

-- Back, where the undo section is found and the front part is undone
back_is : (r : Reader) (file o : List ℕ) (u : Undo) → has_undo_section file ≡ true → r.undo (section_part (undo_section file) file) ≡ Some u → nat_le u.cut u.length ≡ true → nat_le (u.length + u.shift) (length file) ≡ true
    → from_front r u (front_of u file) ≡ Some o → back r file ≡ Some o
unfolding back restored
back_is r file o u two e f g h = rw (two, e, f, g) h

some_same : (x y : List ℕ) (a : Option (List ℕ)) → a ≡ Some x → a ≡ Some y → x ≡ y
some_same x y a e f = grind (arith, e, f)

-- no file is a form of two originals
pub one_original : (r : Reader) (file o p : List ℕ) → back r file ≡ Some o → back r file ≡ Some p → o ≡ p
one_original r file o p e f = some_same o p (back r file) e f

-- ---- the form: its front part, with the inserted bytes, and what follows

pub record IsForm (r : Reader) (file o : List ℕ) (slot cut shift : ℕ) : Type 0 where
  pub front : List ℕ
  pub more : List ℕ
  pub tail : List ℕ
  pub d : Window
  pub ts : List Table
  pub rs : List Window
  pub ps : List Spot
  pub digest : Option (List ℕ)
  pub readable : IsReadable r o d ts rs ps
  pub slot_in : IsSlot slot
  pub agrees : Agree ((head_windows (header o) ++ d ∷ []) ++ spot_windows ps) front (all_moved slot ts o)
  pub front_size : length front ≡ length o
  pub cut_in : cut ≤ length o
  pub more_size : length more ≡ shift
  pub is : file ≡ inserted cut more front ++ tail
  pub two : has_undo_section file ≡ true
  pub found : r.undo (section_part (undo_section file) file) ≡ Some (undo_of slot cut shift d ps o digest)

below_true : (m n : ℕ) → m ≤ n → nat_le m n ≡ true
below_true m n h = grind (arith, nat_tests)

-- Back of a form is its original: of a library (cut its size, nothing inserted) and of a program
pub form_undone : (r : Reader) (file o : List ℕ) (slot cut shift : ℕ) → IsForm r file o slot cut shift → back r file ≡ Some o
form_undone r file o slot cut shift f =
    let u : Undo = undo_of slot cut shift f.d f.ps o f.digest in
    let there : front_of u file ≡ f.front = ap (front_of u) f.is ∙ inserted_back cut shift (length o) f.more f.front f.tail f.front_size f.cut_in f.more_size in
    let size : length file ≡ length o + shift + length f.tail =
    ap length f.is ∙ length-append (inserted cut f.more f.front) f.tail ∙ omega (arith, length-inserted cut f.more f.front (omega (arith, f.cut_in, f.front_size)), f.front_size, f.more_size) in
    back_is r file o u f.two f.found (below_true cut (length o) f.cut_in) (below_true (length o + shift) (length file) (omega (arith, size)))
    (ap (from_front r u) there ∙ front_undone r o f.front f.d f.ts f.rs f.ps slot cut shift f.digest f.readable f.slot_in f.agrees)

-- So no file is a form of two originals.
pub one_form : (r : Reader) (file o p : List ℕ) (slot cut shift slot' cut' shift' : ℕ) → IsForm r file o slot cut shift → IsForm r file p slot' cut' shift' → o ≡ p
one_form r file o p slot cut shift slot' cut' shift' f g = one_original r file o p (form_undone r file o slot cut shift f) (form_undone r file p slot' cut' shift' g)
