-- What a folder tells of the name of a file that was taken.
use Rattle.std.proofs.Common.{◌≡◌, ℕ, zero, suc, Bool, true, false, List, [], ◌∷◌, Option, Some, None, refl, sym, ap, subst, ◌∙◌, inl, inr}
use Rattle.std.specs.Prelude.{find, slice_get}
use Rattle.std.specs.List.{All, AllByRecursion, IsDistinct}
use Rattle.std.specs.Option.{option_and_then, option_map}
use Rattle.std.specs.Str.{bytes_eq}
use Rattle.std.proofs.lemmas.Bool.{cases_Bool}
use Rattle.std.proofs.lemmas.List.Elements.{All-head, All-tail}
use Rattle.std.proofs.lemmas.Option.{none-some, same_Some}
use Rattle.pl_conflict.specs.Format.{format, mark_of}
use Rattle.pl_elf.specs.declared.kind.Kind.TheVariants.{Library}
use Rattle.pl_elf.specs.declared.range.Range.{Range}
use Rattle.pl_form.specs.Files.{original_in}
use Rattle.pl_form.specs.Words.{checksum_of}
use Rattle.pl_form.specs.declared.file.Marked.{Marked}
use Rattle.pl_form.specs.declared.file.Entry.{Entry}
use Rattle.pl_object.specs.declared.object.Object.{Object}
use Rattle.pl_scope.specs.Scope.{IsAccepted}
use Rattle.pl_scope.proofs.MemberLaws.{all_at}
use Rattle.pl_scope.proofs.NameLaws.{eq_refl}
use Rattle.law_sound.specs.Rule.{mark_at, object_at, objects, original_at}
use Rattle.pl_cone.specs.Faults.{fault_in}
use Rattle.pl_cone.specs.Needs.{object_for}
use Rattle.pl_cone.specs.Skipped.{skip_causes, fault_at}
use Rattle.pl_cone.specs.Table.{faults_of}
use Rattle.pl_cone.specs.Taken.{AreTaken, IsTaken, files_in, marked_by, names_of, object_by, taken_of}
use Rattle.pl_cone.specs.declared.taken.Taken.{Taken}
use Rattle.pl_cone.proofs.EntryLaws.{IsTold, entry_told}
use Rattle.pl_cone.proofs.FaultLaws.{nothing_fault}

-- ---- one file

pub taken_entry : (region : Range) (n : List ℕ) (t : Taken) → IsTaken region t → IsTold n t.bytes t.entry
unfolding taken_of
taken_entry region n t is =
    subst (λ (e : Entry). IsTold n t.bytes e) (sym (ap (λ (s : Taken). s.entry) is.is)) (entry_told n t.bytes is.small)

pub taken_told : (region : Range) (t : Taken) → IsTaken region t → IsTold t.name t.bytes t.entry
taken_told region t is = taken_entry region t.name t is

pub taken_fault : (region : Range) (t : Taken) → IsTaken region t → t.fault ≡ fault_in region (original_in t.bytes)
unfolding taken_of
taken_fault region t is = ap (λ (s : Taken). s.fault) is.is

-- ---- a name's file is found

pub differ_at : (P : List ℕ → Type 0) (ts : List Taken) (i : ℕ) (t : Taken) → AllByRecursion P (names_of ts) → slice_get ts i ≡ Some t → P t.name
differ_at P [] i t all at = absurd (none-some t at)
differ_at P (x ∷ ts) zero t all at = subst (λ (y : Taken). P y.name) (same_Some x t at) all.0
differ_at P (x ∷ ts) (suc i) t all at = differ_at P ts i t all.1 at

-- where no name stands twice, the file of a row is found under its name
pub found_at : (ts : List Taken) (i : ℕ) (t : Taken) → IsDistinct bytes_eq (names_of ts) → slice_get ts i ≡ Some t → find (λ x. bytes_eq x.name t.name) ts ≡ Some t
unfolding IsDistinct
found_at [] i t distinct at = absurd (none-some t at)
found_at (x ∷ ts) zero t distinct at =
    let same : x ≡ t = same_Some x t at in
    let hit : bytes_eq x.name t.name ≡ true = ap (λ (y : Taken). bytes_eq y.name t.name) same ∙ eq_refl t.name in
    rw hit at
found_at (x ∷ ts) (suc i) t distinct at =
    let miss : bytes_eq x.name t.name ≡ false = differ_at (λ (n : List ℕ). bytes_eq x.name n ≡ false) ts i t distinct.0 at in
    rw miss (found_at ts i t distinct.1 at)

-- what a folder tells of the name of a row
pub record IsRow (region : Range) (ts : List Taken) (t : Taken) : Type 0 where
  pub taken : IsTaken region t
  pub file : files_in ts t.name ≡ Some t.bytes
  pub object : objects (format skip_causes) (files_in ts) t.name ≡ object_for t.name t.entry
  pub mark : mark_at (format skip_causes) (files_in ts t.name) ≡ option_map mark_of (marked_by t.entry)
  pub fault : fault_at region (files_in ts) t.name ≡ t.fault
  pub told : faults_of ts t.name ≡ t.fault
  pub sums : (m : Marked) → marked_by t.entry ≡ Some m → m.object.kind ≡ Library → checksum_of (original_at (format skip_causes) (files_in ts t.name)) ≡ m.checksum
  pub accepted : (o : Object) → object_by t.entry ≡ Some o → IsAccepted o

pub row_is : (region : Range) (ts : List Taken) (i : ℕ) (t : Taken) → AreTaken region ts → slice_get ts i ≡ Some t → IsRow region ts t
unfolding files_in faults_of
row_is region ts i t taken at =
    let is : IsTaken region t = all_at (IsTaken region) ts i t taken.each at in
    let found : find (λ (x : Taken). bytes_eq x.name t.name) ts ≡ Some t = found_at ts i t taken.distinct at in
    let file : files_in ts t.name ≡ Some t.bytes = ap (option_map (λ (x : Taken). x.bytes)) found in
    let original : original_at (format skip_causes) (files_in ts t.name) ≡ original_in t.bytes = ap (original_at (format skip_causes)) file in
    let told : IsTold t.name t.bytes t.entry = taken_told region t is in
    record {
      taken = is;
      file = file;
      object = ap (object_at (format skip_causes) t.name) file ∙ sym told.object;
      mark = ap (mark_at (format skip_causes)) file ∙ told.mark;
      fault = ap (fault_in region) original ∙ sym (taken_fault region t is);
      told = ap (option_and_then (λ (x : Taken). x.fault)) found;
      sums = λ m marked kind. ap checksum_of original ∙ told.sums m marked kind;
      accepted = told.accepted;
    }

-- ---- every name

some_same : {X : Type 0} (x y : X) → Some x ≡ Some y → x ≡ y
some_same x y h = cc

pub found_holds : {X : Type 0} (P : X → Type 0) (p : X → Bool) (xs : List X) (x : X) → All P xs → find p xs ≡ Some x → P x
found_holds P p [] x all is = cc
found_holds P p (y ∷ ys) x all is =
    elim (cases_Bool (p y)) [
      | inl is_y ↦
          let one : find p (y ∷ ys) ≡ Some y = rw is_y refl in
          subst P (some_same y x (sym one ∙ is)) (All-head P y ys all)
      | inr not_y ↦
          let rest : find p (y ∷ ys) ≡ find p ys = rw not_y refl in
          found_holds P p ys x (All-tail P y ys all) (sym rest ∙ is)
    ]

faults_by : (region : Range) (ts : List Taken) (n : List ℕ) → All (IsTaken region) ts → (found : Option Taken) → find (λ t. bytes_eq t.name n) ts ≡ found → faults_of ts n ≡ fault_at region (files_in ts) n
unfolding faults_of files_in
faults_by region ts n all None is =
    ap (option_and_then (λ (t : Taken). t.fault)) is
    ∙ sym (ap (λ (f : Option Taken). fault_in region (original_at (format skip_causes) (option_map (λ (t : Taken). t.bytes) f))) is ∙ nothing_fault region)
faults_by region ts n all (Some t) is =
    ap (option_and_then (λ (x : Taken). x.fault)) is
    ∙ (taken_fault region t (found_holds (IsTaken region) (λ (x : Taken). bytes_eq x.name n) ts t all is)
    ∙ sym (ap (λ (f : Option Taken). fault_in region (original_at (format skip_causes) (option_map (λ (x : Taken). x.bytes) f))) is))

-- the form faults of files are those of the folder
pub faults_same : (region : Range) (ts : List Taken) → AreTaken region ts → (n : List ℕ) → faults_of ts n ≡ fault_at region (files_in ts) n
faults_same region ts taken n = faults_by region ts n taken.each (find (λ t. bytes_eq t.name n) ts) refl
