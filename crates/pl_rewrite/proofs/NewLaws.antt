-- What is reported of a library that is made now, without reading it again.
use Rattle.std.proofs.Common.{◌≡◌, ℕ, Bool, true, false, List, ◌∷◌, Option, Some, None, Result, Ok, Err, refl, sym, ap, ◌∙◌}
use Rattle.std.specs.Prelude.{length, map, if◌then◌else◌}
use Rattle.std.proofs.lemmas.Bool.{false≢true}
use Rattle.std.proofs.lemmas.Option.{none-some}
use Rattle.pl_base.specs.Answers.{unless}
use Rattle.pl_base.proofs.AnswerLaws.{ok_same}
use Rattle.pl_cone.specs.declared.skip.Skip.{Skip}
use Rattle.pl_conflict.specs.Format.{IsPrelinkedForm, format}
use Rattle.pl_conflict.specs.Prelinked as form
use Rattle.pl_conflict.proofs.MadeLaws.{prelinked_forms}
use Rattle.pl_elf.specs.Kinds.{is_library}
use Rattle.pl_form.specs.Files.{marked_in, original_in, original_or_file, file_in, file_by}
use Rattle.pl_form.specs.Marks.{has_mark, as_file}
use Rattle.pl_form.specs.declared.fault.FileFault.TheVariants as unread
use Rattle.pl_form.specs.declared.file.Marked.{Marked}
use Rattle.pl_form.proofs.FilesLaws.{forms_are_read, nothing_else_is_read}
use Rattle.pl_cone.specs.Skipped.{skip_causes}
use Rattle.pl_cone.specs.Taken.{entry_by, entry_in, is_library_entry}
use Rattle.pl_object.specs.Reads.{reads}
use Rattle.pl_object.specs.declared.object.Object.{Object}
use Rattle.pl_object.specs.declared.refusal.Refusal.{Refusal}
use Rattle.pl_object.specs.declared.refusal.Refusal.TheVariants as refusals
use Rattle.pl_scope.specs.Members.{names}
use Rattle.pl_scope.specs.Walk.{Walked}
use Rattle.pl_scope.proofs.ClosureLaws.{walk_is}
use Rattle.law_sound.specs.Plan.{Plan, for_library, planned_in, planned_member}
use Rattle.law_sound.specs.Rule as sound
use Rattle.law_sound.specs.Rule.{Files, Member, Mark, objects, object_at, of_walk}
use Rattle.pl_rewrite.specs.Contents.{conflicts_in, count_in}
use Rattle.pl_rewrite.specs.Reports as reports
use Rattle.pl_rewrite.specs.declared.rewriting.RowState.TheVariants.{Library, Program}
use Rattle.pl_rewrite.proofs.FormLaws.{original_is}

-- ---- the kind of a file

-- what is read of a library is a library
library_kind : (bytes : List ℕ) (x : Object) → reads (original_in bytes) ≡ Ok x → is_library_entry (entry_in bytes) ≡ true → is_library x.kind ≡ true
unfolding entry_in file_in original_in
library_kind bytes x is library = by_mark (marked_in bytes) refl is library
  where
    by_object : (r : Result Object Refusal) → r ≡ Ok x → is_library_entry (entry_by (as_file r)) ≡ true → is_library x.kind ≡ true
    by_object (Ok y) e l = ap (λ (o : Object). is_library o.kind) (sym (ok_same y x e)) ∙ l
    by_object (Err (refusals.Clause number argument)) e l = absurd (false≢true l)
    by_object (Err refusals.NoMemory) e l = absurd (false≢true l)

    by_test : (marked : Bool) → reads bytes ≡ Ok x → is_library_entry (entry_by (unless marked unread.BadMark (as_file (reads bytes)))) ≡ true → is_library x.kind ≡ true
    by_test true e l = absurd (false≢true l)
    by_test false e l = by_object (reads bytes) e l

    by_mark : (o : Option Marked) → marked_in bytes ≡ o → reads (original_or_file bytes o) ≡ Ok x → is_library_entry (entry_by (file_by bytes o)) ≡ true → is_library x.kind ≡ true
    by_mark None at e l = by_test (has_mark bytes) e l
    by_mark (Some m) at e l = ap (λ (o : Object). is_library o.kind) (sym (ok_same m.object x (sym (nothing_else_is_read bytes m at).firm.accepted ∙ e))) ∙ l

-- ---- its row

-- of a form of a library with these numbers
state_is : (m : Marked) (slot stamp : ℕ) → is_library m.object.kind ≡ true → m.slot ≡ slot → m.stamp ≡ stamp → reports.state_of false m ≡ Library false slot stamp
state_is m slot stamp library first second =
    ap (λ (b : Bool). if b then Library false m.slot m.stamp else Program false (length m.conflicts)) library
    ∙ (ap (λ (s : ℕ). Library false s m.stamp) first ∙ ap (λ (s : ℕ). Library false slot s) second)

-- what the members of a walk prelink is reported by the numbers of its first name
pub library_state : (files : Files) (numbers : Plan) (n bytes file : List ℕ) → files n ≡ Some bytes → is_library_entry (entry_in bytes) ≡ true → Some file ≡ planned_in (format skip_causes) files numbers n → Library false (numbers.slot n) (numbers.stamp n) ≡ reports.state_in n false (marked_in file)
library_state files numbers n bytes file at library new = by_walk (sound.walk_in (format skip_causes) files n) refl (sym new)
  where
    member : List ℕ → Member
    member = planned_member (format skip_causes) files numbers

    by_walk : (r : Result Walked Skip) → sound.walk_in (format skip_causes) files n ≡ r → of_walk (format skip_causes) member r ≡ Some file → Library false (numbers.slot n) (numbers.stamp n) ≡ reports.state_in n false (marked_in file)
    by_walk (Err cause) walk h = absurd (none-some file h)
    by_walk (Ok ws) walk h =
        let begins = walk_is skip_causes.walk (objects (format skip_causes) files) n ws walk in
        let x : Object = begins.object in
        let given : form.prelinked (member n ∷ map member (names begins.rest)) ≡ Some file = ap (λ (vs : Walked). form.prelinked (map member (names vs))) (sym begins.is) ∙ h in
        let f : IsPrelinkedForm (member n) (map member (names begins.rest)) file = prelinked_forms (member n) (map member (names begins.rest)) file given in
        let own : reads (original_in bytes) ≡ Ok x = (original_is n (original_in bytes) x (sym (ap (object_at (format skip_causes) n) at) ∙ begins.file)).reads in
        let kind : is_library x.kind ≡ true = library_kind bytes x own library in
        let same : f.made.original ≡ original_in bytes = f.original ∙ ap (sound.original_at (format skip_causes)) at in
        let object : f.made.object ≡ x = ok_same f.made.object x (sym f.form.firm.accepted ∙ (ap reads same ∙ own)) in
        let slot : f.made.slot ≡ numbers.slot n =
        ap (λ (k : Mark). k.slot) f.mark ∙ (ap (λ (r : Result Object Skip). for_library r (numbers.slot n)) begins.file ∙ rw kind refl) in
        let stamp : f.made.stamp ≡ numbers.stamp n =
        ap (λ (k : Mark). k.stamp) f.mark ∙ (ap (λ (r : Result Object Skip). for_library r (numbers.stamp n)) begins.file ∙ rw kind refl) in
        sym (ap (reports.state_in n false) (forms_are_read file f.made f.bytes f.form)
        ∙ state_is f.made (numbers.slot n) (numbers.stamp n) (ap (λ (o : Object). is_library o.kind) object ∙ kind) slot stamp)

-- of a form of a program
program_is : (m : Marked) → is_library m.object.kind ≡ false → reports.state_of false m ≡ Program false (length m.conflicts)
program_is m other = ap (λ (b : Bool). if b then Library false m.slot m.stamp else Program false (length m.conflicts)) other

-- what the members of a program's walk prelink is reported by its conflict rows
pub program_state : (files : Files) (numbers : Plan) (n bytes file : List ℕ) (o : Object) → files n ≡ Some bytes → objects (format skip_causes) files n ≡ Ok o → is_library o.kind ≡ false → Some file ≡ planned_in (format skip_causes) files numbers n
    → Program false (conflicts_in file) ≡ reports.state_in n false (marked_in file)
program_state files numbers n bytes file o at there other new = by_walk (sound.walk_in (format skip_causes) files n) refl (sym new)
  where
    member : List ℕ → Member
    member = planned_member (format skip_causes) files numbers

    by_walk : (r : Result Walked Skip) → sound.walk_in (format skip_causes) files n ≡ r → of_walk (format skip_causes) member r ≡ Some file → Program false (conflicts_in file) ≡ reports.state_in n false (marked_in file)
    by_walk (Err cause) walk h = absurd (none-some file h)
    by_walk (Ok ws) walk h =
        let begins = walk_is skip_causes.walk (objects (format skip_causes) files) n ws walk in
        let x : Object = begins.object in
        let given : form.prelinked (member n ∷ map member (names begins.rest)) ≡ Some file = ap (λ (vs : Walked). form.prelinked (map member (names vs))) (sym begins.is) ∙ h in
        let f : IsPrelinkedForm (member n) (map member (names begins.rest)) file = prelinked_forms (member n) (map member (names begins.rest)) file given in
        let own : reads (original_in bytes) ≡ Ok x = (original_is n (original_in bytes) x (sym (ap (object_at (format skip_causes) n) at) ∙ begins.file)).reads in
        let same : f.made.original ≡ original_in bytes = f.original ∙ ap (sound.original_at (format skip_causes)) at in
        let object : f.made.object ≡ x = ok_same f.made.object x (sym f.form.firm.accepted ∙ (ap reads same ∙ own)) in
        let first : x ≡ o = ok_same x o (sym begins.file ∙ there) in
        let kind : is_library f.made.object.kind ≡ false = ap (λ (y : Object). is_library y.kind) (object ∙ first) ∙ other in
        let read : marked_in file ≡ Some f.made = forms_are_read file f.made f.bytes f.form in
        ap (λ (m : Option Marked). Program false (count_in m)) read ∙ sym (ap (reports.state_in n false) read ∙ program_is f.made kind)
