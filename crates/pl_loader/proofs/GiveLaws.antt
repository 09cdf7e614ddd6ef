-- The wanted name and its file, as far as the code has read it.
use Rattle.std.proofs.Common.{◌≡◌, ◌<◌, ◌^◌, ℕ, true, false, List, length, Option, Some, None, Result, Ok, Err, refl, sym, ap, ◌∙◌}
use Rattle.std.specs.Prelude.{MatchBool, ⊤}
use Rattle.pl_base.specs.Answers.{◌>>=◌, because}
use Rattle.pl_base.proofs.AnswerLaws.{bind_ok, ok_same, unless_ok}
use Rattle.pl_form.specs.Files.{file_in, BearsIfMarked}
use Rattle.pl_form.specs.Marks.{IsFile}
use Rattle.pl_form.specs.declared.file.File.{File}
use Rattle.pl_form.specs.declared.file.File.TheVariants.{Plain, Marked}
use Rattle.pl_elf.specs.Kinds.{is_library}
use Rattle.pl_scope.specs.Walking.{wants}
use Rattle.std.specs.Prelude.{◌&&◌}
use Rattle.std.specs.Str.{bytes_eq}
use Rattle.pl_loader.specs.Faults.{is_memory, of_file}
use Rattle.pl_loader.specs.Loading.{Loading, IsRead}
use Rattle.pl_loader.specs.Walk.{with_mark, named, loadable, read_in, entered, taken, of_wanted, give}
use Rattle.pl_loader.specs.declared.object_file.ObjectFile.{ObjectFile}
use Rattle.pl_loader.specs.declared.fault.LoadFault.{LoadFault}
use Rattle.pl_loader.specs.declared.fault.LoadFault.TheVariants.{NotThere, NotProgram}

-- there is no file
pub give_lacks : (l : Loading) (n m : List ℕ) (file : Option (List ℕ)) → Some n ≡ wants l.order → file ≡ None → m ≡ n → give l file ≡ Err (NotThere m)
unfolding taken
give_lacks l n m file is none name = rw (none, name) (ap (of_wanted l None) (sym is))

-- a file that was read
given_is : (l : Loading) (n bytes : List ℕ) (file : Option (List ℕ)) (r : Result ObjectFile LoadFault) → Some n ≡ wants l.order → file ≡ Some bytes → read_in l.name n bytes ≡ r → give l file ≡ (r >>= entered l)
unfolding taken
given_is l n bytes file r is there read = rw there (ap (of_wanted l (Some bytes)) (sym is) ∙ ap (λ (f : Result ObjectFile LoadFault). f >>= entered l) read)

-- the file is refused, or there was no memory
pub give_refused : (l : Loading) (n bytes : List ℕ) (file : Option (List ℕ)) (f : LoadFault) → Some n ≡ wants l.order → file ≡ Some bytes → MatchBool (is_memory f) ⊤ (read_in l.name n bytes ≡ Err f) → MatchBool (is_memory f) ⊤ (give l file ≡ Err f)
give_refused l n bytes file f is there refuses =
    elim (is_memory f) as (λ b. MatchBool b ⊤ (read_in l.name n bytes ≡ Err f) → MatchBool b ⊤ (give l file ≡ Err f)) [
      | true ↦ λ _. tt
      | false ↦ λ read. given_is l n bytes file (Err f) is there read
    ] refuses

-- the file was entered into the walk
pub give_entered : (l m : Loading) (n bytes : List ℕ) (f : ObjectFile) (file : Option (List ℕ)) → Some n ≡ wants l.order → file ≡ Some bytes → read_in l.name n bytes ≡ Ok f → entered l f ≡ Ok m → give l file ≡ Ok m
give_entered l m n bytes f file is there read entry = given_is l n bytes file (Ok f) is there read ∙ entry

-- the walk refuses it, or there was no memory
pub give_stopped : (l : Loading) (n bytes : List ℕ) (g : ObjectFile) (file : Option (List ℕ)) (f : LoadFault) → Some n ≡ wants l.order → file ≡ Some bytes → read_in l.name n bytes ≡ Ok g → MatchBool (is_memory f) ⊤ (entered l g ≡ Err f)
    → MatchBool (is_memory f) ⊤ (give l file ≡ Err f)
give_stopped l n bytes g file f is there read stops =
    elim (is_memory f) as (λ b. MatchBool b ⊤ (entered l g ≡ Err f) → MatchBool b ⊤ (give l file ≡ Err f)) [
      | true ↦ λ _. tt
      | false ↦ λ entry. given_is l n bytes file (Ok g) is there read ∙ entry
    ] stops

-- ---- a file as it is read

-- a plain file, or a prelinked one with its original
pub read_of : (n bytes : List ℕ) (file : File) → length bytes < 2 ^ 32 → IsFile bytes file → BearsIfMarked bytes file → IsRead (with_mark n bytes file)
read_of n bytes (Plain x) few is bears = record { size = few; object = is.1; mark = tt }
read_of n bytes (Marked m) few is bears = record { size = is.firm.few; object = is.firm.accepted; mark = record { version = m.version; form = is; bears = bears } }

with_name : (n bytes : List ℕ) (file : File) → (with_mark n bytes file).name ≡ n
with_name n bytes (Plain x) = refl
with_name n bytes (Marked m) = refl

-- a file that is read has the name
pub read_named : (name n bytes : List ℕ) (f : ObjectFile) → read_in name n bytes ≡ Ok f → f.name ≡ n
unfolding read_in named loadable
read_named name n bytes f is =
    let p = bind_ok (because (of_file n) (file_in bytes) >>= λ file. Ok (with_mark n bytes file)) (loadable name) f is in
    let q = bind_ok (because (of_file n) (file_in bytes)) (λ file. Ok (with_mark n bytes file)) p.0 p.1 in
    let u = unless_ok (bytes_eq p.0.name name && is_library p.0.object.kind) (NotProgram p.0.name) (Ok p.0) f p.2 in
    ap (λ (g : ObjectFile). g.name) (sym (ok_same p.0 f u.1)) ∙ ap (λ (g : ObjectFile). g.name) (sym (ok_same (with_mark n bytes q.0) p.0 q.2)) ∙ with_name n bytes q.0
