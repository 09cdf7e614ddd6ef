-- A load takes all files of a walk whose members are prelinked.
use Rattle.std.proofs.Common.{◌≡◌, ℕ, Bool, true, false, List, [], ◌∷◌, Option, Some, None, Result, Ok, refl, sym, ap, subst, ◌∙◌}
use Rattle.std.specs.Prelude.{◌&&◌}
use Rattle.std.specs.Option.{is_some, option_map}
use Rattle.std.specs.Str.{bytes_eq}
use Rattle.std.proofs.lemmas.Bool.{false≢true}
use Rattle.pl_base.specs.Answers.{◌>>=◌, because, unless}
use Rattle.pl_base.specs.Each.{each}
use Rattle.pl_base.proofs.AnswerLaws.{ok_same}
use Rattle.pl_conflict.specs.Format.{Causes, format, mark_in, mark_of, read_original}
use Rattle.pl_conflict.proofs.FormatLaws.{read_is}
use Rattle.pl_elf.specs.Kinds.{is_library}
use Rattle.pl_form.specs.Files as form
use Rattle.pl_form.specs.Files.{marked_in, original_or_file, original_in, file_by}
use Rattle.pl_form.specs.Marks.{IsFormOf}
use Rattle.pl_form.specs.declared.file.File.{File}
use Rattle.pl_form.specs.declared.file.File.TheVariants as files
use Rattle.pl_form.specs.declared.file.Marked.{Marked}
use Rattle.pl_form.proofs.FilesLaws.{nothing_else_is_read}
use Rattle.pl_loader.specs.Faults as faults
use Rattle.pl_loader.specs.Walk as load
use Rattle.pl_loader.specs.Walk.{file_of, files_of, loadable, object_of, read_in, walk_fault, with_mark}
use Rattle.pl_loader.specs.declared.object_file.ObjectFile.{ObjectFile}
use Rattle.pl_loader.specs.declared.fault.LoadFault.{LoadFault}
use Rattle.pl_loader.specs.declared.fault.LoadFault.TheVariants.{NotProgram}
use Rattle.pl_object.specs.Reads.{reads}
use Rattle.pl_object.specs.declared.object.Object.{Object}
use Rattle.law_loads.specs.Paths.{AreTaken, GivesFrom}
use Rattle.pl_scope.specs.Members.{has, names}
use Rattle.pl_scope.specs.Walk.{Walked}
use Rattle.pl_scope.specs.Walk as walk
use Rattle.pl_scope.proofs.NameLaws.{has_head, has_tail, same_name}
use Rattle.pl_scope.proofs.StepLaws.{walk_local, walk_there}
use Rattle.law_sound.specs.Rule.{Files, mark_at, object_at, objects, walk_in}
use Rattle.law_demo.specs.Clear.{IsProgram}

-- ---- prelinked files

-- a name has a prelinked file
pub record IsPrelinkedAt (folder : Files) (m : List ℕ) : Type 0 where
  pub file : List ℕ
  pub there : folder m ≡ Some file
  pub made : Marked
  pub is : marked_in file ≡ Some made

some_made : (file : List ℕ) → is_some (mark_in file) ≡ true → (made : Marked) × (marked_in file ≡ Some made)
unfolding mark_in
some_made file some = by_mark (marked_in file) refl some
  where
    by_mark : (o : Option Marked) → marked_in file ≡ o → is_some (option_map mark_of o) ≡ true → (made : Marked) × (marked_in file ≡ Some made)
    by_mark None is e = absurd (false≢true e)
    by_mark (Some made) is e = (made, is)

pub marked_there : {E : Type 0} (causes : Causes E) (folder : Files) (m : List ℕ) → is_some (mark_at (format causes) (folder m)) ≡ true → IsPrelinkedAt folder m
marked_there causes folder m some = by_file (folder m) refl some
  where
    by_file : (g : Option (List ℕ)) → folder m ≡ g → is_some (mark_at (format causes) g) ≡ true → IsPrelinkedAt folder m
    by_file None there e = absurd (false≢true e)
    by_file (Some file) there e = let p = some_made file e in record { file = file; there = there; made = p.0; is = p.1 }

original_is : (file : List ℕ) (made : Marked) → marked_in file ≡ Some made → original_in file ≡ made.original
unfolding original_in
original_is file made is = ap (original_or_file file) is

-- its object is the one that the format reads
pub made_object : {E : Type 0} (causes : Causes E) (folder : Files) (m : List ℕ) (o : Object) (p : IsPrelinkedAt folder m) → objects (format causes) folder m ≡ Ok o → p.made.object ≡ o
made_object causes folder m o p is =
    let here : read_original causes m (original_in p.file) ≡ Ok o = sym (ap (object_at (format causes) m) p.there) ∙ is in
    let read : reads p.made.original ≡ Ok o = subst (λ (xs : List ℕ). reads xs ≡ Ok o) (original_is p.file p.made p.is) (read_is causes m (original_in p.file) o here) in
    let of : IsFormOf p.file p.made = nothing_else_is_read p.file p.made p.is in
    ok_same p.made.object o (sym of.firm.accepted ∙ read)

-- ---- one file of a load

-- a prelinked file, as a load has it
abbrev pub made_file : List ℕ → List ℕ → Marked → ObjectFile
made_file m file made = with_mark m file (files.Marked made)

read_named : (m file : List ℕ) (made : Marked) → marked_in file ≡ Some made → load.named m file ≡ Ok (made_file m file made)
unfolding load.named form.file_in
read_named m file made is = ap (λ (o : Option Marked). because (faults.of_file m) (file_by file o) >>= λ (f : File). Ok (with_mark m file f)) is

read_whole : (name m file : List ℕ) (made : Marked) → marked_in file ≡ Some made → (bytes_eq m name && is_library made.object.kind) ≡ false → read_in name m file ≡ Ok (made_file m file made)
unfolding read_in loadable
read_whole name m file made is loads =
    ap (λ (r : Result ObjectFile LoadFault). r >>= loadable name) (read_named m file made is)
    ∙ ap (λ (b : Bool). unless b (NotProgram m) (Ok (made_file m file made))) loads

-- what `file` tells is what the folder has, of each prelinked file at least
pub record IsTold {G : Type 0} (folder : Files) (file : List ℕ → Result (List ℕ) G) : Type 0 where
  pub gives : GivesFrom folder file
  pub told : (p : List ℕ) (at : IsPrelinkedAt folder p) → file p ≡ Ok at.file

-- each member of the walk of a program is prelinked
pub record AreMembers {E : Type 0} (causes : Causes E) (folder : Files) (name : List ℕ) (ws : Walked) : Type 0 where
  pub walks : walk_in (format causes) folder name ≡ Ok ws
  pub each : (m : List ℕ) → has (names ws) m ≡ true → IsPrelinkedAt folder m
  pub program : IsProgram causes folder name

not_both : (a b : Bool) → (a ≡ true → b ≡ false) → (a && b) ≡ false
not_both true b h = h refl
not_both false b h = refl

module _ {E G : Type 0} (causes : Causes E) (folder : Files) (fault : LoadFault → G) (file : List ℕ → Result (List ℕ) G) (told : IsTold folder file) (name : List ℕ) where
  given : (m bytes : List ℕ) (made : Marked) → file m ≡ Ok bytes → marked_in bytes ≡ Some made → (bytes_eq m name && is_library made.object.kind) ≡ false → file_of fault file name m ≡ Ok (made_file m bytes made)
  unfolding file_of
  given m bytes made there is loads =
      ap (λ (r : Result (List ℕ) G). r >>= λ xs. because fault (read_in name m xs)) there
      ∙ ap (because fault) (read_whole name m bytes made is loads)

  -- a member's file, as a load has it, with the member's object
  record IsGiven (m : List ℕ) : Type 0 where
    taken : ObjectFile
    given : file_of fault file name m ≡ Ok taken
    object : (o : Object) → objects (format causes) folder m ≡ Ok o → taken.object ≡ o

  module _ (ws : Walked) (are : AreMembers causes folder name ws) where
    member_given : (m : List ℕ) → has (names ws) m ≡ true → IsGiven m
    member_given m there =
        let p = are.each m there in
        let found : (o : Object) × (objects (format causes) folder m ≡ Ok o) = walk_there causes.walk (objects (format causes) folder) name ws are.walks m there in
        let same : p.made.object ≡ found.0 = made_object causes folder m found.0 p found.1 in
        let loads : (bytes_eq m name && is_library p.made.object.kind) ≡ false = not_both (bytes_eq m name) (is_library p.made.object.kind) (λ hit.
        ap (λ (o : Object). is_library o.kind) same ∙ are.program found.0 (subst (λ (k : List ℕ). objects (format causes) folder k ≡ Ok found.0) (same_name m name hit) found.1)) in
        record {
          taken = made_file m p.file p.made;
          given = given m p.file p.made (told.told m p) p.is loads;
          object = λ o is. made_object causes folder m o p is;
        }

    all_given : (vs : Walked) → ((m : List ℕ) → has (names vs) m ≡ true → IsGiven m) → (all : List ObjectFile) × (files_of fault file name vs ≡ Ok all)
    unfolding each
    all_given [] have = ([], refl)
    all_given (p ∷ vs) have =
        let first = have p.0 (has_head p.0 (names vs)) in
        let rest = all_given vs (λ m there. have m (has_tail p.0 m (names vs) there)) in (
          first.taken ∷ rest.0,
          ap (λ (r : Result ObjectFile G). r >>= λ f. each (λ m. file_of fault file name m.0) vs >>= λ fs. Ok (f ∷ fs)) first.given
              ∙ ap (λ (r : Result (List ObjectFile) G). r >>= λ fs. Ok (first.taken ∷ fs)) rest.1,
        )

    walk_given : walk.walk (walk_fault fault) (object_of fault file name) name ≡ Ok ws
    walk_given = walk_local causes.walk (walk_fault fault) (objects (format causes) folder) (object_of fault file name) name ws are.walks (λ m o there is.
        let g = member_given m there in
        ap (λ (r : Result ObjectFile G). r >>= λ f. Ok f.object) g.given ∙ ap (λ (x : Object). Ok x) (g.object o is))

    -- so all of them are taken
    pub load_takes : (all : List ObjectFile) × AreTaken folder fault file name all
    unfolding load.files load.walked
    load_takes =
        let all = all_given ws member_given in (
          all.0,
          record {
            gives = told.gives;
            walked = ap (λ (r : Result Walked G). r >>= files_of fault file name) walk_given ∙ all.1;
          },
        )
