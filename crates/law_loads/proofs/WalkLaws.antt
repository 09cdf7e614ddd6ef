-- The files of a load are those of the folder's walk.
use Rattle.std.proofs.Common.{◌≡◌, ℕ, true, List, [], ◌∷◌, map, get_or, Some, Result, Ok, refl, sym, ap, subst, ◌∙◌}
use Rattle.std.specs.List.{All, AllZip}
use Rattle.std.proofs.lemmas.List.Elements.{All-nil, All-cons, All-head, All-tail}
use Rattle.std.proofs.lemmas.Option.{slice_get-get_or}
use Rattle.pl_base.specs.Answers.{◌>>=◌, because}
use Rattle.pl_base.specs.Each.{each}
use Rattle.pl_base.proofs.AnswerLaws.{bind_ok, because_ok, ok_same}
use Rattle.pl_elf.specs.Kinds.{is_library}
use Rattle.pl_elf.specs.declared.kind.Kind.TheVariants.{Library}
use Rattle.pl_form.specs.Files.{marked_in}
use Rattle.pl_object.specs.declared.object.Object.{Object}
use Rattle.pl_scope.specs.Members.{names, has}
use Rattle.pl_scope.specs.Scope as scopes
use Rattle.pl_scope.specs.Walk.{Walked}
use Rattle.pl_scope.specs.Walk as walk
use Rattle.pl_scope.proofs.ClosureLaws.{WalkTells, walk_is}
use Rattle.pl_scope.proofs.NameLaws.{has_head, has_tail}
use Rattle.pl_scope.proofs.StepLaws.{walk_local}
use Rattle.pl_scope.proofs.WalkedLaws.{member_file}
use Rattle.law_sound.specs.Rule.{Files, object_at, original_at, objects, walk_in}
use Rattle.pl_conflict.specs.Complete.{bytes_of, file_at, files_in, originals_in, marked_conflicts}
use Rattle.pl_conflict.specs.Format.{Causes, format}
use Rattle.pl_loader.specs.Fast.{stored, conflicts_of}
use Rattle.pl_loader.specs.Loading.{objects_of, parts_of, IsLibrary, IsLoadable}
use Rattle.pl_loader.specs.Walk.{read_in, walk_fault, file_of, object_of, walked, files_of, files, member}
use Rattle.pl_loader.specs.declared.object_file.ObjectFile.{ObjectFile}
use Rattle.pl_loader.specs.declared.fault.LoadFault.{LoadFault}
use Rattle.law_loads.specs.Paths.{GivesFrom, AreTaken, walk_of}
use Rattle.law_loads.specs.Loads.{WalksAreOne}
use Rattle.law_loads.proofs.FileLaws.{IsFileOf, IsReadAs, read_as}

-- ---- one file

-- a file of a load is the folder's of its name
pub record IsTaken {F : Type 0} (causes : Causes F) (folder : Files) (name : List ℕ) (f : ObjectFile) : Type 0 where
  pub bytes : List ℕ
  pub there : folder f.name ≡ Some bytes
  pub is : IsFileOf causes f.name bytes f
  pub loadable : IsLoadable name f

-- the file of a name of the walk
record IsTakenAs {F : Type 0} (causes : Causes F) (folder : Files) (name n : List ℕ) (f : ObjectFile) : Type 0 where
  named : f.name ≡ n
  taken : IsTaken causes folder name f

taken_as : {E F : Type 0} (causes : Causes F) (folder : Files) (fault : LoadFault → E) (file : List ℕ → Result (List ℕ) E) (name n : List ℕ) (f : ObjectFile) → GivesFrom folder file → file_of fault file name n ≡ Ok f → IsTakenAs causes folder name n f
unfolding file_of
taken_as causes folder fault file name n f gives is =
    let p = bind_ok (file n) (λ bytes. because fault (read_in name n bytes)) f is in
    let r : IsReadAs causes name n p.0 f = read_as causes name n p.0 f (because_ok fault (read_in name n p.0) f p.2) in
    record {
      named = r.named;
      taken = record {
        bytes = p.0;
        there = ap folder r.named ∙ gives n p.0 p.1;
        is = subst (λ (m : List ℕ). IsFileOf causes m p.0 f) (sym r.named) r.is;
        loadable = r.loadable;
      };
    }

-- its object is the one that the format reads
pub object_there : {F : Type 0} (causes : Causes F) (folder : Files) (name : List ℕ) (f : ObjectFile) → IsTaken causes folder name f → objects (format causes) folder f.name ≡ Ok f.object
object_there causes folder name f t = ap (object_at (format causes) f.name) t.there ∙ t.is.object

-- ---- all files

abbrev IsFileAt : {E : Type 0} → (LoadFault → E) → (List ℕ → Result (List ℕ) E) → List ℕ → (List ℕ × Object) → ObjectFile → Type 0
IsFileAt fault file name m f = file_of fault file name m.0 ≡ Ok f

each_zip : {A B E : Type 0} (f : A → Result B E) (xs : List A) (ys : List B) → each f xs ≡ Ok ys → AllZip (λ x y. f x ≡ Ok y) xs ys
unfolding each
each_zip {B = B} f [] ys is = subst (λ (zs : List B). AllZip (λ x y. f x ≡ Ok y) [] zs) (ok_same [] ys is) tt
each_zip {B = B} f (x ∷ xs) ys is =
    let p = bind_ok (f x) (λ y. each f xs >>= λ zs. Ok (y ∷ zs)) ys is in
    let q = bind_ok (each f xs) (λ zs. Ok (p.0 ∷ zs)) ys p.2 in
    subst (λ (zs : List B). AllZip (λ x y. f x ≡ Ok y) (x ∷ xs) zs) (ok_same (p.0 ∷ q.0) ys q.2) (p.1, each_zip f xs q.0 q.1)

all_taken : {E F : Type 0} (causes : Causes F) (folder : Files) (fault : LoadFault → E) (file : List ℕ → Result (List ℕ) E) (name : List ℕ) (ws : Walked) (all : List ObjectFile) → GivesFrom folder file → AllZip (IsFileAt fault file name) ws all
    → All (IsTaken causes folder name) all
all_taken causes folder fault file name [] [] gives zip = All-nil (IsTaken causes folder name)
all_taken causes folder fault file name [] (f ∷ all) gives zip = absurd zip
all_taken causes folder fault file name (m ∷ ws) [] gives zip = absurd zip
all_taken causes folder fault file name (m ∷ ws) (f ∷ all) gives zip =
    All-cons (IsTaken causes folder name) f all (taken_as causes folder fault file name m.0 f gives zip.0).taken (all_taken causes folder fault file name ws all gives zip.1)

-- a member of the walk has the object of its file
abbrev HasObject : {E : Type 0} → (LoadFault → E) → (List ℕ → Result (List ℕ) E) → List ℕ → (List ℕ × Object) → Type 0
HasObject fault file name m = object_of fault file name m.0 ≡ Ok m.1

object_same : {E : Type 0} (fault : LoadFault → E) (file : List ℕ → Result (List ℕ) E) (name n : List ℕ) (o : Object) (f : ObjectFile) → object_of fault file name n ≡ Ok o → file_of fault file name n ≡ Ok f → f.object ≡ o
object_same {E} fault file name n o f object is =
    ok_same f.object o (sym (ap (λ (r : Result ObjectFile E). r >>= λ g. Ok g.object) is) ∙ object)

pair_same : (a b : List ℕ) (x y : Object) → a ≡ b → x ≡ y → ◌≡◌ {A = List ℕ × Object} (a, x) (b, y)
pair_same a b x y e f = rw (e, f) refl

members_are : {E F : Type 0} (causes : Causes F) (folder : Files) (fault : LoadFault → E) (file : List ℕ → Result (List ℕ) E) (name : List ℕ) (ws : Walked) (all : List ObjectFile) → GivesFrom folder file → AllZip (IsFileAt fault file name) ws all
    → All (HasObject fault file name) ws → ws ≡ walk_of all
members_are causes folder fault file name [] [] gives zip have = refl
members_are causes folder fault file name [] (f ∷ all) gives zip have = absurd zip
members_are causes folder fault file name (m ∷ ws) [] gives zip have = absurd zip
members_are causes folder fault file name (m ∷ ws) (f ∷ all) gives zip have =
    let object : f.object ≡ m.1 = object_same fault file name m.0 m.1 f (All-head (HasObject fault file name) m ws have) zip.0 in
    let named : f.name ≡ m.0 = (taken_as causes folder fault file name m.0 f gives zip.0).named in
    let rest : ws ≡ walk_of all = members_are causes folder fault file name ws all gives zip.1 (All-tail (HasObject fault file name) m ws have) in
    ap (λ (p : List ℕ × Object). p ∷ ws) (pair_same m.0 f.name m.1 f.object (sym named) (sym object)) ∙ ap (λ (qs : Walked). member f ∷ qs) rest

-- ---- the walk

pub record IsFolderWalk {F : Type 0} (causes : Causes F) (folder : Files) (name : List ℕ) (all : List ObjectFile) : Type 0 where
  pub walks : walk_in (format causes) folder name ≡ Ok (walk_of all)
  pub taken : All (IsTaken causes folder name) all

same_object : {E F : Type 0} (causes : Causes F) (folder : Files) (fault : LoadFault → E) (file : List ℕ → Result (List ℕ) E) (name n : List ℕ) (o : Object) → GivesFrom folder file → object_of fault file name n ≡ Ok o → objects (format causes) folder n ≡ Ok o
same_object causes folder fault file name n o gives is =
    let p = bind_ok (file_of fault file name n) (λ f. Ok f.object) o is in
    let t = taken_as causes folder fault file name n p.0 gives p.1 in
    subst (λ (m : List ℕ). objects (format causes) folder m ≡ Ok o) t.named
    (object_there causes folder name p.0 t.taken ∙ ap (λ (x : Object). Ok x) (ok_same p.0.object o p.2))

pub folder_walk : {E F : Type 0} (causes : Causes F) (folder : Files) (fault : LoadFault → E) (file : List ℕ → Result (List ℕ) E) (name : List ℕ) (all : List ObjectFile) → AreTaken folder fault file name all → IsFolderWalk causes folder name all
unfolding files walked
folder_walk causes folder fault file name all is =
    let p = bind_ok (walk.walk (walk_fault fault) (object_of fault file name) name) (files_of fault file name) all is.walked in
    let zip = each_zip (λ m. file_of fault file name m.0) p.0 all p.2 in
    let have : All (HasObject fault file name) p.0 =
    λ k d lt. member_file (walk_fault fault) (object_of fault file name) name p.0 p.1 k (get_or p.0 k d) (slice_get-get_or p.0 k d lt) in
    let same : p.0 ≡ walk_of all = members_are causes folder fault file name p.0 all is.gives zip have in
    let over : walk_in (format causes) folder name ≡ Ok p.0 =
    walk_local (walk_fault fault) causes.walk (object_of fault file name) (objects (format causes) folder) name p.0 p.1 (λ m o t object. same_object causes folder fault file name m o is.gives object) in
    record {
      walks = over ∙ ap (λ (ws : Walked). Ok ws) same;
      taken = all_taken causes folder fault file name p.0 all is.gives zip;
    }

-- the first is the loaded name's
pub record Begins {F : Type 0} (causes : Causes F) (folder : Files) (name : List ℕ) (all : List ObjectFile) : Type 0 where
  pub program : ObjectFile
  pub libraries : List ObjectFile
  pub is : all ≡ program ∷ libraries
  pub named : program.name ≡ name
  pub first : IsTaken causes folder name program
  pub others : All (IsTaken causes folder name) libraries
  pub kinds : All IsLibrary libraries

libraries_are : {F : Type 0} (causes : Causes F) (folder : Files) (name : List ℕ) (fs : List ObjectFile) → All (IsTaken causes folder name) fs
    → ((k : List ℕ) (o : Object) → has (names (walk_of fs)) k ≡ true → objects (format causes) folder k ≡ Ok o → o.kind ≡ Library) → All IsLibrary fs
libraries_are causes folder name [] taken kinds = All-nil IsLibrary
libraries_are causes folder name (f ∷ fs) taken kinds =
    let here = object_there causes folder name f (All-head (IsTaken causes folder name) f fs taken) in
    All-cons IsLibrary f fs (ap is_library (kinds f.name f.object (has_head f.name (names (walk_of fs))) here))
    (libraries_are causes folder name fs (All-tail (IsTaken causes folder name) f fs taken) (λ k o t is. kinds k o (has_tail f.name k (names (walk_of fs)) t) is))

abbrev name_first : List ℕ → Walked → List ℕ
name_first n [] = n
name_first n (p ∷ ws) = p.0

first_name : (a b : List ℕ) (x y : Object) (vs ws : Walked) → ◌≡◌ {A = Walked} ((a, x) ∷ vs) ((b, y) ∷ ws) → a ≡ b
first_name a b x y vs ws e = ap (name_first a) e

later : (a b : List ℕ) (x y : Object) (vs ws : Walked) → ◌≡◌ {A = Walked} ((a, x) ∷ vs) ((b, y) ∷ ws) → vs ≡ ws
later a b x y vs ws e = cc

no_members : (p : List ℕ × Object) (ws : Walked) → ◌≡◌ {A = Walked} [] (p ∷ ws) → ⊥
no_members p ws e = cc

pub begins : {F : Type 0} (causes : Causes F) (folder : Files) (name : List ℕ) (all : List ObjectFile) → IsFolderWalk causes folder name all → Begins causes folder name all
begins causes folder name [] w =
    let t : WalkTells (objects (format causes) folder) name (walk_of []) = walk_is causes.walk (objects (format causes) folder) name (walk_of []) w.walks in
    absurd (no_members (name, t.object) t.rest t.is)
begins causes folder name (f ∷ fs) w =
    let t : WalkTells (objects (format causes) folder) name (walk_of (f ∷ fs)) = walk_is causes.walk (objects (format causes) folder) name (walk_of (f ∷ fs)) w.walks in
    let rest : walk_of fs ≡ t.rest = later f.name name f.object t.object (walk_of fs) t.rest t.is in
    let others = All-tail (IsTaken causes folder name) f fs w.taken in
    record {
      program = f;
      libraries = fs;
      is = refl;
      named = first_name f.name name f.object t.object (walk_of fs) t.rest t.is;
      first = All-head (IsTaken causes folder name) f fs w.taken;
      others = others;
      kinds = libraries_are causes folder name fs others
          (subst (λ (ws : Walked). (k : List ℕ) (o : Object) → has (names ws) k ≡ true → objects (format causes) folder k ≡ Ok o → o.kind ≡ Library) (sym rest) t.libraries);
    }

-- ---- the files of the walk

objects_same : (all : List ObjectFile) → scopes.objects (walk_of all) ≡ objects_of all
objects_same [] = refl
objects_same (f ∷ all) = ap (λ (os : List Object). f.object ∷ os) (objects_same all)

originals_same : {F : Type 0} (causes : Causes F) (folder : Files) (name : List ℕ) (all : List ObjectFile) → All (IsTaken causes folder name) all → originals_in causes folder (walk_of all) ≡ parts_of all
originals_same causes folder name [] taken = refl
originals_same causes folder name (f ∷ all) taken =
    let t = All-head (IsTaken causes folder name) f all taken in
    let here : original_at (format causes) (folder f.name) ≡ f.bytes = ap (original_at (format causes)) t.there ∙ t.is.original in
    let rest = originals_same causes folder name all (All-tail (IsTaken causes folder name) f all taken) in
    ap (λ (o : List ℕ). o ∷ originals_in causes folder (walk_of all)) here ∙ ap (λ (os : List (List ℕ)). f.bytes ∷ os) rest

files_same : {F : Type 0} (causes : Causes F) (folder : Files) (name : List ℕ) (all : List ObjectFile) → All (IsTaken causes folder name) all → files_in folder (walk_of all) ≡ map stored all
files_same causes folder name [] taken = refl
files_same causes folder name (f ∷ all) taken =
    let t = All-head (IsTaken causes folder name) f all taken in
    let here : file_at folder f.name ≡ stored f = ap bytes_of t.there ∙ t.is.stored in
    let rest = files_same causes folder name all (All-tail (IsTaken causes folder name) f all taken) in
    ap (λ (o : List ℕ). o ∷ files_in folder (walk_of all)) here ∙ ap (λ (os : List (List ℕ)). stored f ∷ os) rest

rows_same : {F : Type 0} (causes : Causes F) (folder : Files) (name : List ℕ) (all : List ObjectFile) → Begins causes folder name all → marked_conflicts (marked_in (file_at folder name)) ≡ conflicts_of all
unfolding conflicts_of
rows_same causes folder name all b =
    let t = b.first in
    let file : file_at folder name ≡ t.bytes = ap (file_at folder) (sym b.named) ∙ ap bytes_of t.there in
    ap (λ (xs : List ℕ). marked_conflicts (marked_in xs)) file ∙ t.is.rows ∙ sym (ap conflicts_of b.is)

pub walks_are_one : {E F : Type 0} → WalksAreOne E F
walks_are_one causes folder fault file name all is =
    let w = folder_walk causes folder fault file name all is in
    record {
      walks = w.walks;
      objects = objects_same all;
      originals = originals_same causes folder name all w.taken;
      files = files_same causes folder name all w.taken;
      rows = rows_same causes folder name all (begins causes folder name all w);
    }
