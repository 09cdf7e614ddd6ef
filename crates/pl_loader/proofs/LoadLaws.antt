-- A load that goes from file to file: the files that were given, and those still to come, are the files of the walk of a name. Whoever takes the files from a folder goes by these laws.
use Rattle.std.proofs.Common.{◌≡◌, ℕ, ◌+◌, ◌<◌, List, [], ◌∷◌, ◌++◌, Option, Some, None, Result, Ok, Err, refl, sym, ap, ◌∙◌, subst, arith, map, inl, inr}
use Rattle.std.specs.Prelude.{◌⊎◌}
use Rattle.std.proofs.lemmas.List.{map_push}
use Rattle.std.proofs.lemmas.Option.{slice_get_within}
use Rattle.pl_base.specs.Answers.{◌>>=◌, because}
use Rattle.pl_base.specs.Each.{each}
use Rattle.pl_base.proofs.AnswerLaws.{because_err, because_ok, bind_err, bind_ok, ok_same}
use Rattle.pl_object.specs.declared.object.Object.{Object}
use Rattle.pl_scope.specs.Walking.{Walking, IsWalking, wants}
use Rattle.pl_scope.specs.Walk.{Walked}
use Rattle.pl_scope.specs.Walk as walk
use Rattle.pl_scope.specs.declared.constants.TheConstants.{MAX_MEMBERS}
use Rattle.pl_scope.specs.declared.fault.WalkFault.{WalkFault}
use Rattle.pl_scope.proofs.WalkLaws.{walk_begins, walk_goes_on, walk_lacks, walk_stops, walk_ends, give_given}
use Rattle.pl_loader.specs.Faults.{of_walk}
use Rattle.pl_loader.specs.Loading.{Loading}
use Rattle.pl_loader.specs.Walk.{read_in, entered, taken, of_wanted, give, with_file, begun, walk_fault, file_of, object_of, walked, files_of, files, member, IsUnderWay, IsFile}
use Rattle.pl_loader.specs.declared.object_file.ObjectFile.{ObjectFile}
use Rattle.pl_loader.specs.declared.fault.LoadFault.{LoadFault}
use Rattle.pl_loader.specs.declared.fault.LoadFault.TheVariants.{NotThere}
use Rattle.pl_loader.proofs.GiveLaws.{read_named}
use Rattle.pl_loader.proofs.StepLaws.{give_walking}

-- ---- one more result

push_step : {A B E : Type 0} (f : A → Result B E) (xs : List A) (ys bs : List B) (x z : A) (y b : B) → f z ≡ Ok b → each f (xs ++ x ∷ []) ≡ Ok (bs ++ y ∷ []) → b ∷ bs ≡ ys → each f (z ∷ (xs ++ x ∷ [])) ≡ Ok (ys ++ y ∷ [])
unfolding each
push_step {B = B} f xs ys bs x z y b first rest is = rw (first, rest) (ap (λ (zs : List B). Ok (zs ++ y ∷ [])) is)

each_push : {A B E : Type 0} (f : A → Result B E) (xs : List A) (ys : List B) (x : A) (y : B) → each f xs ≡ Ok ys → f x ≡ Ok y → each f (xs ++ x ∷ []) ≡ Ok (ys ++ y ∷ [])
unfolding each
each_push {B = B} f [] ys x y front last = rw last (ap (λ (zs : List B). Ok (zs ++ y ∷ [])) (ok_same [] ys front))
each_push f (z ∷ xs) ys x y front last =
    let p = bind_ok (f z) (λ b. each f xs >>= λ bs. Ok (b ∷ bs)) ys front in
    let q = bind_ok (each f xs) (λ bs. Ok (p.0 ∷ bs)) ys p.2 in
    push_step f xs ys q.0 x z y p.0 p.1 (each_push f xs q.0 x y q.1 last) (ok_same (p.0 ∷ q.0) ys q.2)

-- ---- one file more

-- the file was there, and its object was given to the walk
record IsEntry (l m : Loading) (n bytes : List ℕ) : Type 0 where
  pub file : ObjectFile
  pub order : Walking
  pub read : read_in l.name n bytes ≡ Ok file
  pub given : walk.give l.order file.object ≡ Ok order
  pub is : m ≡ with_file l order file

entry_is : (l m : Loading) (n bytes : List ℕ) → wants l.order ≡ Some n → give l (Some bytes) ≡ Ok m → IsEntry l m n bytes
unfolding taken entered
entry_is l m n bytes is given =
    let entry : taken l n (Some bytes) ≡ Ok m = sym (ap (of_wanted l (Some bytes)) is) ∙ given in
    let p = bind_ok (read_in l.name n bytes) (entered l) m entry in
    let q = bind_ok (because of_walk (walk.give l.order p.0.object)) (λ order. Ok (with_file l order p.0)) m p.2 in
    record {
      file = p.0;
      order = q.0;
      read = p.1;
      given = because_ok of_walk (walk.give l.order p.0.object) q.0 q.1;
      is = sym (ok_same (with_file l q.0 p.0) m q.2);
    }

not_given : (n : List ℕ) (m : Loading) → Err (NotThere n) ≡ Ok m → ⊥
not_given n m e = cc

-- one more file was given
pub give_more : (l m : Loading) (n : List ℕ) (file : Option (List ℕ)) → wants l.order ≡ Some n → give l file ≡ Ok m → m.order.given ≡ l.order.given + 1
unfolding taken
give_more l m n None is given = absurd (not_given n m (sym (ap (of_wanted l None) is) ∙ given))
give_more l m n (Some bytes) is given =
    let e = entry_is l m n bytes is given in
    ap (λ (k : Loading). k.order.given) e.is ∙ give_given l.order e.order n e.file.object is e.given

-- no more files are given than a walk has
pub wanted_below : (w : Walking) (n : List ℕ) → IsWalking w → wants w ≡ Some n → w.given < MAX_MEMBERS
wanted_below w n walking is = let within = slice_get_within w.names w.given n is in let few = walking.few in omega arith

-- ---- what `file` tells of a name

file_is : {E : Type 0} (fault : LoadFault → E) (file : List ℕ → Result (List ℕ) E) (name n bytes : List ℕ) (r : Result ObjectFile LoadFault) → file n ≡ Ok bytes → read_in name n bytes ≡ r → file_of fault file name n ≡ because fault r
unfolding file_of
file_is fault file name n bytes r there read = rw (there, read) refl

object_is : {E : Type 0} (fault : LoadFault → E) (file : List ℕ → Result (List ℕ) E) (name n bytes : List ℕ) (r : Result ObjectFile LoadFault) → file n ≡ Ok bytes → read_in name n bytes ≡ r → object_of fault file name n ≡ (because fault r >>= λ f. Ok f.object)
object_is {E} fault file name n bytes r there read = ap (λ (q : Result ObjectFile E). q >>= λ f. Ok f.object) (file_is fault file name n bytes r there read)

object_lacks : {E : Type 0} (fault : LoadFault → E) (file : List ℕ → Result (List ℕ) E) (name n : List ℕ) (e : E) → file n ≡ Err e → object_of fault file name n ≡ Err e
unfolding file_of
object_lacks fault file name n e lacks = rw lacks refl

-- ---- the load begins, goes on, stops and ends

-- no file was given yet
pub load_begins : {E : Type 0} (fault : LoadFault → E) (file : List ℕ → Result (List ℕ) E) (name : List ℕ) → IsUnderWay fault file name (begun name)
unfolding each
load_begins fault file name = record {
  named = refl;
  walking = record { within = omega arith; few = omega arith };
  walk = walk_begins (walk_fault fault) (object_of fault file name) name;
  given = refl;
}

-- the wanted name is given its file
pub load_goes_on : {E : Type 0} (fault : LoadFault → E) (file : List ℕ → Result (List ℕ) E) (name n : List ℕ) (given : Option (List ℕ)) (l m : Loading) → wants l.order ≡ Some n → IsFile fault file n given → give l given ≡ Ok m
    → IsUnderWay fault file name l → IsUnderWay fault file name m
unfolding taken
load_goes_on fault file name n None l m is there went way = absurd (not_given n m (sym (ap (of_wanted l None) is) ∙ went))
load_goes_on {E} fault file name n (Some bytes) l m is there went way =
    let e = entry_is l m n bytes is went in
    let f : ObjectFile = e.file in
    let read : read_in name n bytes ≡ Ok f = ap (λ (k : List ℕ). read_in k n bytes) (sym way.named) ∙ e.read in
    let here : file_of fault file name n ≡ Ok f = file_is fault file name n bytes (Ok f) there read in
    let object : object_of fault file name n ≡ Ok f.object = object_is fault file name n bytes (Ok f) there read in
    let members : map member (l.files ++ f ∷ []) ≡ map member l.files ++ (n, f.object) ∷ [] =
    map_push member l.files f ∙ ap (λ (k : List ℕ). map member l.files ++ (k, f.object) ∷ []) (read_named name n bytes f read) in
    let on = walk_goes_on (walk_fault fault) (object_of fault file name) name (map member l.files) l.order e.order n f.object (wanted_below l.order n way.walking is) is object e.given way.walk in
    let all = each_push (λ (m : List ℕ × Object). file_of fault file name m.0) (map member l.files) l.files (n, f.object) f way.given here in
    let more : IsUnderWay fault file name (with_file l e.order f) = record {
      named = way.named;
      walking = give_walking l.order e.order n f.object way.walking is e.given;
      walk = rw members on;
      given = rw members all;
    } in
    subst (λ (k : Loading). IsUnderWay fault file name k) (sym e.is) more

-- why a file is not taken: for itself, or for its object
entry_stops : (l : Loading) (n bytes : List ℕ) (f : LoadFault) → wants l.order ≡ Some n → give l (Some bytes) ≡ Err f
    → (read_in l.name n bytes ≡ Err f) ⊎ ((h : ObjectFile) × (read_in l.name n bytes ≡ Ok h) × ((g : WalkFault) × (walk.give l.order h.object ≡ Err g) × (of_walk g ≡ f)))
unfolding taken entered
entry_stops l n bytes f is stops =
    let entry : taken l n (Some bytes) ≡ Err f = sym (ap (of_wanted l (Some bytes)) is) ∙ stops in
    elim (bind_err (read_in l.name n bytes) (entered l) f entry) [
      | inl refused ↦ inl refused
      | inr later ↦
          inr (
            later.0,
            later.1,
            elim (bind_err (because of_walk (walk.give l.order later.0.object)) (λ order. Ok (with_file l order later.0)) f later.2) [
              | inl walks ↦ because_err of_walk (walk.give l.order later.0.object) f walks
              | inr never ↦ absurd (no _ never.2)
            ],
          )
    ]
  where
    no : (m : Loading) → Ok m ≡ Err f → ⊥
    no m e = cc

-- the wanted name has no file
pub load_lacks : {E : Type 0} (fault : LoadFault → E) (file : List ℕ → Result (List ℕ) E) (name n : List ℕ) (l : Loading) (e : E) → wants l.order ≡ Some n → file n ≡ Err e → IsUnderWay fault file name l → files fault file name ≡ Err e
unfolding files walked
load_lacks {E} fault file name n l e is lacks way =
    ap (λ (r : Result Walked E). r >>= files_of fault file name)
    (walk_lacks (walk_fault fault) (object_of fault file name) name (map member l.files) l.order n e (wanted_below l.order n way.walking is) is (object_lacks fault file name n e lacks) way.walk)

-- the wanted name's file is refused
pub load_stops : {E : Type 0} (fault : LoadFault → E) (file : List ℕ → Result (List ℕ) E) (name n : List ℕ) (given : Option (List ℕ)) (l : Loading) (f : LoadFault) → wants l.order ≡ Some n → IsFile fault file n given → give l given ≡ Err f
    → IsUnderWay fault file name l → files fault file name ≡ Err (fault f)
unfolding taken files walked
load_stops {E} fault file name n None l f is lacks stops way =
    let same : NotThere n ≡ f = err_is (Err (NotThere n)) refl (sym (ap (of_wanted l None) is) ∙ stops) in
    load_lacks fault file name n l (fault f) is (lacks ∙ ap (λ (g : LoadFault). Err (fault g)) same) way
  where
    err_is : (r : Result Loading LoadFault) → r ≡ Err (NotThere n) → r ≡ Err f → NotThere n ≡ f
    err_is r e g = cc
load_stops {E} fault file name n (Some bytes) l f is there stops way =
    let lt = wanted_below l.order n way.walking is in
    let as_named : (r : Result ObjectFile LoadFault) → read_in l.name n bytes ≡ r → read_in name n bytes ≡ r = λ r read. ap (λ (k : List ℕ). read_in k n bytes) (sym way.named) ∙ read in
    ap (λ (r : Result Walked E). r >>= files_of fault file name)
    (elim (entry_stops l n bytes f is stops) [
      | inl refused ↦
          walk_lacks (walk_fault fault) (object_of fault file name) name (map member l.files) l.order n (fault f) lt is (object_is fault file name n bytes (Err f) there (as_named (Err f) refused)) way.walk
      | inr later ↦
          walk_stops (walk_fault fault) (object_of fault file name) name (map member l.files) l.order n later.0.object later.2.0 lt is (object_is fault file name n bytes (Ok later.0) there (as_named (Ok later.0) later.1)) later.2.1 way.walk
          ∙ ap (λ (g : LoadFault). Err (fault g)) later.2.2
    ])

-- no name is wanted: the files that were given are all
pub load_ends : {E : Type 0} (fault : LoadFault → E) (file : List ℕ → Result (List ℕ) E) (name : List ℕ) (l : Loading) → wants l.order ≡ None → IsUnderWay fault file name l → files fault file name ≡ Ok l.files
unfolding files walked
load_ends {E} fault file name l is way =
    ap (λ (r : Result Walked E). r >>= files_of fault file name) (walk_ends (walk_fault fault) (object_of fault file name) name (map member l.files) l.order is way.walk) ∙ way.given
