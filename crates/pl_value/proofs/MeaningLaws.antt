-- The meanings of a scope row by row.
use Rattle.std.proofs.Common.{◌≡◌, ℕ, List, [], ◌∷◌, Result, Ok, sym, ap, subst, ◌∙◌}
use Rattle.std.specs.List.{All, AllZip}
use Rattle.std.proofs.lemmas.List.Elements.{All-nil, All-cons, All-head, All-tail}
use Rattle.pl_base.specs.Each.{each}
use Rattle.pl_base.proofs.AnswerLaws.{bind_ok}
use Rattle.pl_tls.specs.declared.module.Module.{Module}
use Rattle.pl_object.specs.declared.object.Object.{Object}
use Rattle.pl_value.specs.Values.{value_of}
use Rattle.pl_value.specs.Meanings.{Row, rows, given, meaning, meanings}
use Rattle.pl_value.specs.declared.meaning.Meaning.{Meaning}
use Rattle.pl_value.specs.declared.word.Word.{Word}

-- each result is its row's
pub each_zip : {A B E : Type 0} (f : A → Result B E) (xs : List A) (ys : List B) → each f xs ≡ Ok ys → AllZip (λ x y. f x ≡ Ok y) xs ys
unfolding each
each_zip f [] [] e = tt
each_zip f [] (y ∷ ys) e = absurd cc
each_zip {A = A} {B = B} f (x ∷ xs) ys e =
    let first = bind_ok (f x) _ ys e in
    let rest = bind_ok (each f xs) _ ys first.2 in
    let is : first.0 ∷ rest.0 ≡ ys = cc in
    let whole : AllZip (λ (a : A) (b : B). f a ≡ Ok b) (x ∷ xs) (first.0 ∷ rest.0) = (first.1, each_zip f xs rest.0 rest.1) in
    subst (λ (zs : List B). AllZip (λ (a : A) (b : B). f a ≡ Ok b) (x ∷ xs) zs) is whole

-- what holds of the rows that others are made of
pub zip_all : {A B : Type 0} (R : A → B → Type 0) (P : A → Type 0) (Q : B → Type 0) (xs : List A) (ys : List B) → ((x : A) (y : B) → R x y → P x → Q y) → AllZip R xs ys → All P xs → All Q ys
zip_all R P Q [] [] step zip all = All-nil Q
zip_all R P Q [] (y ∷ ys) step zip all = absurd zip
zip_all R P Q (x ∷ xs) [] step zip all = absurd zip
zip_all R P Q (x ∷ xs) (y ∷ ys) step zip all =
    All-cons Q y ys (step x y zip.0 (All-head P x xs all)) (zip_all R P Q xs ys step zip.1 (All-tail P x xs all))

-- pairs for which less holds
pub zip_weaker : {A B : Type 0} (R S : A → B → Type 0) (xs : List A) (ys : List B) → ((x : A) (y : B) → R x y → S x y) → AllZip R xs ys → AllZip S xs ys
zip_weaker R S [] [] step zip = tt
zip_weaker R S [] (y ∷ ys) step zip = absurd zip
zip_weaker R S (x ∷ xs) [] step zip = absurd zip
zip_weaker R S (x ∷ xs) (y ∷ ys) step zip = (step x y zip.0, zip_weaker R S xs ys step zip.1)

-- ---- rows and what they give

-- a meaning is that of a row, whose relocation has a value
pub record IsGiven (objects : List Object) (places : List ℕ) (modules : List Module) (x : Row) (g : Meaning) : Type 0 where
  pub word : value_of objects places modules x.member x.reloc ≡ Ok g.word
  pub is : given places x g.word ≡ g

pub meaning_given : (objects : List Object) (places : List ℕ) (modules : List Module) (x : Row) (g : Meaning) → meaning objects places modules x ≡ Ok g → IsGiven objects places modules x g
unfolding meaning
meaning_given objects places modules x g e =
    let p = bind_ok (value_of objects places modules x.member x.reloc) _ g e in
    let is : given places x p.0 ≡ g = cc in
    let word : p.0 ≡ g.word = ap (λ (h : Meaning). h.word) is in
    record { word = p.1 ∙ ap (λ (w : Word). Ok w) word; is = ap (given places x) (sym word) ∙ is }

pub meanings_given : (objects : List Object) (places : List ℕ) (modules : List Module) (gs : List Meaning) → meanings objects places modules ≡ Ok gs → AllZip (IsGiven objects places modules) (rows objects) gs
unfolding meanings
meanings_given objects places modules gs e =
    zip_weaker _ (IsGiven objects places modules) (rows objects) gs (λ x g is. meaning_given objects places modules x g is)
    (each_zip (meaning objects places modules) (rows objects) gs e)
