-- Books, and folders each of whose files is good.
use Rattle.std.proofs.Common.{◌≡◌, ℕ, ◌<◌, true, false, List, [], ◌∷◌, Option, Some, None, Ok, refl, sym, ap, subst, ◌∙◌, arith, inl, inr}
use Rattle.std.specs.Prelude.{◌⊎◌, map, nat_eq}
use Rattle.std.specs.List.{All}
use Rattle.std.specs.Str.{bytes_eq}
use Rattle.std.specs.Option.{is_some}
use Rattle.std.proofs.lemmas.Bool.{cases_Bool, false≢true}
use Rattle.std.proofs.lemmas.Bool.Decides.{nat_tests}
use Rattle.std.proofs.lemmas.List.Elements.{All-head, All-tail}
use Rattle.pl_elf.specs.declared.kind.Kind.TheVariants.{Library}
use Rattle.pl_object.specs.declared.object.Object.{Object}
use Rattle.pl_scope.specs.Members.{names, others, has}
use Rattle.law_sound.specs.Rule.{Row, Mark, Format, IsFormat, Files, object_at, mark_at, stamp_of, row_at, objects}
use Rattle.law_sound.proofs.Matching.{Matches, RuleAt}
use Rattle.law_sound.proofs.Books.{Book, found, list_of, meant, Good, has_stamp, own, Keeps, IsFrom}
use Rattle.pl_scope.proofs.NameLaws.{same_name, eq_refl}
use Rattle.pl_scope.proofs.StepLaws.{walk_there}
use Rattle.pl_scope.proofs.ClosureLaws.{WalkTells, walk_is}
use Rattle.law_sound.proofs.RuleLaws.{is_other, other_library, AgreeOn, rule_from}

pub is_some_at : {X : Type 0} (o : Option X) → is_some o ≡ true → (x : X) × (o ≡ Some x)
is_some_at None h = absurd (false≢true h)
is_some_at (Some x) h = (x, refl)

-- a marked file is there
pub marked_at : {E : Type 0} (f : Format E) (file : Option (List ℕ)) → is_some (mark_at f file) ≡ true → (g : List ℕ) × (k : Mark) × (file ≡ Some g) × (f.mark g ≡ Some k)
marked_at f None h = absurd (false≢true h)
marked_at f (Some g) h = let k : (k : Mark) × (f.mark g ≡ Some k) = is_some_at (f.mark g) h in (g, k.0, refl, k.1)

-- ---- what is found in a list made of rows of members

pub found_is : (book : Book) (row : List ℕ → Row) (n : List ℕ) (ns : List (List ℕ)) → ((m : List ℕ) → (row m).name ≡ m) → has ns n ≡ true → found book n (map row ns) ≡ book n (row n).stamp
found_is book row n [] named h = absurd (false≢true h)
found_is book row n (m ∷ ns) named h =
    elim (cases_Bool (bytes_eq m n)) [
      | inl t ↦ rw (named m, t) (ap (λ (k : List ℕ). book n (row k).stamp) (same_name m n t))
      | inr t ↦ rw (named m, t) (found_is book row n ns named (rw t at h))
    ]

pub found_same : (book new : Book) (n : List ℕ) (stamp : ℕ) (rows : List Row) → ((s : ℕ) → s < stamp → new n s ≡ book n s) → All (λ r. r.stamp < stamp) rows → found new n rows ≡ found book n rows
found_same book new n stamp [] same below = refl
found_same book new n stamp (r ∷ rows) same below =
    let rest : found new n rows ≡ found book n rows = found_same book new n stamp rows same (All-tail (λ r. r.stamp < stamp) r rows below) in
    elim (cases_Bool (bytes_eq r.name n)) [
      | inl t ↦ rw t (same r.stamp (All-head (λ r. r.stamp < stamp) r rows below))
      | inr t ↦ rw t rest
    ]

-- the file itself, and other names
pub meant_itself : {E : Type 0} (f : Format E) (book : Book) (n file : List ℕ) → meant f book n file n ≡ Some file
meant_itself f book n file = rw (eq_refl n) refl

pub meant_other : {E : Type 0} (f : Format E) (book : Book) (n file m : List ℕ) → bytes_eq n m ≡ false → meant f book n file m ≡ found book m (list_of (f.mark file))
meant_other f book n file m h = rw h refl

-- ---- a folder whose marked libraries are in the book and whose marked files are good meets the rule

pub rule_from_good : {E : Type 0} (f : Format E) → IsFormat f → (book : Book) (files : Files) → ((n file : List ℕ) (k : Mark) (o : Object) → files n ≡ Some file → f.mark file ≡ Some k → f.reads n (f.original file) ≡ Ok o → o.kind ≡ Library → book n k.stamp ≡ Some file)
    → ((n file : List ℕ) (k : Mark) → files n ≡ Some file → f.mark file ≡ Some k → Good f book n file) → (n : List ℕ) → RuleAt f files n
rule_from_good f laws book files covered good n h =
    let i : WalkTells (objects f files) n h.walked = walk_is f.walks (objects f files) n h.walked h.walks in
    let list_is : list_of (f.mark h.file) ≡ map (λ m. row_at f m (files m)) (others h.walked) = ap list_of h.marked ∙ h.list in
    let agree : AgreeOn files (meant f book n h.file) (names h.walked) = λ m t.
    elim (cases_Bool (bytes_eq n m)) [
      | inl e ↦ subst (λ (k : List ℕ). meant f book n h.file k ≡ files k) (same_name n m e) (meant_itself f book n h.file ∙ sym h.there)
      | inr e ↦ elim (is_other (objects f files) n m h.walked i t) [
        | inl s ↦ absurd (false≢true (sym e ∙ (ap (λ (k : List ℕ). bytes_eq k m) s ∙ eq_refl m)))
        | inr s ↦
            let g : (g : List ℕ) × (k : Mark) × (files m ≡ Some g) × (f.mark g ≡ Some k) = marked_at f (files m) (h.each m s) in
            let o : (o : Object) × (objects f files m ≡ Ok o) = walk_there f.walks (objects f files) n h.walked h.walks m t in
            let stamp : stamp_of (mark_at f (files m)) ≡ g.1.stamp = ap (λ (x : Option (List ℕ)). stamp_of (mark_at f x)) g.2 ∙ ap stamp_of g.3 in
            meant_other f book n h.file m e ∙ (ap (found book m) list_is ∙ (found_is book (λ k. row_at f k (files k)) m (others h.walked) (λ k. refl) s
            ∙ (ap (book m) stamp ∙ (covered m g.0 g.1 o.0 g.2 g.3 (sym (ap (object_at f m) g.2) ∙ o.1) (other_library (objects f files) n m h.walked o.0 i s o.1) ∙ sym g.2))))
      ]
    ] in
    rule_from f laws files (meant f book n h.file) n h agree (good n h.file h.mark h.there h.marked)

pub rule_from_book : {E : Type 0} (f : Format E) → IsFormat f → (seen : List ℕ → List ℕ → Type 0) (book : Book) (last : ℕ) (files : Files) → Keeps f seen book last → IsFrom seen files → (n : List ℕ) → RuleAt f files n
rule_from_book f laws seen book last files keeps from =
    rule_from_good f laws book files (λ n file k o there. keeps.covered n file k o (from n file there)) (λ n file k there. keeps.good n file k (from n file there))

-- ---- a folder that meets the rule keeps its own book

pub found_own : {E : Type 0} (f : Format E) (files : Files) (n : List ℕ) (rows : List Row) → (found (own f files) n rows ≡ None) ⊎ (found (own f files) n rows ≡ files n)
found_own f files n [] = inl refl
found_own f files n (r ∷ rows) =
    elim (cases_Bool (bytes_eq r.name n)) [
      | inl t ↦ elim (cases_Bool (has_stamp (mark_at f (files n)) r.stamp)) [ inl s ↦ inr (rw (t, s) refl) | inr s ↦ inl (rw (t, s) refl) ]
      | inr t ↦ rw t (found_own f files n rows)
    ]

-- what a file means by the folder's own book, where it is marked, is what the folder holds
pub own_agrees : {E : Type 0} (f : Format E) (files : Files) (n file : List ℕ) → files n ≡ Some file → (h : Matches f (meant f (own f files) n file) n) → AgreeOn (meant f (own f files) n file) files (names h.walked)
own_agrees f files n file there h m t =
    let view : Files = meant f (own f files) n file in
    let i : WalkTells (objects f view) n h.walked = walk_is f.walks (objects f view) n h.walked h.walks in
    elim (is_other (objects f view) n m h.walked i t) [
      | inl e ↦ subst (λ (k : List ℕ). files k ≡ meant f (own f files) n file k) e (there ∙ sym (meant_itself f (own f files) n file))
      | inr s ↦ elim (cases_Bool (bytes_eq n m)) [
        | inl e ↦ subst (λ (k : List ℕ). files k ≡ meant f (own f files) n file k) (same_name n m e) (there ∙ sym (meant_itself f (own f files) n file))
        | inr e ↦ elim (found_own f files m (list_of (f.mark file))) [
          | inl none ↦ absurd (false≢true (sym (ap (λ (x : Option (List ℕ)). is_some (mark_at f x)) (meant_other f (own f files) n file m e ∙ none)) ∙ h.each m s))
          | inr is ↦ sym (meant_other f (own f files) n file m e ∙ is)
        ]
      ]
    ]

pub own_good : {E : Type 0} (f : Format E) → IsFormat f → (files : Files) (n file : List ℕ) → files n ≡ Some file → RuleAt f files n → Good f (own f files) n file
own_good f laws files n file there rule h = rule_from f laws (meant f (own f files) n file) files n h (own_agrees f files n file there h) rule

eq_test : (a : ℕ) → nat_eq a a ≡ true
eq_test a = grind (arith, nat_tests)

pub own_has : {E : Type 0} (f : Format E) (files : Files) (n file : List ℕ) (k : Mark) → files n ≡ Some file → f.mark file ≡ Some k → own f files n k.stamp ≡ files n
own_has f files n file k there marked = rw (there, marked, eq_test k.stamp) refl

-- a folder meets the rule where each of its marked files is good by the folder's own book, and only there (`own_good`)
pub rule_from_own : {E : Type 0} (f : Format E) → IsFormat f → (files : Files) → ((n file : List ℕ) (k : Mark) → files n ≡ Some file → f.mark file ≡ Some k → Good f (own f files) n file) → (n : List ℕ) → RuleAt f files n
rule_from_own f laws files good = rule_from_good f laws (own f files) files (λ n file k o there marked reads library. own_has f files n file k there marked ∙ there) good
