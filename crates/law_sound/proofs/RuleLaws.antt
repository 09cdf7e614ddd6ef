-- The rule at a name looks at the members of its walk alone.
use Rattle.std.proofs.Common.{◌≡◌, ℕ, true, List, [], ◌∷◌, Option, Some, Result, Ok, refl, sym, ap, ◌∙◌, inl, inr}
use Rattle.std.specs.Prelude.{◌⊎◌, map}
use Rattle.std.specs.Option.{is_some}
use Rattle.pl_object.specs.declared.object.Object.{Object}
use Rattle.pl_elf.specs.declared.kind.Kind.TheVariants.{Library}
use Rattle.pl_scope.specs.Walk.{Walked}
use Rattle.pl_scope.specs.Members.{names, others, has}
use Rattle.law_sound.specs.Rule.{Mark, Format, IsFormat, Files, object_at, mark_at, member_at, row_at, objects, walk_in, of_walk, prelinked_in}
use Rattle.law_sound.proofs.Matching.{Matches, RuleAt}
use Rattle.pl_scope.proofs.NameLaws.{has_head, has_tail, has_step, has_rest, has_first}
use Rattle.pl_scope.proofs.StepLaws.{walk_local}
use Rattle.pl_scope.proofs.ClosureLaws.{WalkTells, walk_is, MemberWalk, member_walk}
use Rattle.pl_scope.specs.Members.{IsLinked}

pub map_same : {B : Type 0} (f g : List ℕ → B) (ns : List (List ℕ)) → ((m : List ℕ) → has ns m ≡ true → f m ≡ g m) → map f ns ≡ map g ns
map_same f g [] same = refl
map_same {B = B} f g (n ∷ ns) same = rw (same n (has_head n ns), map_same f g ns (λ m t. same m (has_tail n m ns t))) refl

-- members are the first or others
pub is_other : {E : Type 0} (files : List ℕ → Result Object E) (n m : List ℕ) (ws : Walked) → WalkTells files n ws → has (names ws) m ≡ true → (n ≡ m) ⊎ (has (others ws) m ≡ true)
is_other files n m ws i t = elim (has_step ws i.rest n m i.object i.is t) [ inl e ↦ inl e | inr r ↦ inr (rw i.is r) ]

pub other_is : {E : Type 0} (files : List ℕ → Result Object E) (n m : List ℕ) (ws : Walked) → WalkTells files n ws → has (others ws) m ≡ true → has (names ws) m ≡ true
other_is files n m ws i t = has_rest ws i.rest n m i.object i.is (rw i.is at t)

pub first_is : {E : Type 0} (files : List ℕ → Result Object E) (n : List ℕ) (ws : Walked) → WalkTells files n ws → has (names ws) n ≡ true
first_is files n ws i = has_first ws i.rest n i.object i.is

pub other_library : {E : Type 0} (files : List ℕ → Result Object E) (n m : List ℕ) (ws : Walked) (o : Object) → WalkTells files n ws → has (others ws) m ≡ true → files m ≡ Ok o → o.kind ≡ Library
other_library files n m ws o i t f = i.libraries m o (rw i.is at t) f

-- ---- where two folders agree at the members of a walk

abbrev pub AgreeOn : Files → Files → List (List ℕ) → Type 0
AgreeOn files view ns = (m : List ℕ) → has ns m ≡ true → view m ≡ files m

pub agree_objects : {E : Type 0} (f : Format E) (files view : Files) (ns : List (List ℕ)) → AgreeOn files view ns → (m : List ℕ) → has ns m ≡ true → objects f view m ≡ objects f files m
agree_objects f files view ns agree m t = ap (object_at f m) (agree m t)

pub walk_agree : {E : Type 0} (f : Format E) (files view : Files) (n : List ℕ) (ws : Walked) → walk_in f files n ≡ Ok ws → AgreeOn files view (names ws) → walk_in f view n ≡ Ok ws
walk_agree f files view n ws h agree = walk_local f.walks f.walks (objects f files) (objects f view) n ws h (λ m o t is. agree_objects f files view (names ws) agree m t ∙ is)

pub prelinked_agree : {E : Type 0} (f : Format E) (files view : Files) (n : List ℕ) (ws : Walked) → walk_in f files n ≡ Ok ws → AgreeOn files view (names ws) → prelinked_in f view n ≡ prelinked_in f files n
prelinked_agree f files view n ws h agree =
    ap (of_walk f (λ m. member_at f m (view m))) (walk_agree f files view n ws h agree)
    ∙ (ap f.prelinked (map_same (λ m. member_at f m (view m)) (λ m. member_at f m (files m)) (names ws) (λ m t. ap (member_at f m) (agree m t)))
    ∙ sym (ap (of_walk f (λ m. member_at f m (files m))) h))

-- a marked file's object is a program or a library
pub linked : {E : Type 0} (f : Format E) → IsFormat f → (files : Files) (n file : List ℕ) (k : Mark) → files n ≡ Some file → f.mark file ≡ Some k → (o : Object) → objects f files n ≡ Ok o → IsLinked o.kind
linked f laws files n file k there marked o is =
    elim (laws.kinds n file k o marked (sym (ap (object_at f n) there) ∙ is)) [ inl e ↦ inl e | inr p ↦ inr p.0 ]

-- the walk of a member of a name that matches
pub walk_within : {E : Type 0} (f : Format E) → IsFormat f → (files : Files) (n m : List ℕ) (h : Matches f files n) → has (names h.walked) m ≡ true → MemberWalk f.walks (objects f files) (names h.walked) m
walk_within f laws files n m h t = member_walk f.walks (objects f files) n m h.walked h.walks (linked f laws files n h.file h.mark h.there h.marked) t

pub matches_agree : {E : Type 0} (f : Format E) (files view : Files) (n : List ℕ) (h : Matches f files n) → AgreeOn files view (names h.walked) → Matches f view n
matches_agree f files view n h agree =
    let i : WalkTells (objects f files) n h.walked = walk_is f.walks (objects f files) n h.walked h.walks in
    let other : (m : List ℕ) → has (others h.walked) m ≡ true → view m ≡ files m = λ m t. agree m (other_is (objects f files) n m h.walked i t) in
    record {
      file = h.file;
      mark = h.mark;
      walked = h.walked;
      there = agree n (first_is (objects f files) n h.walked i) ∙ h.there;
      marked = h.marked;
      walks = walk_agree f files view n h.walked h.walks agree;
      each = λ m t. ap (λ (x : Option (List ℕ)). is_some (mark_at f x)) (other m t) ∙ h.each m t;
      list = h.list ∙ map_same (λ m. row_at f m (files m)) (λ m. row_at f m (view m)) (others h.walked) (λ m t. ap (row_at f m) (sym (other m t)));
    }

-- the rule at a name, from a folder that agrees at the members of its walk
pub rule_from : {E : Type 0} (f : Format E) → IsFormat f → (files view : Files) (n : List ℕ) (h : Matches f files n) → AgreeOn files view (names h.walked) → RuleAt f view n → (m : List ℕ) → has (names h.walked) m ≡ true → prelinked_in f files m ≡ files m
unfolding matches_agree
rule_from f laws files view n h agree rule m t =
    let w : MemberWalk f.walks (objects f files) (names h.walked) m = walk_within f laws files n m h t in
    sym (prelinked_agree f files view m w.walked w.walks (λ k s. agree k (w.subset k s))) ∙ (rule (matches_agree f files view n h agree) m t ∙ agree m t)
