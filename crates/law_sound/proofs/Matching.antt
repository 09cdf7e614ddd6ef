-- What a test of a match means, and the rule over it.
use Rattle.std.proofs.Common.{◌≡◌, ℕ, Bool, true, false, List, [], ◌∷◌, Option, Some, None, Result, Ok, Err, refl, sym, ap, subst, ◌∙◌, arith, inl, inr}
use Rattle.std.specs.Prelude.{◌&&◌, map, nat_eq}
use Rattle.std.specs.Bool.{Decides}
use Rattle.std.specs.List.{list_all}
use Rattle.std.specs.Option.{is_some}
use Rattle.std.specs.Str.{bytes_eq}
use Rattle.std.specs.Cmp.Lexicographic.{pointwise}
use Rattle.std.proofs.lemmas.Bool.{false≢true}
use Rattle.std.proofs.lemmas.Bool.Decides.{nat_tests}
use Rattle.std.proofs.lemmas.Slice.Eq.{slice_eq-Decides, bytes_eq-Decides}
use Rattle.pl_scope.specs.Walk.{Walked}
use Rattle.pl_scope.specs.Members.{names, others, has}
use Rattle.law_sound.specs.Rule.{Row, Mark, Format, Files, mark_at, row_at, walk_in, prelinked_in, names_of, members, row_eq, is_marked, tells_walk, matches, Rule}
use Rattle.pl_scope.proofs.NameLaws.{has_head, has_tail, has_cons, same_name}

-- a marked file's list tells the other members as the folder holds them
pub record Matches {E : Type 0} (f : Format E) (files : Files) (n : List ℕ) : Type 0 where
  pub file : List ℕ
  pub mark : Mark
  pub walked : Walked
  pub there : files n ≡ Some file
  pub marked : f.mark file ≡ Some mark
  pub walks : walk_in f files n ≡ Ok walked
  pub each : (m : List ℕ) → has (others walked) m ≡ true → is_some (mark_at f (files m)) ≡ true
  pub list : mark.list ≡ map (λ m. row_at f m (files m)) (others walked)

abbrev pub RuleAt : {E : Type 0} → Format E → Files → List ℕ → Type 0
RuleAt f files n = (h : Matches f files n) → (m : List ℕ) → has (names h.walked) m ≡ true → prelinked_in f files m ≡ files m

-- ---- the test and what it means

pub and_both : (a b : Bool) → (a && b) ≡ true → (a ≡ true) × (b ≡ true)
and_both true b h = (refl, h)
and_both false b h = absurd (false≢true h)

pub both_and : (a b : Bool) → a ≡ true → b ≡ true → (a && b) ≡ true
both_and a b e h = rw (e, h) refl

pub each_all : (p : List ℕ → Bool) (ns : List (List ℕ)) → list_all p ns ≡ true → (m : List ℕ) → has ns m ≡ true → p m ≡ true
each_all p [] h m t = absurd (false≢true t)
each_all p (n ∷ ns) h m t =
    let b : (p n ≡ true) × (list_all p ns ≡ true) = and_both (p n) (list_all p ns) h in
    elim (has_cons n m ns t) [ inl e ↦ ap p (sym e) ∙ b.0 | inr r ↦ each_all p ns b.1 m r ]

pub all_each : (p : List ℕ → Bool) (ns : List (List ℕ)) → ((m : List ℕ) → has ns m ≡ true → p m ≡ true) → list_all p ns ≡ true
all_each p [] h = refl
all_each p (n ∷ ns) h = both_and (p n) (list_all p ns) (h n (has_head n ns)) (all_each p ns (λ m t. h m (has_tail n m ns t)))

equal : (x : ℕ) → nat_eq x x ≡ true
equal x = grind (arith, nat_tests)

pub row_eq_itself : (a : Row) → row_eq a a ≡ true
row_eq_itself a = both_and (bytes_eq a.name a.name) (nat_eq a.stamp a.stamp && nat_eq a.checksum a.checksum) ((bytes_eq-Decides a.name a.name).1 refl) (both_and (nat_eq a.stamp a.stamp) (nat_eq a.checksum a.checksum) (equal a.stamp) (equal a.checksum))

row_same : (a b : Row) → Decides (row_eq a b) (a ≡ b)
row_same a b = (
  λ h.
      let p : (bytes_eq a.name b.name ≡ true) × ((nat_eq a.stamp b.stamp && nat_eq a.checksum b.checksum) ≡ true) = and_both (bytes_eq a.name b.name) (nat_eq a.stamp b.stamp && nat_eq a.checksum b.checksum) h in
      let q : (nat_eq a.stamp b.stamp ≡ true) × (nat_eq a.checksum b.checksum ≡ true) = and_both (nat_eq a.stamp b.stamp) (nat_eq a.checksum b.checksum) p.1 in
      made a.name b.name a.stamp b.stamp a.checksum b.checksum (same_name a.name b.name p.0) (number a.stamp b.stamp q.0) (number a.checksum b.checksum q.1),
  λ e. subst (λ (x : Row). row_eq a x ≡ true) e (row_eq_itself a),
)
  where
    number : (x y : ℕ) → nat_eq x y ≡ true → x ≡ y
    number x y h = grind (arith, nat_tests)

    row : List ℕ → ℕ → ℕ → Row
    row n s c = record { name = n; stamp = s; checksum = c }

    made : (n m : List ℕ) (s t c d : ℕ) → n ≡ m → s ≡ t → c ≡ d → row n s c ≡ row m t d
    made n m s t c d e f g = rw (e, f, g) refl

pub tells_is : {E : Type 0} (f : Format E) (files : Files) (n : List ℕ) → matches f files n ≡ true → Matches f files n
tells_is {E = E} f files n h = of_file (files n) refl h
  where
    of_walk : (file : List ℕ) (k : Mark) (r : Result Walked E) → files n ≡ Some file → f.mark file ≡ Some k → walk_in f files n ≡ r → tells_walk f files (Some k) r ≡ true → Matches f files n
    of_walk file k (Err e) there marked is h = absurd (false≢true h)
    of_walk file k (Ok ws) there marked is h =
        let rows : List Row = map (λ m. row_at f m (files m)) (others ws) in
        let b : (list_all (is_marked f files) (others ws) ≡ true) × (pointwise row_eq k.list rows ≡ true) = and_both (list_all (is_marked f files) (others ws)) (pointwise row_eq k.list rows) h in
        record {
          file = file;
          mark = k;
          walked = ws;
          there = there;
          marked = marked;
          walks = is;
          each = each_all (is_marked f files) (others ws) b.0;
          list = (slice_eq-Decides row_same k.list rows (pointwise row_eq k.list rows) refl).0 b.1;
        }

    of_mark : (file : List ℕ) (k : Option Mark) → files n ≡ Some file → f.mark file ≡ k → tells_walk f files k (walk_in f files n) ≡ true → Matches f files n
    of_mark file None there marked h = absurd (false≢true h)
    of_mark file (Some k) there marked h = of_walk file k (walk_in f files n) there marked refl h

    of_file : (g : Option (List ℕ)) → files n ≡ g → tells_walk f files (mark_at f g) (walk_in f files n) ≡ true → Matches f files n
    of_file None there h = absurd (false≢true h)
    of_file (Some file) there h = of_mark file (f.mark file) there refl h

pub tells_back : {E : Type 0} (f : Format E) (files : Files) (n : List ℕ) → Matches f files n → matches f files n ≡ true
tells_back f files n h =
    let rows : List Row = map (λ m. row_at f m (files m)) (others h.walked) in
    ap (λ (g : Option (List ℕ)). tells_walk f files (mark_at f g) (walk_in f files n)) h.there ∙ (ap (λ (k : Option Mark). tells_walk f files k (walk_in f files n)) h.marked ∙ (ap (tells_walk f files (Some h.mark)) h.walks
    ∙ both_and (list_all (is_marked f files) (others h.walked)) (pointwise row_eq h.mark.list rows) (all_each (is_marked f files) (others h.walked) h.each) ((slice_eq-Decides row_same h.mark.list rows (pointwise row_eq h.mark.list rows) refl).1 h.list)))

-- ---- the rule

pub members_are : {E : Type 0} (f : Format E) (files : Files) (n : List ℕ) (ws : Walked) → walk_in f files n ≡ Ok ws → members f files n ≡ names ws
members_are f files n ws h = ap names_of h

pub rule_out : {E : Type 0} (f : Format E) (files : Files) → Rule f files → (n : List ℕ) → RuleAt f files n
rule_out f files rule n h m t = rule n m (tells_back f files n h) (ap (λ (ns : List (List ℕ)). has ns m) (members_are f files n h.walked h.walks) ∙ t)

pub rule_in : {E : Type 0} (f : Format E) (files : Files) → ((n : List ℕ) → RuleAt f files n) → Rule f files
rule_in f files rule n m is t =
    let h : Matches f files n = tells_is f files n is in
    rule n h m (sym (ap (λ (ns : List (List ℕ)). has ns m) (members_are f files n h.walked h.walks)) ∙ t)
