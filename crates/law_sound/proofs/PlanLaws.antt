-- Files prelinked by a plan, and current names.
use Rattle.std.proofs.Common.{◌≡◌, ℕ, Bool, true, false, List, [], ◌∷◌, Option, Some, None, Result, Ok, Err, refl, sym, ap, subst, ◌∙◌, arith, inl, inr}
use Rattle.std.specs.Prelude.{◌||◌, ◌&&◌, not, map, nat_eq, if◌then◌else◌}
use Rattle.std.specs.List.{list_all}
use Rattle.std.specs.Option.{option_or, option_map}
use Rattle.std.proofs.lemmas.Bool.{false≢true}
use Rattle.pl_object.specs.declared.object.Object.{Object}
use Rattle.pl_elf.specs.declared.kind.Kind.{Kind}
use Rattle.pl_elf.specs.declared.kind.Kind.TheVariants.{Program, Library, Static}
use Rattle.pl_elf.specs.Kinds.{is_library}
use Rattle.pl_scope.specs.Walk.{Walked}
use Rattle.pl_scope.specs.Members.{names, others, has}
use Rattle.law_sound.specs.Rule.{Row, Mark, Member, Format, IsFormat, Files, object_at, mark_at, original_at, version_of, slot_of, stamp_of, member_at, row_of, objects, walk_in, of_walk, members, matches}
use Rattle.law_sound.proofs.Matching.{Matches, RuleAt, and_both, both_and, each_all, all_each, tells_is, tells_back, members_are}
use Rattle.std.proofs.lemmas.Bool.Decides.{nat_tests}
use Rattle.law_sound.specs.Plan.{Fit, is_library_at, links_as, fits, is_candidate, at_slot, is_present, is_held, is_current, for_library, Plan, plan_of, planned_member, planned_in, all}
use Rattle.pl_scope.proofs.StepLaws.{same_ok, err_ok, walk_there, walk_local}
use Rattle.pl_scope.proofs.ClosureLaws.{WalkTells, walk_is, MemberWalk, member_walk}
use Rattle.pl_scope.specs.Members.{IsLinked}
use Rattle.law_sound.proofs.RuleLaws.{map_same, is_other, first_is, other_library, walk_within}
use Rattle.law_sound.proofs.BookLaws.{marked_at}

some_same : {X : Type 0} (x y : X) → Some x ≡ Some y → x ≡ y
some_same x y h = cc

none_some : {X : Type 0} (x : X) → None ≡ Some x → ⊥
none_some x h = cc

abbrev member_of : List ℕ → List ℕ → ℕ → ℕ → ℕ → Member
member_of n original version slot stamp = record { name = n; original = original; version = version; slot = slot; stamp = stamp }

-- ---- a file that is prelinked by a plan

pub record IsPlannedFile {E : Type 0} (f : Format E) (files : Files) (plan : Plan) (n file : List ℕ) : Type 0 where
  pub walked : Walked
  pub walks : walk_in f files n ≡ Ok walked
  pub original : f.original file ≡ original_at f (files n)
  pub mark : f.mark file ≡ Some (record { version = f.version; slot = for_library (objects f files n) (plan.slot n); stamp = for_library (objects f files n) (plan.stamp n); list = map (λ m. row_of f (planned_member f files plan m)) (others walked) })

map_map : {A B C : Type 0} (g : B → C) (h : A → B) (xs : List A) → map g (map h xs) ≡ map (λ x. g (h x)) xs
map_map g h [] = refl
map_map {C = C} g h (x ∷ xs) = ap (λ (z : List C). g (h x) ∷ z) (map_map g h xs)

pub planned_is : {E : Type 0} (f : Format E) → IsFormat f → (files : Files) (plan : Plan) (n file : List ℕ) → planned_in f files plan n ≡ Some file → IsPlannedFile f files plan n file
planned_is {E = E} f laws files plan n file h = of_result (walk_in f files n) refl h
  where
    of_result : (r : Result Walked E) → walk_in f files n ≡ r → of_walk f (planned_member f files plan) r ≡ Some file → IsPlannedFile f files plan n file
    of_result (Err e) is h = absurd (none_some file h)
    of_result (Ok ws) is h =
        let i : WalkTells (objects f files) n ws = walk_is f.walks (objects f files) n ws is in
        let made : f.prelinked (planned_member f files plan n ∷ map (planned_member f files plan) (names i.rest)) ≡ Some file = ap (λ (z : Walked). f.prelinked (map (planned_member f files plan) (names z))) (sym i.is) ∙ h in
        record {
          walked = ws;
          walks = is;
          original = laws.original (planned_member f files plan n) (map (planned_member f files plan) (names i.rest)) file made;
          mark = laws.mark (planned_member f files plan n) (map (planned_member f files plan) (names i.rest)) file made
              ∙ ap (λ (z : List Row). Some (record { version = f.version; slot = for_library (objects f files n) (plan.slot n); stamp = for_library (objects f files n) (plan.stamp n); list = z }))
              (map_map (row_of f) (planned_member f files plan) (names i.rest) ∙ ap (λ (z : Walked). map (λ m. row_of f (planned_member f files plan m)) (others z)) (sym i.is));
        }

-- what has an object is there
object_there : {E : Type 0} (f : Format E) (n : List ℕ) (file : Option (List ℕ)) (o : Object) → object_at f n file ≡ Ok o → f.reads n (original_at f file) ≡ Ok o
object_there f n None o h = absurd (err_ok (f.absent n) o h)
object_there f n (Some g) o h = h

-- it has the same object as before
pub planned_object : {E : Type 0} (f : Format E) (files view : Files) (plan : Plan) (n file : List ℕ) → IsPlannedFile f files plan n file → view n ≡ Some file → objects f files n ≡ objects f view n
planned_object f files view plan n file p there =
    let i : WalkTells (objects f files) n p.walked = walk_is f.walks (objects f files) n p.walked p.walks in
    i.file ∙ sym (ap (object_at f n) there ∙ (ap (f.reads n) p.original ∙ object_there f n (files n) i.object i.file))

-- it bears what was planned
pub planned_bears : {E : Type 0} (f : Format E) (files view : Files) (plan : Plan) (n file : List ℕ) → IsPlannedFile f files plan n file → view n ≡ Some file → member_at f n (view n) ≡ planned_member f files plan n
planned_bears f files view plan n file p there =
    ap (member_at f n) there ∙ same_member n (f.original file) (original_at f (files n)) f.version (f.mark file) (for_library (objects f files n) (plan.slot n)) (for_library (objects f files n) (plan.stamp n)) (map (λ m. row_of f (planned_member f files plan m)) (others p.walked)) p.original p.mark
  where
    same_member : (n a b : List ℕ) (version : ℕ) (k : Option Mark) (slot stamp : ℕ) (list : List Row) → a ≡ b → k ≡ Some (record { version = version; slot = slot; stamp = stamp; list = list })
        → member_of n a (version_of k) (slot_of k) (stamp_of k) ≡ member_of n b version slot stamp
    same_member n a b version k slot stamp list e h = rw (e, h) refl

-- a member whose file is planned
record IsMade {E : Type 0} (f : Format E) (files view : Files) (plan : Plan) (k : List ℕ) : Type 0 where
  file : List ℕ
  there : view k ≡ Some file
  made : planned_in f files plan k ≡ Some file

-- the rule holds at a name that matches, where each member's file is planned
pub rule_planned : {E : Type 0} (f : Format E) → IsFormat f → (files view : Files) (plan : Plan) → ((m file : List ℕ) (k : Mark) → view m ≡ Some file → f.mark file ≡ Some k → planned_in f files plan m ≡ Some file) → (n : List ℕ) → RuleAt f view n
rule_planned f laws files view plan made n h m t =
    let i : WalkTells (objects f view) n h.walked = walk_is f.walks (objects f view) n h.walked h.walks in
    let w : MemberWalk f.walks (objects f view) (names h.walked) m = walk_within f laws view n m h t in
    let each : (k : List ℕ) → has (names h.walked) k ≡ true → IsMade f files view plan k = λ k s.
    elim (is_other (objects f view) n k h.walked i s) [
      | inl e ↦ subst (λ (q : List ℕ). IsMade f files view plan q) e (record { file = h.file; there = h.there; made = made n h.file h.mark h.there h.marked })
      | inr o ↦ let g : (g : List ℕ) × (k' : Mark) × (view k ≡ Some g) × (f.mark g ≡ Some k') = marked_at f (view k) (h.each k o) in
          record { file = g.0; there = g.2; made = made k g.0 g.1 g.2 g.3 }
    ] in
    let plan_of : (k : List ℕ) (s : has (names w.walked) k ≡ true) → IsPlannedFile f files plan k (each k (w.subset k s)).file = λ k s. planned_is f laws files plan k (each k (w.subset k s)).file (each k (w.subset k s)).made in
    let walks : walk_in f files m ≡ Ok w.walked = walk_local f.walks f.walks (objects f view) (objects f files) m w.walked w.walks (λ k o s is. planned_object f files view plan k (each k (w.subset k s)).file (plan_of k s) (each k (w.subset k s)).there ∙ is) in
    let bears : map (λ k. member_at f k (view k)) (names w.walked) ≡ map (planned_member f files plan) (names w.walked) =
    map_same (λ k. member_at f k (view k)) (planned_member f files plan) (names w.walked) (λ k s. planned_bears f files view plan k (each k (w.subset k s)).file (plan_of k s) (each k (w.subset k s)).there) in
    ap (of_walk f (λ k. member_at f k (view k))) w.walks ∙ (ap f.prelinked bears ∙ (sym (ap (of_walk f (planned_member f files plan)) walks) ∙ ((each m t).made ∙ sym (each m t).there)))

-- ---- current names

-- a name that matches, at its planned slot if it is a library
pub record IsHeld {E : Type 0} (f : Format E) (files : Files) (slots : List ℕ → ℕ) (n : List ℕ) : Type 0 where
  pub matches : Matches f files n
  pub present : is_present f files n ≡ true
  pub slot : at_slot f files slots n ≡ true

pub record IsCurrent {E : Type 0} (f : Format E) (fit : Fit) (files : Files) (slots : List ℕ → ℕ) (n : List ℕ) : Type 0 where
  pub candidate : is_candidate f fit files n ≡ true
  pub matches : Matches f files n
  pub each : (m : List ℕ) → has (names matches.walked) m ≡ true → IsHeld f files slots m

pub current_is : {E : Type 0} (f : Format E) (fit : Fit) (files : Files) (slots : List ℕ → ℕ) (n : List ℕ) → is_current f fit files slots n ≡ true → IsCurrent f fit files slots n
current_is f fit files slots n h =
    let a : (is_candidate f fit files n ≡ true) × ((matches f files n && list_all (is_held f files slots) (members f files n)) ≡ true) = and_both (is_candidate f fit files n) (matches f files n && list_all (is_held f files slots) (members f files n)) h in
    let b : (matches f files n ≡ true) × (list_all (is_held f files slots) (members f files n) ≡ true) = and_both (matches f files n) (list_all (is_held f files slots) (members f files n)) a.1 in
    let m : Matches f files n = tells_is f files n b.0 in
    let all : list_all (is_held f files slots) (names m.walked) ≡ true = ap (list_all (is_held f files slots)) (sym (members_are f files n m.walked m.walks)) ∙ b.1 in
    record {
      candidate = a.0;
      matches = m;
      each = λ k t.
          let c : (matches f files k ≡ true) × ((is_present f files k && at_slot f files slots k) ≡ true) = and_both (matches f files k) (is_present f files k && at_slot f files slots k) (each_all (is_held f files slots) (names m.walked) all k t) in
          let d : (is_present f files k ≡ true) × (at_slot f files slots k ≡ true) = and_both (is_present f files k) (at_slot f files slots k) c.1 in
          record { matches = tells_is f files k c.0; present = d.0; slot = d.1 };
    }

pub current_back : {E : Type 0} (f : Format E) (fit : Fit) (files : Files) (slots : List ℕ → ℕ) (n : List ℕ) → IsCurrent f fit files slots n → is_current f fit files slots n ≡ true
current_back f fit files slots n c =
    let all : list_all (is_held f files slots) (members f files n) ≡ true = ap (list_all (is_held f files slots)) (members_are f files n c.matches.walked c.matches.walks)
    ∙ all_each (is_held f files slots) (names c.matches.walked) (λ k t. both_and (matches f files k) (is_present f files k && at_slot f files slots k) (tells_back f files k (c.each k t).matches) (both_and (is_present f files k) (at_slot f files slots k) (c.each k t).present (c.each k t).slot)) in
    both_and (is_candidate f fit files n) (matches f files n && list_all (is_held f files slots) (members f files n)) c.candidate (both_and (matches f files n) (list_all (is_held f files slots) (members f files n)) (tells_back f files n c.matches) all)

-- each member of a candidate's walk is a candidate
pub candidate_member : {E : Type 0} (f : Format E) (fit : Fit) (files : Files) (n m : List ℕ) (ws : Walked) → is_candidate f fit files n ≡ true → walk_in f files n ≡ Ok ws → has (names ws) m ≡ true → is_candidate f fit files m ≡ true
candidate_member {E = E} f fit files n m ws h walks t =
    let i : WalkTells (objects f files) n ws = walk_is f.walks (objects f files) n ws walks in
    let b : (list_all sound (names ws) ≡ true) × (links_as fit i.object.kind (originals ws) ≡ true) =
    and_both (list_all sound (names ws)) (links_as fit i.object.kind (originals ws)) (sym (ap (λ (r : Result Object E). fits f fit files r (walk_in f files n)) i.file ∙ ap (fits f fit files (Ok i.object)) walks) ∙ h) in
    elim (is_other (objects f files) n m ws i t) [
      | inl e ↦ ap (is_candidate f fit files) (sym e) ∙ h
      | inr s ↦
          let o : (o : Object) × (objects f files m ≡ Ok o) = walk_there f.walks (objects f files) n ws walks m t in
          let library : o.0.kind ≡ Library = other_library (objects f files) n m ws o.0 i s o.1 in
          let w : MemberWalk f.walks (objects f files) (names ws) m = member_walk f.walks (objects f files) n m ws walks (λ x e. subst (λ (y : Object). IsLinked y.kind) (same_ok i.object x (sym i.file ∙ e)) (of_kind i.object.kind (originals ws) b.1)) t in
          ap (λ (r : Result Object E). fits f fit files r (walk_in f files m)) o.1 ∙ (ap (fits f fit files (Ok o.0)) w.walks
          ∙ both_and (list_all sound (names w.walked)) (links_as fit o.0.kind (originals w.walked)) (all_each sound (names w.walked) (λ k q. each_all sound (names ws) b.0 k (w.subset k q))) (ap (λ (k : Kind). links_as fit k (originals w.walked)) library))
    ]
  where
    sound : List ℕ → Bool
    sound m = fit.is_sound (original_at f (files m))

    originals : Walked → List (List ℕ)
    originals ws = map (λ m. original_at f (files m)) (names ws)

    of_kind : (kind : Kind) (xs : List (List ℕ)) → links_as fit kind xs ≡ true → IsLinked kind
    of_kind Program xs h = inr refl
    of_kind Library xs h = inl refl
    of_kind Static xs h = absurd (false≢true h)

-- each member of a current name's walk is current
pub current_within : {E : Type 0} (f : Format E) → IsFormat f → (fit : Fit) (files : Files) (slots : List ℕ → ℕ) (n m : List ℕ) (c : IsCurrent f fit files slots n) → has (names c.matches.walked) m ≡ true → IsCurrent f fit files slots m
current_within f laws fit files slots n m c t =
    let w : MemberWalk f.walks (objects f files) (names c.matches.walked) m = walk_within f laws files n m c.matches t in
    let held : IsHeld f files slots m = c.each m t in
    let same : held.matches.walked ≡ w.walked = same_ok held.matches.walked w.walked (sym held.matches.walks ∙ w.walks) in
    record { candidate = candidate_member f fit files n m c.matches.walked c.candidate c.matches.walks t; matches = held.matches; each = λ k s. c.each k (w.subset k (ap (λ (z : Walked). has (names z) k) (sym same) ∙ s)) }

-- the planned stamps
pub current_stamp : {E : Type 0} (f : Format E) (fit : Fit) (files : Files) (slots : List ℕ → ℕ) (stamp : ℕ) (n : List ℕ) → is_current f fit files slots n ≡ true → (plan_of f fit files slots stamp).stamp n ≡ stamp_of (mark_at f (files n))
current_stamp f fit files slots stamp n h = ap (λ (b : Bool). if b then stamp_of (mark_at f (files n)) else stamp) h

pub new_stamp : {E : Type 0} (f : Format E) (fit : Fit) (files : Files) (slots : List ℕ → ℕ) (stamp : ℕ) (n : List ℕ) → is_current f fit files slots n ≡ false → (plan_of f fit files slots stamp).stamp n ≡ stamp
new_stamp f fit files slots stamp n h = ap (λ (b : Bool). if b then stamp_of (mark_at f (files n)) else stamp) h

-- a current name's file is what the plan makes: its own
pub current_same : {E : Type 0} (f : Format E) → IsFormat f → (fit : Fit) (files : Files) (slots : List ℕ → ℕ) (stamp : ℕ) (n : List ℕ) → RuleAt f files n → IsCurrent f fit files slots n → planned_in f files (plan_of f fit files slots stamp) n ≡ files n
current_same {E = E} f laws fit files slots stamp n rule c =
    let plan : Plan = plan_of f fit files slots stamp in
    let h : Matches f files n = c.matches in
    let i : WalkTells (objects f files) n h.walked = walk_is f.walks (objects f files) n h.walked h.walks in
    let member : (m : List ℕ) → has (names h.walked) m ≡ true → planned_member f files plan m ≡ member_at f m (files m) = λ m t.
    let held : IsHeld f files slots m = c.each m t in
    let o : (o : Object) × (objects f files m ≡ Ok o) = walk_there f.walks (objects f files) n h.walked h.walks m t in
    let stamped : plan.stamp m ≡ stamp_of (mark_at f (files m)) = current_stamp f fit files slots stamp m (current_back f fit files slots m (current_within f laws fit files slots n m c t)) in
    let marked : mark_at f (files m) ≡ Some held.matches.mark = ap (mark_at f) held.matches.there ∙ held.matches.marked in
    let numbers : (for_library (objects f files m) (plan.slot m) ≡ slot_of (mark_at f (files m))) × (for_library (objects f files m) (plan.stamp m) ≡ stamp_of (mark_at f (files m))) =
    elim (laws.kinds m held.matches.file held.matches.mark o.0 held.matches.marked (sym (ap (object_at f m) held.matches.there) ∙ o.1)) [
      | inl e ↦ (of_library o.0 (objects f files m) (plan.slot m) o.1 e ∙ sym (slot_is o.0 m o.1 e held.slot), of_library o.0 (objects f files m) (plan.stamp m) o.1 e ∙ stamped)
      | inr p ↦ (of_program o.0 (objects f files m) (plan.slot m) o.1 p.0 ∙ sym (ap slot_of marked ∙ p.1), of_program o.0 (objects f files m) (plan.stamp m) o.1 p.0 ∙ sym (ap stamp_of marked ∙ p.2))
    ] in
    same_member m (original_at f (files m)) f.version (version_of (mark_at f (files m))) (for_library (objects f files m) (plan.slot m)) (slot_of (mark_at f (files m))) (for_library (objects f files m) (plan.stamp m)) (stamp_of (mark_at f (files m))) (sym (version_is (version_of (mark_at f (files m))) f.version held.present)) numbers.0 numbers.1 in
    ap (of_walk f (planned_member f files plan)) h.walks ∙ (ap f.prelinked (map_same (planned_member f files plan) (λ m. member_at f m (files m)) (names h.walked) member)
    ∙ (sym (ap (of_walk f (λ m. member_at f m (files m))) h.walks) ∙ rule h n (first_is (objects f files) n h.walked i)))
  where
    slot_is : (o : Object) (m : List ℕ) → objects f files m ≡ Ok o → o.kind ≡ Library → at_slot f files slots m ≡ true → slot_of (mark_at f (files m)) ≡ slots m
    slot_is o m e library h = of_test (slot_of (mark_at f (files m))) (slots m) (sym (ap (λ (r : Result Object E). not (is_library_at r) || nat_eq (slot_of (mark_at f (files m))) (slots m)) e ∙ ap (λ (k : Kind). not (is_library k) || nat_eq (slot_of (mark_at f (files m))) (slots m)) library) ∙ h)
      where
        of_test : (a b : ℕ) → nat_eq a b ≡ true → a ≡ b
        of_test a b h = grind (arith, nat_tests)

    of_library : (o : Object) (r : Result Object E) (x : ℕ) → r ≡ Ok o → o.kind ≡ Library → for_library r x ≡ x
    of_library o r x h e = rw (h, e) refl

    of_program : (o : Object) (r : Result Object E) (x : ℕ) → r ≡ Ok o → o.kind ≡ Program → for_library r x ≡ 0
    of_program o r x h e = rw (h, e) refl

    version_is : (a b : ℕ) → nat_eq a b ≡ true → a ≡ b
    version_is a b h = grind (arith, nat_tests)

    same_member : (n o : List ℕ) (v w a b c d : ℕ) → v ≡ w → a ≡ b → c ≡ d → member_of n o v a c ≡ member_of n o w b d
    same_member n o v w a b c d g e h = rw (g, e, h) refl

-- ---- all files after a run

-- a marked one is planned
pub all_planned : {E : Type 0} (f : Format E) → IsFormat f → (fit : Fit) (files : Files) (slots : List ℕ → ℕ) (stamp : ℕ) (n file : List ℕ) (k : Mark) → all f fit files slots stamp n ≡ Some file → f.mark file ≡ Some k
    → (is_candidate f fit files n ≡ true) × (planned_in f files (plan_of f fit files slots stamp) n ≡ Some file)
all_planned f laws fit files slots stamp n file k h marked = of_parts (is_candidate f fit files n) (planned_in f files (plan_of f fit files slots stamp) n) (files n) h
  where
    bare : (g : Option (List ℕ)) → option_map f.original g ≡ Some file → ⊥
    bare None h = none_some file h
    bare (Some g) h = none_some k (sym (laws.bare g) ∙ (ap f.mark (some_same (f.original g) file h) ∙ marked))

    of_parts : (b : Bool) (planned g : Option (List ℕ)) → option_or (if b then planned else None) (option_map f.original g) ≡ Some file → (b ≡ true) × (planned ≡ Some file)
    of_parts true (Some p) g h = (refl, h)
    of_parts true None g h = absurd (bare g h)
    of_parts false planned g h = absurd (bare g h)

-- a current name keeps its file
pub all_current : {E : Type 0} (f : Format E) → IsFormat f → (fit : Fit) (files : Files) (slots : List ℕ → ℕ) (stamp : ℕ) (n : List ℕ) → RuleAt f files n → IsCurrent f fit files slots n → all f fit files slots stamp n ≡ files n
all_current f laws fit files slots stamp n rule c =
    of_parts (is_candidate f fit files n) (planned_in f files (plan_of f fit files slots stamp) n) (files n) c.matches.file c.candidate (current_same f laws fit files slots stamp n rule c) c.matches.there
  where
    of_parts : (b : Bool) (planned g : Option (List ℕ)) (file : List ℕ) → b ≡ true → planned ≡ g → g ≡ Some file → option_or (if b then planned else None) (option_map f.original g) ≡ g
    of_parts b planned g file e h there = rw (e, h, there) refl
