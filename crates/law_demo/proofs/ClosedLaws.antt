-- The walk of a name among libraries that need one another alone is not refused.
use Rattle.std.proofs.Common.{◌≡◌, ℕ, zero, suc, ◌<◌, ◌≤◌, Bool, true, false, List, [], ◌∷◌, ◌++◌, length, Option, Some, None, Result, Ok, refl, sym, ap, ◌∙◌, arith, inl, inr}
use Rattle.std.specs.Prelude.{◌⊎◌, ◌&&◌, ◌||◌, nat_lt, nat_le, slice_get, if◌then◌else◌}
use Rattle.std.specs.List.{IsDistinct}
use Rattle.std.specs.Str.{bytes_eq}
use Rattle.std.proofs.lemmas.Bool.{cases_Bool, false≢true, or_parts}
use Rattle.std.proofs.lemmas.Bool.Decides.{nat_tests}
use Rattle.std.proofs.lemmas.List.{length-append}
use Rattle.std.proofs.lemmas.Map.Keys.{IsDistinct-push}
use Rattle.std.proofs.lemmas.Map.Made.{length-le_from_is_member}
use Rattle.pl_base.specs.Each.{run}
use Rattle.pl_base.proofs.AnswerLaws.{ok_same}
use Rattle.pl_elf.specs.Kinds.{is_program}
use Rattle.pl_elf.specs.declared.kind.Kind.{Kind}
use Rattle.pl_elf.specs.declared.kind.Kind.TheVariants.{Library, Program}
use Rattle.pl_object.specs.declared.object.Object.{Object}
use Rattle.pl_scope.specs.Members.{has, names}
use Rattle.pl_scope.specs.Walk.{Walked, added, at_most, begun, checked, needed_program, next, program_name}
use Rattle.pl_scope.specs.Walking.{Walking, wants}
use Rattle.pl_scope.specs.declared.constants.TheConstants.{MAX_MEMBERS}
use Rattle.pl_scope.specs.declared.fault.WalkFault.{WalkFault}
use Rattle.pl_scope.proofs.NameLaws.{eq_laws, has_append, has_at, has_cons, has_flip, has_head, has_tail}
use Rattle.pl_scope.proofs.StepLaws.{entered_back, none_back, step_back, walk_most}
use Rattle.pl_scope.proofs.WalkedLaws.{limit_is}
use Rattle.law_demo.specs.Closed.{AreClosed, IsLibraryOf, IsRoot, RootsWalkWithin}

abbrev IsSubset : List (List ℕ) → List (List ℕ) → Type 0
IsSubset ns ms = (m : List ℕ) → has ns m ≡ true → has ms m ≡ true

-- ---- names that are added behind a first one

no_longer : (ns all : List (List ℕ)) → IsDistinct bytes_eq ns → IsSubset ns all → length ns ≤ length all
no_longer ns all distinct subset = length-le_from_is_member eq_laws ns all distinct (λ q t. has_flip q all ∙ subset q (sym (has_flip q ns) ∙ t))

push_subset : (ns all : List (List ℕ)) (n : List ℕ) → IsSubset ns all → has all n ≡ true → IsSubset (ns ++ n ∷ []) all
push_subset ns all n subset h m t = elim (has_append ns (n ∷ []) m t) [ inl p ↦ subset m p | inr p ↦ elim (has_cons n m [] p) [ inl e ↦ rw (← e) h | inr q ↦ absurd (false≢true q) ] ]

added_old : (ns : List (List ℕ)) (n : List ℕ) → has ns n ≡ true → added ns n ≡ Ok ns
unfolding added
added_old ns n t = rw t refl

added_new : (ns : List (List ℕ)) (n : List ℕ) → has ns n ≡ false → nat_le MAX_MEMBERS (length ns) ≡ false → added ns n ≡ Ok (ns ++ n ∷ [])
unfolding added
added_new ns n t le = rw (t, le) refl

below_test : (a b : ℕ) → b < a → nat_le a b ≡ false
below_test a b h = grind (arith, nat_tests)

-- the first, and distinct names behind it that are all of a set
record Grows (all needed : List (List ℕ)) (first : List ℕ) (tail : List (List ℕ)) : Type 0 where
  longer : List (List ℕ)
  runs : run added (first ∷ tail) needed ≡ Ok (first ∷ longer)
  distinct : IsDistinct bytes_eq longer
  subset : IsSubset longer all

grows : (all needed : List (List ℕ)) (first : List ℕ) (tail : List (List ℕ)) → length all < MAX_MEMBERS → IsDistinct bytes_eq tail → IsSubset tail all → IsSubset needed all → Grows all needed first tail
unfolding run
grows all [] first tail few distinct subset needs = record { longer = tail; runs = refl; distinct = distinct; subset = subset }
grows all (x ∷ needed) first tail few distinct subset needs =
    let rest : IsSubset needed all = λ m t. needs m (has_tail x m needed t) in
    elim (cases_Bool (has (first ∷ tail) x)) [
      | inl t ↦ let g : Grows all needed first tail = grows all needed first tail few distinct subset rest in
          record { longer = g.longer; runs = rw (added_old (first ∷ tail) x t) g.runs; distinct = g.distinct; subset = g.subset }
      | inr t ↦
          let fresh : has tail x ≡ false = (or_parts (bytes_eq first x) (has tail x) t).1 in
          let d : IsDistinct bytes_eq (tail ++ x ∷ []) = IsDistinct-push eq_laws tail x distinct (has_flip x tail ∙ fresh) in
          let s : IsSubset (tail ++ x ∷ []) all = push_subset tail all x subset (needs x (has_head x needed)) in
          let le : length (tail ++ x ∷ []) ≤ length all = no_longer (tail ++ x ∷ []) all d s in
          let g : Grows all needed first (tail ++ x ∷ []) = grows all needed first (tail ++ x ∷ []) few d s rest in
          record { longer = g.longer; runs = rw (added_new (first ∷ tail) x t (below_test MAX_MEMBERS (length (first ∷ tail)) (omega (arith, le, few, length-append tail (x ∷ []))))) g.runs; distinct = g.distinct; subset = g.subset }
    ]

-- ---- steps

-- no needed name is the first, where that is a program
nobody : (needed : List (List ℕ)) (first : List ℕ) → has needed first ≡ false → needed_program (Some first) needed ≡ None
nobody [] first none = refl
nobody (n ∷ needed) first none = let parts = or_parts (bytes_eq n first) (has needed first) none in rw parts.0 (nobody needed first parts.1)

-- the first is no program, or is none of a set
abbrev IsQuiet : List (List ℕ) → List ℕ → Bool → Type 0
IsQuiet all first program = (program ≡ false) ⊎ (has all first ≡ false)

unneeded : (needed all : List (List ℕ)) (first : List ℕ) → IsSubset needed all → has all first ≡ false → has needed first ≡ false
unneeded needed all first subset none = by (has needed first) refl
  where
    by : (b : Bool) → has needed first ≡ b → b ≡ false
    by true e = absurd (false≢true (sym none ∙ subset first e))
    by false e = refl

no_program : (w : Walking) (first : List ℕ) (tail needed all : List (List ℕ)) → w.names ≡ first ∷ tail → IsQuiet all first w.program → IsSubset needed all → needed_program (program_name w) needed ≡ None
no_program w first tail needed all is quiet subset = elim quiet [
  | inl off ↦ rw off refl
  | inr none ↦ by w.program w.names is (nobody needed first (unneeded needed all first subset none))
]
  where
    by : (program : Bool) (ns : List (List ℕ)) → ns ≡ first ∷ tail → needed_program (Some first) needed ≡ None → needed_program (if program then slice_get ns 0 else None) needed ≡ None
    by true ns e h = rw e h
    by false ns e h = refl

checks : (w : Walking) (n : List ℕ) (o : Object) → o.kind ≡ Library → needed_program (program_name w) o.needed ≡ None → checked w n o ≡ Ok tt
unfolding checked
checks w n o library none = rw (library, no_test (nat_lt 0 w.given), none) refl
  where
    no_test : (b : Bool) → (b && false) ≡ false
    no_test true = refl
    no_test false = refl

-- ---- what is still to come

record Inside {E : Type 0} (fault : WalkFault → E) (files : List ℕ → Result Object E) (most : ℕ) (w : Walking) (all : List (List ℕ)) : Type 0 where
  walked : Walked
  goes : at_most fault files most w ≡ Ok walked
  subset : IsSubset (names walked) all

nothing_back : {E : Type 0} (fault : WalkFault → E) (files : List ℕ → Result Object E) (w : Walking) → at_most fault files zero w ≡ Ok []
unfolding at_most
nothing_back fault files w = refl

quiet_next : (all : List (List ℕ)) (first : List ℕ) (program : Bool) → IsQuiet all first program → IsQuiet all first (program || false)
quiet_next all first program quiet = elim quiet [ inl off ↦ inl (rw off refl) | inr none ↦ inr none ]

module _ {E : Type 0} (fault : WalkFault → E) (files : List ℕ → Result Object E) (all : List (List ℕ)) (closed : AreClosed files all) (first : List ℕ) where
  inside : (most : ℕ) (w : Walking) (tail : List (List ℕ)) (g : ℕ) → w.names ≡ first ∷ tail → w.given ≡ suc g → IsQuiet all first w.program → IsDistinct bytes_eq tail → IsSubset tail all
      → (wanted : Option (List ℕ)) → wants w ≡ wanted → Inside fault files most w all
  inside zero w tail g is given quiet distinct subset wanted e = record { walked = []; goes = nothing_back fault files w; subset = λ m t. absurd (false≢true t) }
  inside (suc most) w tail g is given quiet distinct subset None e = record { walked = []; goes = none_back fault files most w [] e refl; subset = λ m t. absurd (false≢true t) }
  inside (suc most) w tail g is given quiet distinct subset (Some n) e =
      let at : slice_get tail g ≡ Some n = sym (ap (λ (ns : List (List ℕ)). slice_get ns w.given) is ∙ ap (slice_get (first ∷ tail)) given) ∙ e in
      let here : has all n ≡ true = subset n (has_at tail g n at) in
      let l : IsLibraryOf files all n = closed.each n here in
      let more : Grows all l.object.needed first tail = grows all l.object.needed first tail closed.few distinct subset l.needs in
      let v : Walking = next w l.object (first ∷ more.longer) in
      let runs : run added w.names l.object.needed ≡ Ok (first ∷ more.longer) = ap (λ (ns : List (List ℕ)). run added ns l.object.needed) is ∙ more.runs in
      let i : Inside fault files most v all =
      inside most v more.longer (suc g) refl (omega (arith, given)) (rw l.kind (quiet_next all first w.program quiet)) more.distinct more.subset (wants v) refl in
      record {
        walked = (n, l.object) ∷ i.walked;
        goes = step_back fault files most w ((n, l.object) ∷ i.walked) (record {
          name = n;
          object = l.object;
          after = v;
          rest = i.walked;
          wanted = e;
          file = l.file;
          enters = entered_back w n l.object (first ∷ more.longer) (checks w n l.object l.kind (no_program w first tail l.object.needed all is quiet l.needs)) runs;
          goes = i.goes;
          is = refl;
        });
        subset = λ m t. elim (has_cons n m (names i.walked) t) [ inl p ↦ rw (← p) here | inr p ↦ i.subset m p ];
      }

-- ---- the first step

-- a library may be among those that are needed; a program is not, since they are libraries
is_quiet : {E : Type 0} (files : List ℕ → Result Object E) (all : List (List ℕ)) (n : List ℕ) (o : Object) → AreClosed files all → IsRoot files all n o → IsQuiet all n (false || is_program o.kind)
is_quiet files all n o closed root = elim root.linked [
  | inl library ↦ inl (ap is_program library)
  | inr program ↦ inr (by (has all n) refl program)
]
  where
    kinds : (k : Kind) → k ≡ Library → k ≡ Program → ⊥
    kinds k a b = cc

    by : (b : Bool) → has all n ≡ b → o.kind ≡ Program → b ≡ false
    by true e program =
        let l : IsLibraryOf files all n = closed.each n e in
        absurd (kinds o.kind (ap (λ (x : Object). x.kind) (ok_same o l.object (sym root.file ∙ l.file)) ∙ l.kind) program)
    by false e program = refl

first_checks : (n : List ℕ) (o : Object) → checked (begun n) n o ≡ Ok tt
unfolding checked
first_checks n o = refl

many : MAX_MEMBERS ≡ suc 255
many = limit_is

pub roots_walk : {E : Type 0} → RootsWalkWithin E
unfolding IsDistinct
roots_walk fault files all n o closed root =
    let more : Grows all o.needed n [] = grows all o.needed n [] closed.few tt (λ m t. absurd (false≢true t)) root.needs in
    let v : Walking = next (begun n) o (n ∷ more.longer) in
    let i : Inside fault files 255 v all = inside fault files all closed n 255 v more.longer 0 refl refl (is_quiet files all n o closed root) more.distinct more.subset (wants v) refl in
    let goes : at_most fault files (suc 255) (begun n) ≡ Ok ((n, o) ∷ i.walked) =
    step_back fault files 255 (begun n) ((n, o) ∷ i.walked) (record {
      name = n;
      object = o;
      after = v;
      rest = i.walked;
      wanted = refl;
      file = root.file;
      enters = entered_back (begun n) n o (n ∷ more.longer) (first_checks n o) more.runs;
      goes = i.goes;
      is = refl;
    }) in
    record {
      walked = (n, o) ∷ i.walked;
      walks = walk_most fault files n ∙ (ap (λ (k : ℕ). at_most fault files k (begun n)) many ∙ goes);
      within = λ m t. elim (has_cons n m (names i.walked) t) [ inl p ↦ inl (sym p) | inr p ↦ inr (i.subset m p) ];
    }
