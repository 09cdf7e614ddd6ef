-- The walk of a member lies within the walk.
use Rattle.std.proofs.Common.{◌≡◌, ℕ, zero, suc, ◌+◌, ◌<◌, ◌≤◌, Bool, true, false, List, [], ◌∷◌, ◌++◌, length, Option, Some, None, Result, Ok, refl, sym, ap, ◌∙◌, arith, inl, inr, append_assoc}
use Rattle.std.specs.Prelude.{◌&&◌, not, nat_lt, nat_le, slice_get, find}
use Rattle.std.specs.List.{IsDistinct}
use Rattle.std.specs.Option.{ok_or}
use Rattle.std.specs.Str.{bytes_eq}
use Rattle.std.proofs.lemmas.Bool.{cases_Bool, false≢true}
use Rattle.std.proofs.lemmas.Bool.Decides.{nat_tests}
use Rattle.std.proofs.lemmas.List.{append-nil, length-append}
use Rattle.std.proofs.lemmas.Map.Keys.{IsDistinct-push}
use Rattle.std.proofs.lemmas.Map.Made.{length-le_from_is_member}
use Rattle.pl_scope.specs.declared.fault.WalkFault.TheVariants.{NotThere}
use Rattle.pl_object.specs.declared.object.Object.{Object}
use Rattle.pl_elf.specs.declared.kind.Kind.{Kind}
use Rattle.pl_elf.specs.declared.kind.Kind.TheVariants.{Program, Library, Static}
use Rattle.pl_elf.specs.Kinds.{is_library}
use Rattle.pl_scope.specs.declared.fault.WalkFault.{WalkFault}
use Rattle.pl_scope.specs.Walk.{Walked, walk, at_most, begun, walk_over, object_of, itself, checked, program_name, needed_program, added, next}
use Rattle.pl_scope.specs.Members.{names, has, told, IsLinked}
use Rattle.pl_scope.specs.declared.constants.TheConstants.{MAX_MEMBERS}
use Rattle.pl_scope.specs.Walking.{Walking, wants}
use Rattle.pl_base.specs.Each.{run}
use Rattle.pl_scope.proofs.NameLaws.{has_rest, has_step, has_head, has_tail, has_cons, has_front, has_append, has_flip, has_at, same_name, eq_refl, eq_laws}
use Rattle.pl_scope.proofs.StepLaws.{same_ok, step_cases, step_back, none_back, nothing_left, Entered, entered_is, entered_back, checked_is, Grown, grown, walk_there, walk_short, walk_local, walk_most}

-- ---- each needed name is a member

pub at_end : (front todo : List (List ℕ)) → slice_get (front ++ todo) (length front) ≡ None → todo ≡ []
at_end [] [] h = refl
at_end [] (n ∷ todo) h = absurd (some_none n h)
  where
    some_none : (n : List ℕ) → Some n ≡ None → ⊥
    some_none n h = cc
at_end (m ∷ front) todo h = at_end front todo h

pub at_next : (front todo : List (List ℕ)) (n : List ℕ) → slice_get (front ++ todo) (length front) ≡ Some n → (rest : List (List ℕ)) × (todo ≡ n ∷ rest)
at_next [] [] n h = absurd (none_some n h)
  where
    none_some : (n : List ℕ) → None ≡ Some n → ⊥
    none_some n h = cc
at_next [] (m ∷ todo) n h = (todo, ap (λ (k : List ℕ). k ∷ todo) (some_same m n h))
  where
    some_same : (m n : List ℕ) → Some m ≡ Some n → m ≡ n
    some_same m n h = cc
at_next (m ∷ front) todo n h = at_next front todo n h

pub record Closed {E : Type 0} (files : List ℕ → Result Object E) (start front : List (List ℕ)) (ws : Walked) : Type 0 where
  pub all : (m : List ℕ) → has start m ≡ true → has (front ++ names ws) m ≡ true
  pub needs : (k m : List ℕ) (o : Object) → has (names ws) k ≡ true → files k ≡ Ok o → has o.needed m ≡ true → has (front ++ names ws) m ≡ true

closed_most : {E : Type 0} (fault : WalkFault → E) (files : List ℕ → Result Object E) (most : ℕ) (w : Walking) (ws : Walked) (front todo : List (List ℕ)) → at_most fault files most w ≡ Ok ws → w.names ≡ front ++ todo → w.given ≡ length front → length w.names ≤ MAX_MEMBERS → most + w.given ≡ MAX_MEMBERS
    → Closed files w.names front ws
closed_most fault files zero w ws front todo h is given few sum =
    let e : ws ≡ [] = nothing_left fault files w ws h in
    let le : length (front ++ todo) ≤ length front = rw (← is) (omega arith) in
    let none : todo ≡ [] = empty todo (omega (arith, le, length-append front todo)) in
    record { all = λ m t. rw (e, append-nil front) (simp (is, none, append-nil) at t); needs = λ k m o t f n. absurd (false≢true (rw e at t)) }
  where
    empty : (xs : List (List ℕ)) → length xs ≡ 0 → xs ≡ []
    empty [] h = refl
    empty (x ∷ xs) h = absurd (omega arith)
closed_most fault files (suc most) w ws front todo h is given few sum =
    elim (step_cases fault files most w ws h) [
      | inl c ↦
          let none : todo ≡ [] = at_end front todo (ap (λ (z : List (List ℕ)). slice_get z (length front)) (sym is) ∙ (ap (slice_get w.names) (sym given) ∙ c.0)) in
          record { all = λ m t. rw (c.1, append-nil front) (rw (is, none, append-nil front) at t); needs = λ k m o t f n. absurd (false≢true (rw c.1 at t)) }
      | inr s ↦
          let en : Entered w s.name s.object s.after = entered_is w s.name s.object s.after s.enters in
          let g : Grown w.names s.object.needed en.names = grown s.object.needed w.names en.names en.runs in
          let t : (rest : List (List ℕ)) × (todo ≡ s.name ∷ rest) = at_next front todo s.name (ap (λ (z : List (List ℕ)). slice_get z (length front)) (sym is) ∙ (ap (slice_get w.names) (sym given) ∙ s.wanted)) in
          let after_names : s.after.names ≡ en.names = ap (λ (v : Walking). v.names) en.is in
          let after_given : s.after.given ≡ w.given + 1 = ap (λ (v : Walking). v.given) en.is in
          let split : s.after.names ≡ (front ++ s.name ∷ []) ++ (t.0 ++ g.more) =
          after_names ∙ (g.is ∙ (ap (λ (z : List (List ℕ)). z ++ g.more) (is ∙ ap (λ (z : List (List ℕ)). front ++ z) t.1) ∙ regroup front s.name t.0 g.more)) in
          let i : Closed files s.after.names (front ++ s.name ∷ []) s.rest =
          closed_most fault files most s.after s.rest (front ++ s.name ∷ []) (t.0 ++ g.more) s.goes split (omega (arith, after_given, given, length-append front (s.name ∷ []))) (rw after_names (g.few few)) (omega (arith, after_given, sum)) in
          let same : (front ++ s.name ∷ []) ++ names s.rest ≡ front ++ names ws = rw s.is (append_assoc front (s.name ∷ []) (names s.rest)) in
          record {
            all = λ m p. rw (← same) (i.all m (rw (after_names, g.is) (has_front w.names g.more m p)));
            needs = λ k m o p f n. elim (has_step ws s.rest s.name k s.object s.is p) [
              | inl e ↦ let o_is : s.object ≡ o = same_ok s.object o (sym s.file ∙ (ap files e ∙ f)) in rw (← same) (i.all m (rw after_names (g.needs m (rw o_is n))))
              | inr r ↦ rw (← same) (i.needs k m o r f n)
            ];
          }
    ]
  where
    regroup : (front : List (List ℕ)) (n : List ℕ) (rest more : List (List ℕ)) → (front ++ n ∷ rest) ++ more ≡ (front ++ n ∷ []) ++ (rest ++ more)
    regroup front n rest more = append_assoc front (n ∷ rest) more ∙ sym (append_assoc front (n ∷ []) (rest ++ more))

-- ---- members after the first are libraries, and need no program

libs_most : {E : Type 0} (fault : WalkFault → E) (files : List ℕ → Result Object E) (most : ℕ) (w : Walking) (ws : Walked) → at_most fault files most w ≡ Ok ws → 0 < w.given → (k : List ℕ) (o : Object) → has (names ws) k ≡ true → files k ≡ Ok o → o.kind ≡ Library
libs_most fault files zero w ws h lt k o in' f = absurd (false≢true (rw (nothing_left fault files w ws h) at in'))
libs_most fault files (suc most) w ws h lt k o in' f =
    elim (step_cases fault files most w ws h) [
      | inl c ↦ absurd (false≢true (rw c.1 at in'))
      | inr s ↦
          let en : Entered w s.name s.object s.after = entered_is w s.name s.object s.after s.enters in
          elim (has_step ws s.rest s.name k s.object s.is in') [
            | inl e ↦ let o_is : s.object ≡ o = same_ok s.object o (sym s.file ∙ (ap files e ∙ f)) in
                ap (λ (x : Object). x.kind) (sym o_is) ∙ of_test w.given s.object.kind lt (checked_is w s.name s.object en.checks).0
            | inr r ↦ libs_most fault files most s.after s.rest s.goes (rw (ap (λ (v : Walking). v.given) en.is) (omega arith)) k o r f
          ]
    ]
  where
    of_test : (given : ℕ) (kind : Kind) → 0 < given → (nat_lt 0 given && not (is_library kind)) ≡ false → kind ≡ Library
    of_test given Library lt h = refl
    of_test given Program lt h = absurd (past given lt h)
      where
        past : (given : ℕ) → 0 < given → (nat_lt 0 given && true) ≡ false → ⊥
        past given lt h = grind (arith, nat_tests)
    of_test given Static lt h = absurd (past given lt h)
      where
        past : (given : ℕ) → 0 < given → (nat_lt 0 given && true) ≡ false → ⊥
        past given lt h = grind (arith, nat_tests)

first_kept : (ns more : List (List ℕ)) (p : List ℕ) → slice_get ns 0 ≡ Some p → slice_get (ns ++ more) 0 ≡ Some p
first_kept [] more p h = absurd (none_some p h)
  where
    none_some : (n : List ℕ) → None ≡ Some n → ⊥
    none_some n h = cc
first_kept (n ∷ ns) more p h = h

not_found : (needed : List (List ℕ)) (p : List ℕ) → find (λ n. bytes_eq n p) needed ≡ None → has needed p ≡ false
not_found [] p h = refl
not_found (n ∷ needed) p h = elim (cases_Bool (bytes_eq n p)) [ inl t ↦ absurd (some_none n (rw t at h)) | inr t ↦ rw t (not_found needed p (rw t at h)) ]
  where
    some_none : (n : List ℕ) → Some n ≡ None → ⊥
    some_none n h = cc

apart_most : {E : Type 0} (fault : WalkFault → E) (files : List ℕ → Result Object E) (most : ℕ) (w : Walking) (ws : Walked) (p : List ℕ) → at_most fault files most w ≡ Ok ws → w.program ≡ true → slice_get w.names 0 ≡ Some p
    → (k : List ℕ) (o : Object) → has (names ws) k ≡ true → files k ≡ Ok o → has o.needed p ≡ false
apart_most fault files zero w ws p h program first k o in' f = absurd (false≢true (rw (nothing_left fault files w ws h) at in'))
apart_most fault files (suc most) w ws p h program first k o in' f =
    elim (step_cases fault files most w ws h) [
      | inl c ↦ absurd (false≢true (rw c.1 at in'))
      | inr s ↦
          let en : Entered w s.name s.object s.after = entered_is w s.name s.object s.after s.enters in
          let g : Grown w.names s.object.needed en.names = grown s.object.needed w.names en.names en.runs in
          elim (has_step ws s.rest s.name k s.object s.is in') [
            | inl e ↦ let o_is : s.object ≡ o = same_ok s.object o (sym s.file ∙ (ap files e ∙ f)) in
                let none : needed_program (program_name w) s.object.needed ≡ None = (checked_is w s.name s.object en.checks).1 in
                not_found o.needed p (rw (← o_is) (rw (program, first) at none))
            | inr r ↦ apart_most fault files most s.after s.rest p s.goes (rw (en.is, program) refl) (rw (ap (λ (v : Walking). v.names) en.is, g.is) (first_kept w.names g.more p first)) k o r f
          ]
    ]

-- ---- what a walk that refuses nothing tells of its members

pub record WalkTells {E : Type 0} (files : List ℕ → Result Object E) (n : List ℕ) (ws : Walked) : Type 0 where
  pub object : Object
  pub rest : Walked
  pub is : ws ≡ (n, object) ∷ rest
  pub file : files n ≡ Ok object
  pub needs : (k m : List ℕ) (o : Object) → has (names ws) k ≡ true → files k ≡ Ok o → has o.needed m ≡ true → has (names ws) m ≡ true
  pub libraries : (k : List ℕ) (o : Object) → has (names rest) k ≡ true → files k ≡ Ok o → o.kind ≡ Library
  pub apart : object.kind ≡ Program → (k : List ℕ) (o : Object) → has (names rest) k ≡ true → files k ≡ Ok o → has o.needed n ≡ false

many : MAX_MEMBERS ≡ suc 255
unfolding MAX_MEMBERS
many = refl

pub walk_is : {E : Type 0} (fault : WalkFault → E) (files : List ℕ → Result Object E) (n : List ℕ) (ws : Walked) → walk fault files n ≡ Ok ws → WalkTells files n ws
walk_is fault files n ws h =
    let whole : at_most fault files (suc 255) (begun n) ≡ Ok ws = rw many at (sym (walk_most fault files n) ∙ h) in
    elim (step_cases fault files 255 (begun n) ws whole) [
      | inl c ↦ absurd (some_none n c.0)
      | inr s ↦
          let name_is : n ≡ s.name = some_same n s.name s.wanted in
          let en : Entered (begun n) s.name s.object s.after = entered_is (begun n) s.name s.object s.after s.enters in
          let g : Grown (n ∷ []) s.object.needed en.names = grown s.object.needed (n ∷ []) en.names en.runs in
          let closed : Closed files (n ∷ []) [] ws = closed_most fault files (suc 255) (begun n) ws [] (n ∷ []) whole refl refl (rw many (omega arith)) (rw many (omega arith)) in
          record {
            object = s.object;
            rest = s.rest;
            is = rw name_is s.is;
            file = rw name_is s.file;
            needs = closed.needs;
            libraries = libs_most fault files 255 s.after s.rest s.goes (rw (ap (λ (v : Walking). v.given) en.is) (omega arith));
            apart = λ program. apart_most fault files 255 s.after s.rest n s.goes (rw (en.is, program) refl) (rw (ap (λ (v : Walking). v.names) en.is, g.is) (first_kept (n ∷ []) g.more n refl));
          }
    ]
  where
    some_none : (n : List ℕ) → Some n ≡ None → ⊥
    some_none n h = cc

    some_same : (m n : List ℕ) → Some m ≡ Some n → m ≡ n
    some_same m n h = cc

-- ---- a walk among libraries that need one another alone

abbrev pub IsSubset : List (List ℕ) → List (List ℕ) → Type 0
IsSubset ns ms = (m : List ℕ) → has ns m ≡ true → has ms m ≡ true

pub record IsLibrary {E : Type 0} (files : List ℕ → Result Object E) (all : List (List ℕ)) (k : List ℕ) : Type 0 where
  pub object : Object
  pub file : files k ≡ Ok object
  pub kind : object.kind ≡ Library
  pub needs : IsSubset object.needed all

no_longer : (ns all : List (List ℕ)) → IsDistinct bytes_eq ns → IsSubset ns all → length ns ≤ length all
no_longer ns all distinct subset = length-le_from_is_member eq_laws ns all distinct (λ q t. has_flip q all ∙ subset q (sym (has_flip q ns) ∙ t))

pub record Within (all ns needed : List (List ℕ)) : Type 0 where
  pub names : List (List ℕ)
  pub runs : run added ns needed ≡ Ok names
  pub distinct : IsDistinct bytes_eq names
  pub subset : IsSubset names all

push_subset : (ns all : List (List ℕ)) (n : List ℕ) → IsSubset ns all → has all n ≡ true → IsSubset (ns ++ n ∷ []) all
push_subset ns all n subset h m t = elim (has_append ns (n ∷ []) m t) [ inl p ↦ subset m p | inr p ↦ elim (has_cons n m [] p) [ inl e ↦ rw (← e) h | inr q ↦ absurd (false≢true q) ] ]

added_old : (ns : List (List ℕ)) (n : List ℕ) → has ns n ≡ true → added ns n ≡ Ok ns
unfolding added
added_old ns n t = rw t refl

added_new : (ns : List (List ℕ)) (n : List ℕ) → has ns n ≡ false → nat_le MAX_MEMBERS (length ns) ≡ false → added ns n ≡ Ok (ns ++ n ∷ [])
unfolding added
added_new ns n t le = rw (t, le) refl

below_test : (a b : ℕ) → b < a → nat_le a b ≡ false
below_test a b h = grind (arith, nat_tests)

within : (all needed ns : List (List ℕ)) → length all ≤ MAX_MEMBERS → IsDistinct bytes_eq ns → IsSubset ns all → IsSubset needed all → Within all ns needed
unfolding run
within all [] ns short distinct subset needs = record { names = ns; runs = refl; distinct = distinct; subset = subset }
within all (x ∷ needed) ns short distinct subset needs =
    let rest : IsSubset needed all = λ m t. needs m (has_tail x m needed t) in
    let here : has all x ≡ true = needs x (has_head x needed) in
    elim (cases_Bool (has ns x)) [
      | inl t ↦ let i : Within all ns needed = within all needed ns short distinct subset rest in
          record { names = i.names; runs = rw (added_old ns x t) i.runs; distinct = i.distinct; subset = i.subset }
      | inr t ↦
          let d : IsDistinct bytes_eq (ns ++ x ∷ []) = IsDistinct-push eq_laws ns x distinct (has_flip x ns ∙ t) in
          let s : IsSubset (ns ++ x ∷ []) all = push_subset ns all x subset here in
          let le : length (ns ++ x ∷ []) ≤ length all = no_longer (ns ++ x ∷ []) all d s in
          let i : Within all (ns ++ x ∷ []) needed = within all needed (ns ++ x ∷ []) short d s rest in
          record { names = i.names; runs = rw (added_new ns x t (below_test MAX_MEMBERS (length ns) (omega (arith, le, short, length-append ns (x ∷ []))))) i.runs; distinct = i.distinct; subset = i.subset }
    ]

checks_in : (w : Walking) (n : List ℕ) (o : Object) → w.program ≡ false → o.kind ≡ Library → checked w n o ≡ Ok tt
unfolding checked
checks_in w n o program library = rw (program, library, no_test (nat_lt 0 w.given)) refl
  where
    no_test : (b : Bool) → (b && false) ≡ false
    no_test true = refl
    no_test false = refl

pub record Inside {E : Type 0} (fault : WalkFault → E) (files : List ℕ → Result Object E) (most : ℕ) (w : Walking) (all : List (List ℕ)) : Type 0 where
  pub walked : Walked
  pub goes : at_most fault files most w ≡ Ok walked
  pub subset : IsSubset (names walked) all

zero_back : {E : Type 0} (fault : WalkFault → E) (files : List ℕ → Result Object E) (w : Walking) → at_most fault files zero w ≡ Ok []
unfolding at_most
zero_back fault files w = refl

inside : {E : Type 0} (fault : WalkFault → E) (files : List ℕ → Result Object E) (all : List (List ℕ)) → ((k : List ℕ) → has all k ≡ true → IsLibrary files all k) → length all ≤ MAX_MEMBERS → (most : ℕ) (w : Walking)
    → w.program ≡ false → IsDistinct bytes_eq w.names → IsSubset w.names all → (wanted : Option (List ℕ)) → wants w ≡ wanted → Inside fault files most w all
inside fault files all libraries short zero w program distinct subset wanted e = record { walked = []; goes = zero_back fault files w; subset = λ m t. absurd (false≢true t) }
inside fault files all libraries short (suc most) w program distinct subset None e = record { walked = []; goes = none_back fault files most w [] e refl; subset = λ m t. absurd (false≢true t) }
inside fault files all libraries short (suc most) w program distinct subset (Some n) e =
    let here : has all n ≡ true = subset n (has_at w.names w.given n e) in
    let l : IsLibrary files all n = libraries n here in
    let g : Within all w.names l.object.needed = within all l.object.needed w.names short distinct subset l.needs in
    let v : Walking = next w l.object g.names in
    let i : Inside fault files most v all = inside fault files all libraries short most v (rw (program, l.kind) refl) g.distinct g.subset (wants v) refl in
    record {
      walked = (n, l.object) ∷ i.walked;
      goes = step_back fault files most w ((n, l.object) ∷ i.walked) (record {
        name = n;
        object = l.object;
        after = v;
        rest = i.walked;
        wanted = e;
        file = l.file;
        enters = entered_back w n l.object g.names (checks_in w n l.object program l.kind) g.runs;
        goes = i.goes;
        is = refl;
      });
      subset = λ m t. elim (has_cons n m (names i.walked) t) [ inl p ↦ rw (← p) here | inr p ↦ i.subset m p ];
    }

-- the walk of a library among them
inside_walk : {E : Type 0} (fault : WalkFault → E) (files : List ℕ → Result Object E) (all : List (List ℕ)) (m : List ℕ) → ((k : List ℕ) → has all k ≡ true → IsLibrary files all k) → length all ≤ MAX_MEMBERS → has all m ≡ true
    → (ws : Walked) × (walk fault files m ≡ Ok ws) × (IsSubset (names ws) all)
unfolding IsDistinct
inside_walk fault files all m libraries short here =
    let i : Inside fault files MAX_MEMBERS (begun m) all =
    inside fault files all libraries short MAX_MEMBERS (begun m) refl (tt, tt) (λ k t. elim (has_cons m k [] t) [ inl e ↦ rw (← e) here | inr p ↦ absurd (false≢true p) ]) (Some m) refl in
    (i.walked, walk_most fault files m ∙ i.goes, i.subset)

-- ---- the closure: a member's walk refuses nothing either, and its members are members

pub record MemberWalk {E : Type 0} (fault : WalkFault → E) (files : List ℕ → Result Object E) (all : List (List ℕ)) (m : List ℕ) : Type 0 where
  pub walked : Walked
  pub walks : walk fault files m ≡ Ok walked
  pub subset : IsSubset (names walked) all

pub member_walk : {E : Type 0} (fault : WalkFault → E) (files : List ℕ → Result Object E) (n m : List ℕ) (ws : Walked) → walk fault files n ≡ Ok ws → ((o : Object) → files n ≡ Ok o → IsLinked o.kind) → has (names ws) m ≡ true → MemberWalk fault files (names ws) m
member_walk fault files n m ws h linked in' =
    let i : WalkTells files n ws = walk_is fault files n ws h in
    let short : length (names ws) ≤ MAX_MEMBERS = walk_short fault files n ws h in
    let rest_short : length (names i.rest) ≤ MAX_MEMBERS = shorter (names ws) n (names i.rest) (ap names i.is) short in
    elim (linked i.object i.file) [
      | inl library ↦
          let w : (vs : Walked) × (walk fault files m ≡ Ok vs) × (IsSubset (names vs) (names ws)) = inside_walk fault files (names ws) m (λ k t.
          let o : (o : Object) × (files k ≡ Ok o) = walk_there fault files n ws h k t in
          record {
            object = o.0;
            file = o.1;
            needs = λ q p. i.needs k q o.0 t o.1 p;
            kind = elim (has_step ws i.rest n k i.object i.is t) [ inl e ↦ ap (λ (x : Object). x.kind) (same_ok o.0 i.object (sym o.1 ∙ (ap files (sym e) ∙ i.file))) ∙ library | inr r ↦ i.libraries k o.0 r o.1 ];
          }) short in' in
          record { walked = w.0; walks = w.1; subset = w.2 }
      | inr program ↦ elim (has_step ws i.rest n m i.object i.is in') [
        | inl e ↦ record { walked = ws; walks = ap (walk fault files) (sym e) ∙ h; subset = λ q t. t }
        | inr r ↦
            let w : (vs : Walked) × (walk fault files m ≡ Ok vs) × (IsSubset (names vs) (names i.rest)) = inside_walk fault files (names i.rest) m (λ k t.
            let o : (o : Object) × (files k ≡ Ok o) = walk_there fault files n ws h k (has_rest ws i.rest n k i.object i.is t) in
            record {
              object = o.0;
              file = o.1;
              kind = i.libraries k o.0 t o.1;
              needs = λ q p. elim (has_step ws i.rest n q i.object i.is (i.needs k q o.0 (has_rest ws i.rest n k i.object i.is t) o.1 p)) [
                | inl e ↦ absurd (false≢true (sym (i.apart program k o.0 t o.1) ∙ (ap (has o.0.needed) e ∙ p)))
                | inr s ↦ s
              ];
            }) rest_short r in
            record { walked = w.0; walks = w.1; subset = λ q t. has_rest ws i.rest n q i.object i.is (w.2 q t) }
      ]
    ]
  where
    shorter : (ns : List (List ℕ)) (n : List ℕ) (rest : List (List ℕ)) → ns ≡ n ∷ rest → length ns ≤ MAX_MEMBERS → length rest ≤ MAX_MEMBERS
    shorter ns n rest e le = omega (arith, ap length e)

-- ---- the members tell the objects

told_step : (p : List ℕ × Object) (walked : Walked) (n m : List ℕ) (o : Object) → p ≡ (n, o) → (n ≡ m → told (p ∷ walked) m ≡ Some o) × (bytes_eq n m ≡ false → told (p ∷ walked) m ≡ told walked m)
unfolding told
told_step p walked n m o e = (λ same. rw (e, same, eq_refl m) refl, λ other. rw (e, other) refl)

told_most : {E : Type 0} (fault : WalkFault → E) (files : List ℕ → Result Object E) (most : ℕ) (w : Walking) (ws : Walked) → at_most fault files most w ≡ Ok ws → (k : List ℕ) (o : Object) → has (names ws) k ≡ true → files k ≡ Ok o → told ws k ≡ Some o
told_most fault files zero w ws h k o t f = absurd (false≢true (rw (nothing_left fault files w ws h) at t))
told_most fault files (suc most) w ws h k o t f =
    elim (step_cases fault files most w ws h) [
      | inl c ↦ absurd (false≢true (rw c.1 at t))
      | inr s ↦ ap (λ (z : Walked). told z k) s.is ∙ elim (cases_Bool (bytes_eq s.name k)) [
        | inl e ↦ let o_is : s.object ≡ o = same_ok s.object o (sym s.file ∙ (ap files (same_name s.name k e) ∙ f)) in
            (told_step (s.name, s.object) s.rest s.name k s.object refl).0 (same_name s.name k e) ∙ ap (λ (x : Object). Some x) o_is
        | inr e ↦ (told_step (s.name, s.object) s.rest s.name k s.object refl).1 e ∙ elim (has_step ws s.rest s.name k s.object s.is t) [
          | inl same ↦ absurd (false≢true (sym e ∙ (ap (λ (q : List ℕ). bytes_eq q k) same ∙ eq_refl k)))
          | inr r ↦ told_most fault files most s.after s.rest s.goes k o r f
        ]
      ]
    ]

pub walk_told : {E : Type 0} (fault : WalkFault → E) (files : List ℕ → Result Object E) (n : List ℕ) (ws : Walked) → walk fault files n ≡ Ok ws → (k : List ℕ) (o : Object) → has (names ws) k ≡ true → files k ≡ Ok o → told ws k ≡ Some o
walk_told fault files n ws h k o t f = told_most fault files MAX_MEMBERS (begun n) ws (sym (walk_most fault files n) ∙ h) k o t f

pub record ToldWalk {E : Type 0} (fault : WalkFault → E) (files : List ℕ → Result Object E) (ws : Walked) (m : List ℕ) : Type 0 where
  pub inner : Walked
  pub walks : walk fault files m ≡ Ok inner
  pub over : walk_over (told ws) m ≡ Ok inner

pub member_told : {E : Type 0} (fault : WalkFault → E) (files : List ℕ → Result Object E) (n m : List ℕ) (ws : Walked) → walk fault files n ≡ Ok ws → ((o : Object) → files n ≡ Ok o → IsLinked o.kind) → has (names ws) m ≡ true → ToldWalk fault files ws m
member_told fault files n m ws h linked t =
    let w : MemberWalk fault files (names ws) m = member_walk fault files n m ws h linked t in
    record {
      inner = w.walked;
      walks = w.walks;
      over = walk_local fault itself files (object_of (told ws)) m w.walked w.walks (λ k o s f. there (told ws k) o k (walk_told fault files n ws h k o (w.subset k s) f));
    }
  where
    there : (x : Option Object) (o : Object) (k : List ℕ) → x ≡ Some o → ok_or x (NotThere k) ≡ Ok o
    there x o k h = rw h refl
