-- The names whose files a walk looks at, name by name, and the calls that this takes.
use Rattle.std.proofs.Common.{◌≡◌, ◌≤◌, ◌<◌, ℕ, zero, suc, ◌+◌, ◌-◌, List, [], ◌∷◌, Bool, true, false, cond, Option, Some, None, Result, Ok, Err, refl, sym, ap, ◌∙◌, arith, add-zero}
use Rattle.std.specs.Prelude.{count_by}
use Rattle.std.proofs.lemmas.List.Sums.{sum_by-cons}
use Rattle.pl_base.specs.Answers.{◌>>=◌, because}
use Rattle.pl_base.specs.Names.{is_valid_name}
use Rattle.pl_folder.specs.Calls.{Calls}
use Rattle.pl_folder.specs.Disk.{Disk, State, after, waited}
use Rattle.pl_folder.specs.Effects.{Asks, Effect, SameFiles}
use Rattle.pl_folder.specs.Seen.{Seen, Done, Broken, Undone}
use Rattle.pl_object.specs.declared.object.Object.{Object}
use Rattle.pl_scope.specs.Walk as walk
use Rattle.pl_scope.specs.Walking.{Walking, wants}
use Rattle.pl_scope.specs.declared.constants.TheConstants.{MAX_MEMBERS}
use Rattle.pl_loader.specs.Walk.{walk_fault}
use Rattle.pl_texts.specs.declared.cause.Cause.{Cause}
use Rattle.pl_texts.specs.declared.cause.Cause.TheVariants as causes
use Rattle.pl_texts.specs.Looks.{ObjectOf, looks, looks_from, names_from, stepped, takes, unless_refused}
use Rattle.pl_texts.proofs.CallLemmas.{as_calls, no_calls, then_calls}

-- how many files are still to be taken
abbrev pub left_from : ObjectOf → Walking → ℕ
left_from object w = count_by is_valid_name (looks_from object (MAX_MEMBERS - w.given) w)

-- one call, or none
abbrev pub one_if_valid : List ℕ → ℕ
one_if_valid n = count_by is_valid_name (n ∷ [])

-- ---- the next name

unless_err : (r : Result Walking Cause) (cause : Cause) (rest : Walking → List (List ℕ)) → r ≡ Err cause → unless_refused r rest ≡ []
unless_err r cause rest is = ap (λ (s : Result Walking Cause). unless_refused s rest) is

unless_ok : (r : Result Walking Cause) (v : Walking) (rest : Walking → List (List ℕ)) → r ≡ Ok v → unless_refused r rest ≡ rest v
unless_ok r v rest is = ap (λ (s : Result Walking Cause). unless_refused s rest) is

pub one_is : (n : List ℕ) → one_if_valid n ≡ cond (is_valid_name n) 1 0
one_is n = sum_by-cons (λ m. cond (is_valid_name m) 1 0) n [] ∙ add-zero (cond (is_valid_name n) 1 0)

count_first : (n : List ℕ) (ns : List (List ℕ)) → count_by is_valid_name (n ∷ ns) ≡ one_if_valid n + count_by is_valid_name ns
count_first n ns = sum_by-cons (λ m. cond (is_valid_name m) 1 0) n ns ∙ ap (λ (k : ℕ). k + count_by is_valid_name ns) (sym (one_is n))

module _ (object : ObjectOf) (w : Walking) (n : List ℕ) (below : w.given < MAX_MEMBERS) (is : wants w ≡ Some n) where
  next_name : looks_from object (MAX_MEMBERS - w.given) w ≡ n ∷ unless_refused (stepped object w n) (looks_from object (MAX_MEMBERS - (w.given + 1)))
  unfolding looks_from
  next_name =
      let size : MAX_MEMBERS - w.given ≡ suc (MAX_MEMBERS - (w.given + 1)) = omega arith in
      ap (λ (most : ℕ). looks_from object most w) size
      ∙ ap (λ (o : Option (List ℕ)). names_from o (λ m. unless_refused (stepped object w m) (looks_from object (MAX_MEMBERS - (w.given + 1))))) is

  -- its file is given to the walk
  pub left_more : (v : Walking) → v.given ≡ w.given + 1 → stepped object w n ≡ Ok v → left_from object w ≡ one_if_valid n + left_from object v
  left_more v more step =
      ap (count_by is_valid_name) next_name
      ∙ count_first n (unless_refused (stepped object w n) (looks_from object (MAX_MEMBERS - (w.given + 1))))
      ∙ ap (λ (ns : List (List ℕ)). one_if_valid n + count_by is_valid_name ns) (unless_ok (stepped object w n) v (looks_from object (MAX_MEMBERS - (w.given + 1))) step)
      ∙ ap (λ (k : ℕ). one_if_valid n + count_by is_valid_name (looks_from object (MAX_MEMBERS - k) v)) (sym more)

  -- it is not there or refused
  pub left_last : (cause : Cause) → stepped object w n ≡ Err cause → left_from object w ≡ one_if_valid n
  left_last cause step =
      ap (count_by is_valid_name) next_name
      ∙ ap (λ (ns : List (List ℕ)). count_by is_valid_name (n ∷ ns)) (unless_err (stepped object w n) cause (looks_from object (MAX_MEMBERS - (w.given + 1))) step)

  pub left_some : one_if_valid n ≤ left_from object w
  left_some =
      let all = ap (count_by is_valid_name) next_name ∙ count_first n (unless_refused (stepped object w n) (looks_from object (MAX_MEMBERS - (w.given + 1)))) in
      omega (arith, all)

-- no name is wanted
no_names : (object : ObjectOf) (most : ℕ) (w : Walking) → wants w ≡ None → looks_from object most w ≡ []
unfolding looks_from
no_names object zero w is = refl
no_names object (suc most) w is = ap (λ (o : Option (List ℕ)). names_from o (λ m. unless_refused (stepped object w m) (looks_from object most))) is

pub left_none : (object : ObjectOf) (w : Walking) → wants w ≡ None → left_from object w ≡ 0
left_none object w is = ap (count_by is_valid_name) (no_names object (MAX_MEMBERS - w.given) w is)

-- all are still to be looked at
pub left_all : (object : ObjectOf) (name : List ℕ) → left_from object (walk.begun name) ≡ takes object name
unfolding looks
left_all object name = refl

-- ---- the wanted name has no object, or the walk was given it

pub step_lacks : (object : ObjectOf) (w : Walking) (n : List ℕ) (cause : Cause) → object n ≡ Err cause → stepped object w n ≡ Err cause
step_lacks object w n cause lacks = ap (λ (r : Result Object Cause). r >>= λ o. because (walk_fault causes.Load) (walk.entered w n o)) lacks

pub step_given : (object : ObjectOf) (w : Walking) (n : List ℕ) (o : Object) → object n ≡ Ok o → wants w ≡ Some n → stepped object w n ≡ because (walk_fault causes.Load) (walk.give w o)
step_given object w n o there is =
    ap (λ (r : Result Object Cause). r >>= λ o. because (walk_fault causes.Load) (walk.entered w n o)) there
    ∙ ap (λ (wanted : Option (List ℕ)). because (walk_fault causes.Load) (walk.of_wanted w o wanted)) (sym is)

-- ---- calls in which nothing changes

waited_now : (k : ℕ) (d : Disk) → (waited k d).now ≡ d.now
waited_now zero d = refl
waited_now (suc k) d = refl

waited_more : (j k : ℕ) (d : Disk) → waited j (waited k d) ≡ waited (j + k) d
waited_more zero k d = let e : 0 + k ≡ k = omega arith in rw e refl
waited_more (suc j) k d =
    let e : suc j + k ≡ suc (j + k) = omega arith in
    rw e (ap (λ (s : State). after s (waited j (waited k d))) (waited_now k d) ∙ ap (after d.now) (waited_more j k d))

-- all of these calls but so many were made
abbrev pub AllBut : ℕ → ℕ → Effect
AllBut left total = record { files = SameFiles; disk = λ ending old new. (k : ℕ) × (k + left ≡ total) × (new ≡ waited k old) }

abbrev pub WaitsIn : ℕ → Disk → Disk → Type 0
WaitsIn most old new = (k : ℕ) × (k ≤ most) × (new ≡ waited k old)

more_waited : (j k : ℕ) (a b c : Disk) → b ≡ waited k a → c ≡ waited j b → c ≡ waited (j + k) a
more_waited j k a b c first second = second ∙ ap (waited j) first ∙ waited_more j k a

-- all but so many, and then some of these
some_waited : (left total j : ℕ) (a b c : Disk) → (k : ℕ) × (k + left ≡ total) × (b ≡ waited k a) → j ≤ left → WaitsIn j b c → WaitsIn total a c
some_waited left total j a b c p size q =
    let sum = p.1 in
    let most = q.1 in
    (q.0 + p.0, omega (arith, size, sum, most), more_waited q.0 p.0 a b c p.2 q.2)

-- all but so many, and then so many more
all_waited : (left total rest j : ℕ) (a b c : Disk) → (k : ℕ) × (k + left ≡ total) × (b ≡ waited k a) → left ≡ j + rest → c ≡ waited j b → (k : ℕ) × (k + rest ≡ total) × (c ≡ waited k a)
all_waited left total rest j a b c p split q =
    let sum = p.1 in
    (j + p.0, omega (arith, split, sum), more_waited j p.0 a b c p.2 q)

-- none is left
whole_waited : (left total : ℕ) (a b : Disk) → (k : ℕ) × (k + left ≡ total) × (b ≡ waited k a) → left ≡ 0 → b ≡ waited total a
whole_waited left total a b p none =
    let sum = p.1 in
    let whole : p.0 ≡ total = omega (arith, none, sum) in
    p.2 ∙ ap (λ (k : ℕ). waited k a) whole

module _ {a b c : Seen} {left total : ℕ} (j : ℕ) (so_far : Calls Done (AllBut left total) a b) where
  -- one name more
  pub and_more : (rest : ℕ) → (a.records ≡ true → left ≡ j + rest) → Calls Done (Asks j) b c → Calls Done (AllBut rest total) a c
  and_more rest split call = then_calls Done Done refl so_far call (λ told same more. more ∙ same) (λ told p q. all_waited left total rest j a.disk b.disk c.disk p (split told) q)

  -- the last name
  pub and_last : (a.records ≡ true → left ≡ j) → Calls Done (Asks j) b c → Calls Done (Asks total) a c
  and_last all call = then_calls Done Done refl so_far call (λ told same more. more ∙ same)
      (λ told p q. let size = all told in whole_waited 0 total a.disk c.disk (all_waited left total 0 j a.disk b.disk c.disk p (omega (arith, size)) q) refl)

  -- a name, after which memory lacked
  pub and_lacking : (a.records ≡ true → j ≤ left) → Calls Done (Asks j) b c → Calls Undone (Asks total) a c
  and_lacking within call = then_calls Done Undone refl so_far call (λ told same more. more ∙ same)
      (λ told p q. some_waited left total j a.disk b.disk c.disk p (within told) (j, omega arith, q))

  -- a name at which the folder failed or memory lacked
  pub and_broken : (a.records ≡ true → j ≤ left) → Calls Broken (Asks j) b c → Calls Broken (Asks total) a c
  and_broken within call = then_calls Broken Broken refl so_far call (λ told same more. more ∙ same) (λ told p q. some_waited left total j a.disk b.disk c.disk p (within told) q)

  pub and_undone : (a.records ≡ true → j ≤ left) → Calls Undone (Asks j) b c → Calls Undone (Asks total) a c
  and_undone within call = then_calls Undone Undone refl so_far call (λ told same more. more ∙ same) (λ told p q. some_waited left total j a.disk b.disk c.disk p (within told) q)

-- ---- a walk begins, and ends

module _ (a : Seen) where
  pub no_call : (n : ℕ) → n ≡ 0 → Calls Done (Asks n) a a
  no_call n none = no_calls Done a refl refl (ap (λ (k : ℕ). waited k a.disk) (sym none))

  pub lacks_early : (n : ℕ) → Calls Undone (Asks n) a a
  lacks_early n = no_calls Undone a refl refl (0, omega arith, refl)

  pub none_yet : (left total : ℕ) → left ≡ total → Calls Done (AllBut left total) a a
  none_yet left total all = no_calls Done a refl refl (0, omega (arith, all), refl)

pub all_taken : {a b : Seen} (left total : ℕ) → left ≡ 0 → Calls Done (AllBut left total) a b → Calls Done (Asks total) a b
all_taken {a = a} {b = b} left total none so_far = as_calls Done Done refl so_far (λ told same. same) (λ told p. whole_waited left total a.disk b.disk p none)

-- a name that is not valid is not taken, and one that is is taken once
pub one_if_not : (n : List ℕ) → is_valid_name n ≡ false → one_if_valid n ≡ 0
one_if_not n invalid = one_is n ∙ ap (λ (b : Bool). cond b 1 0) invalid

pub one_if_so : (n : List ℕ) → is_valid_name n ≡ true → one_if_valid n ≡ 1
one_if_so n valid = one_is n ∙ ap (λ (b : Bool). cond b 1 0) valid

-- nor is a file for it looked for
pub takes_none : (object : ObjectOf) (name : List ℕ) (cause : Cause) → is_valid_name name ≡ false → object name ≡ Err cause → takes object name ≡ 0
takes_none object name cause invalid lacks =
    sym (left_all object name)
    ∙ left_last object (walk.begun name) name (omega arith) refl cause (step_lacks object (walk.begun name) name cause lacks)
    ∙ one_if_not name invalid
