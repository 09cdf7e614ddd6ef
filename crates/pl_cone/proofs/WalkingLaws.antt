-- A walk by the numbers of names goes as pl_scope's walk goes by the names.
use Rattle.std.proofs.Common.{◌≡◌, ◌≢◌, ℕ, zero, suc, ◌+◌, ◌<◌, ◌≤◌, Bool, true, false, ◌||◌, ◌&&◌, cond, List, [], ◌∷◌, ◌++◌, length, map, take, set, replicate, get_or, Option, Some, None, Result, Ok, Err, refl, sym, ap, ◌∙◌, subst, arith, inl, inr}
use Rattle.std.specs.Prelude.{slice_get, find, nat_lt, nat_le, ◌==◌, ◌⊎◌, MatchBool, ⊤}
use Rattle.std.specs.List.{list_any}
use Rattle.std.specs.Str.{bytes_eq}
use Rattle.std.proofs.lemmas.Bool.{cases_Bool, cases_eq, false≢true, true≢false, eq-eqb, ne_eqb, lt-ltb, le-leb, lt-leb, or_left, or_from}
use Rattle.std.proofs.lemmas.List.{length_push, map_push, length-map, length-take, length-replicate, get_or-replicate, take-take}
use Rattle.std.proofs.lemmas.List.Elements.{All-cons, All-head, All-nil, All-tail, All-push}
use Rattle.std.proofs.lemmas.List.Folds.{list_any-append}
use Rattle.std.proofs.lemmas.Option.{slice_get-map, slice_get_within, slice_get-get_or, get_or_from_slice_get}
use Rattle.pl_base.specs.Answers.{◌>>=◌, because, unless_found, AnswersAs}
use Rattle.pl_base.specs.Each.{run}
use Rattle.pl_elf.specs.Kinds.{is_library, is_program}
use Rattle.pl_elf.specs.declared.kind.Kind.{Kind}
use Rattle.pl_elf.specs.declared.kind.Kind.TheVariants.{Library, Program, Static}
use Rattle.pl_object.specs.declared.object.Object.{Object}
use Rattle.pl_scope.specs.Walk as scope
use Rattle.pl_scope.specs.Walk.{next}
use Rattle.pl_scope.specs.Walking.{Walking}
use Rattle.pl_scope.specs.declared.fault.WalkFault.{WalkFault}
use Rattle.pl_scope.specs.declared.fault.WalkFault.TheVariants as faults
use Rattle.pl_scope.proofs.NameLaws.{same_name, eq_refl}
use Rattle.pl_cone.specs.Needs.{IsPast, MayBeginNext, IsSeen, IsNumberWalk, checked, AreNameNumbers, IsMore, walk_names, added, state, checked_at, entered, entered_at, state_after, is_program_row, is_program_file, is_program_object, AreNeeds, Tell, all_names, all_needed, name_of, told_name, needed_in, needed_by, needed_at, numbers_at, object_at, object_for, object_by_number}
use Rattle.pl_base.proofs.AnswerLaws.{ok_same}
use Rattle.pl_form.specs.declared.file.Entry.{Entry}
use Rattle.pl_form.specs.declared.file.Entry.TheVariants.{There, BadMark, Refused}
use Rattle.pl_cone.specs.Skips.{skip_is_memory, of_walk}
use Rattle.pl_cone.specs.Taken.{object_by, object_of}
use Rattle.pl_cone.specs.declared.taken.Taken.{Taken}
use Rattle.pl_cone.specs.declared.needs.Needs.{Needs}
use Rattle.pl_cone.specs.declared.skip.Skip.{Skip}
use Rattle.pl_cone.specs.declared.skip.Skip.TheVariants as skips
use Rattle.pl_cone.specs.declared.walking.NumberWalk as walking
use Rattle.pl_cone.proofs.NeedLaws.{slice_get_at}

-- what is meant where a refusal is no want of memory
pub answers_err : {X Y : Type 0} (e : Skip) (a : Result X Skip) (b : Result Y Skip) → (a ≡ Err e → b ≡ Err e) → MatchBool (skip_is_memory e) ⊤ (a ≡ Err e) → MatchBool (skip_is_memory e) ⊤ (b ≡ Err e)
answers_err e a b goes h =
    elim (skip_is_memory e) as (λ m. MatchBool m ⊤ (a ≡ Err e) → MatchBool m ⊤ (b ≡ Err e)) [
      | true ↦ λ _. tt
      | false ↦ λ is. goes is
    ] h

or_true : (a b : Bool) → b ≡ true → (a || b) ≡ true
or_true true b is = refl
or_true false b is = is

or_none : (a : Bool) → (a || false) ≡ a
or_none true = refl
or_none false = refl

slice_get_set : {X : Type 0} (xs : List X) (i : ℕ) (x : X) → i < length xs → slice_get (set xs i x) i ≡ Some x
slice_get_set [] i x lt = absurd (omega arith)
slice_get_set (y ∷ xs) zero x lt = refl
slice_get_set (y ∷ xs) (suc i) x lt = slice_get_set xs i x (omega (arith, lt))

slice_get_set_other : {X : Type 0} (xs : List X) (i k : ℕ) (x : X) → (i ≡ k → ⊥) → slice_get (set xs i x) k ≡ slice_get xs k
slice_get_set_other [] i k x other = refl
slice_get_set_other (y ∷ xs) zero zero x other = absurd (other refl)
slice_get_set_other (y ∷ xs) zero (suc k) x other = refl
slice_get_set_other (y ∷ xs) (suc i) zero x other = refl
slice_get_set_other (y ∷ xs) (suc i) (suc k) x other = slice_get_set_other xs i k x (λ same. other (ap (λ (j : ℕ). suc j) same))

-- what stood in front of a list in front of a list stands in front of it
front_kept : (first before after : List ℕ) → take (length first) before ≡ first → take (length before) after ≡ before → take (length first) after ≡ first
front_kept first before after h k =
    let one : length (take (length first) before) ≡ length first = ap length h in
    let two = length-take (length first) before in
    let le : length first ≤ length before = omega arith in
    sym (take-take (length first) (length before) after le) ∙ ap (take (length first)) k ∙ h

-- ---- a number for each name

module _ (n : Needs) (are : AreNeeds n) where
  pub named : (k : ℕ) → k < length (all_names n) → slice_get (all_names n) k ≡ Some (name_of n k)
  named k lt = let at = slice_get_at (all_names n) k lt in at.1 ∙ ap (λ (m : List ℕ). Some m) (sym (ap told_name at.1))

  same_number : (i j : ℕ) → i < length (all_names n) → j < length (all_names n) → bytes_eq (name_of n i) (name_of n j) ≡ (i == j)
  same_number i j first second =
      elim (cases_eq i j) [
        | inl same ↦ ap (λ (k : ℕ). bytes_eq (name_of n i) (name_of n k)) (sym same) ∙ eq_refl (name_of n i) ∙ sym (eq-eqb i j same)
        | inr other ↦
            elim (cases_Bool (bytes_eq (name_of n i) (name_of n j))) [
              | inl same ↦ absurd (other (are.once i j (name_of n j) (named i first ∙ ap (λ (m : List ℕ). Some m) (same_name (name_of n i) (name_of n j) same)) (named j second)))
              | inr differ ↦ differ ∙ sym (ne_eqb i j other)
            ]
      ]

  -- a name is among the names of numbers if its number is among them
  pub has_number : (numbers : List ℕ) (number : ℕ) → AreNameNumbers n numbers → number < length (all_names n) → list_any (λ m. bytes_eq m (name_of n number)) (map (name_of n) numbers) ≡ list_any (λ m. m == number) numbers
  has_number [] number all lt = refl
  has_number (m ∷ ms) number all lt =
      let here : bytes_eq (name_of n m) (name_of n number) ≡ (m == number) = same_number m number (All-head (λ (k : ℕ). k < length (all_names n)) m ms all) lt in
      let rest = has_number ms number (All-tail (λ (k : ℕ). k < length (all_names n)) m ms all) lt in
      ap (λ (b : Bool). b || list_any (λ x. bytes_eq x (name_of n number)) (map (name_of n) ms)) here ∙ ap (λ (b : Bool). (m == number) || b) rest

-- ---- one name more

module _ (n : Needs) (are : AreNeeds n) (numbers : List ℕ) (number : ℕ) (all : AreNameNumbers n numbers) (lt : number < length (all_names n)) where
  seen_by : (names : List (List ℕ)) → names ≡ map (name_of n) numbers → (b : Bool) → list_any (λ m. m == number) numbers ≡ b → list_any (λ m. bytes_eq m (name_of n number)) names ≡ b
  seen_by names is b has = ap (list_any (λ m. bytes_eq m (name_of n number))) is ∙ has_number n are numbers number all lt ∙ has

  pub added_seen : list_any (λ m. m == number) numbers ≡ true → added n (map (name_of n) numbers) number ≡ Ok (map (name_of n) numbers)
  unfolding scope.added
  added_seen has = rw (seen_by (map (name_of n) numbers) refl true has) refl

  pub added_full : list_any (λ m. m == number) numbers ≡ false → 256 ≤ length numbers → added n (map (name_of n) numbers) number ≡ Err (skips.TooMany (name_of n number))
  unfolding scope.added
  added_full has full =
      let le : nat_le 256 (length (map (name_of n) numbers)) ≡ true = ap (nat_le 256) (length-map numbers (name_of n)) ∙ le-leb 256 (length numbers) full in
      rw (seen_by (map (name_of n) numbers) refl false has, le) refl

  pub added_new : list_any (λ m. m == number) numbers ≡ false → length numbers < 256 → added n (map (name_of n) numbers) number ≡ Ok (map (name_of n) (numbers ++ number ∷ []))
  unfolding scope.added
  added_new has room =
      let le : nat_le 256 (length (map (name_of n) numbers)) ≡ false = ap (nat_le 256) (length-map numbers (name_of n)) ∙ lt-leb 256 (length numbers) room in
      rw (seen_by (map (name_of n) numbers) refl false has, le, map_push (name_of n) numbers number) refl

-- the flags with one number more
module _ (n : Needs) (before after : walking.NumberWalk) (number : ℕ) (is : IsNumberWalk n before) (lt : number < length (all_names n))
    (numbers : after.numbers.items ≡ before.numbers.items ++ number ∷ []) (last : after.last.items ≡ set before.last.items number before.walk) (walk : after.walk ≡ before.walk) where
  seen_here : (k : ℕ) → number ≡ k → IsSeen before k → IsSeen after k
  seen_here k same seen =
      let within : number < length before.last.items = subst (λ (j : ℕ). j < length before.last.items) (sym same) (slice_get_within before.last.items k seen.last seen.at) in
      let at : slice_get after.last.items k ≡ Some before.walk = ap (slice_get after.last.items) (sym same) ∙ ap (λ (xs : List ℕ). slice_get xs number) last ∙ slice_get_set before.last.items number before.walk within in
      let here : list_any (λ m. m == k) (number ∷ []) ≡ true = or_left (number == k) false (eq-eqb number k same) in
      let some : list_any (λ m. m == k) after.numbers.items ≡ true = ap (list_any (λ m. m == k)) numbers ∙ list_any-append (λ m. m == k) before.numbers.items (number ∷ []) ∙ or_true (list_any (λ m. m == k) before.numbers.items) (list_any (λ m. m == k) (number ∷ [])) here in
      record {
        last = before.walk;
        at = at;
        past = omega (arith, walk);
        now = eq-eqb before.walk after.walk (sym walk) ∙ sym some;
      }

  seen_elsewhere : (k : ℕ) → (number ≡ k → ⊥) → IsSeen before k → IsSeen after k
  seen_elsewhere k other seen =
      let none : list_any (λ m. m == k) (number ∷ []) ≡ false = or_from (number == k) false (ne_eqb number k other) refl in
      let same : list_any (λ m. m == k) after.numbers.items ≡ list_any (λ m. m == k) before.numbers.items =
      ap (list_any (λ m. m == k)) numbers ∙ list_any-append (λ m. m == k) before.numbers.items (number ∷ []) ∙ ap (λ (b : Bool). list_any (λ m. m == k) before.numbers.items || b) none ∙ or_none (list_any (λ m. m == k) before.numbers.items) in
      record {
        last = seen.last;
        at = ap (λ (xs : List ℕ). slice_get xs k) last ∙ slice_get_set_other before.last.items number k before.walk other ∙ seen.at;
        past = omega (arith, seen.past, walk);
        now = ap (λ (w : ℕ). seen.last == w) walk ∙ seen.now ∙ sym same;
      }

  pub walking_more : length before.numbers.items < 256 → IsNumberWalk n after
  walking_more room = record {
    named = subst (λ (xs : List ℕ). AreNameNumbers n xs) (sym numbers) (All-push (λ (k : ℕ). k < length (all_names n)) before.numbers.items number is.named lt);
    few = let long : length after.numbers.items ≡ length before.numbers.items + 1 = ap length numbers ∙ length_push before.numbers.items number in omega (arith, long, room);
    seen = λ k below. elim (cases_eq number k) [ inl same ↦ seen_here k same (is.seen k below) | inr other ↦ seen_elsewhere k other (is.seen k below) ];
  }

check_zero : (n : Needs) (w : walking.NumberWalk) (o : Object) (number : ℕ) → because of_walk (scope.checked (state n 0 w) (name_of n number) o) ≡ Ok tt
unfolding scope.checked
check_zero n w o number = refl

-- a walk that begins
module _ (n : Needs) (row : ℕ) (before after : walking.NumberWalk) (ready : MayBeginNext n row before) (lt : row < length (all_names n)) where
  -- nothing was added yet
  pub begun_ready : after.last.items ≡ before.last.items → MayBeginNext n (row + 1) after
  begun_ready last = record {
    seen = λ k below.
        let old = ready.seen k below in
        record { last = old.last; at = ap (λ (xs : List ℕ). slice_get xs k) last ∙ old.at; past = omega (arith, old.past) };
  }

  module _ (numbers : after.numbers.items ≡ row ∷ []) (last : after.last.items ≡ set before.last.items row (row + 1)) (walk : after.walk ≡ row + 1) where
    begun_here : (k : ℕ) → row ≡ k → IsPast before row k → IsSeen after k
    begun_here k same old =
        let within : row < length before.last.items = subst (λ (j : ℕ). j < length before.last.items) (sym same) (slice_get_within before.last.items k old.last old.at) in
        let here : list_any (λ m. m == k) after.numbers.items ≡ true = ap (list_any (λ m. m == k)) numbers ∙ or_left (row == k) false (eq-eqb row k same) in
        record {
          last = row + 1;
          at = ap (slice_get after.last.items) (sym same) ∙ ap (λ (xs : List ℕ). slice_get xs row) last ∙ slice_get_set before.last.items row (row + 1) within;
          past = omega (arith, walk);
          now = eq-eqb (row + 1) after.walk (sym walk) ∙ sym here;
        }

    begun_elsewhere : (k : ℕ) → (row ≡ k → ⊥) → IsPast before row k → IsSeen after k
    begun_elsewhere k other old =
        let none : list_any (λ m. m == k) after.numbers.items ≡ false = ap (list_any (λ m. m == k)) numbers ∙ or_from (row == k) false (ne_eqb row k other) refl in
        record {
          last = old.last;
          at = ap (λ (xs : List ℕ). slice_get xs k) last ∙ slice_get_set_other before.last.items row k (row + 1) other ∙ old.at;
          past = omega (arith, old.past, walk);
          now = ne_eqb old.last after.walk (λ same. absurd (omega (arith, same, old.past, walk))) ∙ sym none;
        }

    pub begun_walking : IsNumberWalk n after
    begun_walking = record {
      named = subst (λ (xs : List ℕ). AreNameNumbers n xs) (sym numbers) (All-cons (λ (k : ℕ). k < length (all_names n)) row [] lt (All-nil (λ (k : ℕ). k < length (all_names n))));
      few = let one = ap length numbers in omega (arith, one);
      seen = λ k below. elim (cases_eq row k) [ inl same ↦ begun_here k same (ready.seen k below) | inr other ↦ begun_elsewhere k other (ready.seen k below) ];
    }

-- a walk leaves no later mark
pub ready_after : (n : Needs) (walks : ℕ) (w : walking.NumberWalk) → IsNumberWalk n w → w.walk ≡ walks → MayBeginNext n walks w
ready_after n walks w is same = record {
  seen = λ k below. let old = is.seen k below in record { last = old.last; at = old.at; past = omega (arith, old.past, same) };
}

-- no walk has begun
pub none_ready : (n : Needs) (w : walking.NumberWalk) (count : ℕ) → count ≡ length (all_names n) → w.last.items ≡ replicate count 0 → MayBeginNext n 0 w
none_ready n w count same last = record {
  seen = λ k below.
      let lt : k < count = omega (arith, below, same) in
      let long : k < length (replicate count 0) = omega (arith, lt, length-replicate {A = ℕ} count 0) in
      let zero_at : get_or (replicate count 0) k 0 ≡ 0 = get_or-replicate count k 0 0 lt in
      record { last = 0; at = ap (λ (xs : List ℕ). slice_get xs k) last ∙ slice_get-get_or (replicate count 0) k 0 long ∙ ap (λ (x : ℕ). Some x) zero_at; past = omega arith };
}

-- the first object may stand
pub checked_first : (n : Needs) (w : walking.NumberWalk) (o : Object) (index : ℕ) → index ≡ 0 → checked n index w o ≡ Ok tt
checked_first n w o index first = by (slice_get w.numbers.items index)
  where
    by : (x : Option ℕ) → checked_at n index w o x ≡ Ok tt
    by None = refl
    by (Some number) = subst (λ (i : ℕ). because of_walk (scope.checked (state n i w) (name_of n number) o) ≡ Ok tt) (sym first) (check_zero n w o number)

pub more_than : (a b c : walking.NumberWalk) → IsMore a b → IsMore b c → IsMore a c
more_than a b c first then = record { walk = then.walk ∙ first.walk; front = front_kept a.numbers.items b.numbers.items c.numbers.items first.front then.front }

-- ---- whether an object may stand

found_by : (name m : List ℕ) (rest : Option (List ℕ)) (others b : Bool) → bytes_eq m name ≡ b → rest ≡ cond others (Some name) None → cond b (Some m) rest ≡ cond (b || others) (Some name) None
found_by name m rest others true same is = ap (λ (x : List ℕ). Some x) (same_name m name same)
found_by name m rest others false other is = is

found_name : (name : List ℕ) (ns : List (List ℕ)) → find (λ m. bytes_eq m name) ns ≡ cond (list_any (λ m. bytes_eq m name) ns) (Some name) None
found_name name [] = refl
found_name name (m ∷ ms) = found_by name m (find (λ x. bytes_eq x name) ms) (list_any (λ x. bytes_eq x name) ms) (bytes_eq m name) refl (found_name name ms)

either : (b : Bool) (name : List ℕ) → because of_walk (unless_found (cond b (Some name) None) faults.NeededIsProgram (Ok (tt {0}))) ≡ cond b (Err (skips.NeededIsProgram name)) (Ok (tt {0}))
either true name = refl
either false name = refl

module _ (n : Needs) (w : walking.NumberWalk) (o : Object) (number : ℕ) where
  module _ (index : ℕ) (later : 0 < index) where
    pub check_other : is_library o.kind ≡ false → because of_walk (scope.checked (state n index w) (name_of n number) o) ≡ Err (skips.NeededIsProgram (name_of n number))
    unfolding scope.checked
    check_other other = rw (lt-ltb 0 index later, other) refl

    pub check_library : is_library o.kind ≡ true → is_program_row n (slice_get w.numbers.items 0) ≡ false → because of_walk (scope.checked (state n index w) (name_of n number) o) ≡ Ok tt
    unfolding scope.checked
    check_library library other = rw (lt-ltb 0 index later, library, other) refl

    pub check_needed : (are : AreNeeds n) (first : ℕ) (needs : List ℕ) (b : Bool) → is_library o.kind ≡ true → slice_get w.numbers.items 0 ≡ Some first → is_program_row n (Some first) ≡ true
        → o.needed ≡ map (name_of n) needs → AreNameNumbers n needs → first < length (all_names n) → list_any (λ m. m == first) needs ≡ b
        → because of_walk (scope.checked (state n index w) (name_of n number) o) ≡ cond b (Err (skips.NeededIsProgram (name_of n first))) (Ok tt)
    unfolding scope.checked
    check_needed are first needs b library at first_is needed all lt has =
        let name = name_of n first in
        let program : is_program_row n (slice_get w.numbers.items 0) ≡ true = ap (is_program_row n) at ∙ first_is in
        let named : slice_get (walk_names n w) 0 ≡ Some name = slice_get-map (name_of n) w.numbers.items 0 ∙ rw at refl in
        let among : list_any (λ m. bytes_eq m name) o.needed ≡ b = ap (list_any (λ m. bytes_eq m name)) needed ∙ has_number n are needs first all lt ∙ has in
        let found : find (λ m. bytes_eq m name) o.needed ≡ cond b (Some name) None = found_name name o.needed ∙ ap (λ (c : Bool). cond c (Some name) None) among in
        rw (lt-ltb 0 index later, library, program, named, found) (either b name)

-- ---- an object is given

because_bind : {A B : Type 0} (r : Result A WalkFault) (f : A → Result B WalkFault) (g : A → Result B Skip) → ((x : A) → because of_walk (f x) ≡ g x) → because of_walk (r >>= f) ≡ (because of_walk r >>= g)
because_bind (Ok x) f g same = same x
because_bind (Err e) f g same = refl

run_because : (n : Needs) (names : List (List ℕ)) (numbers : List ℕ) → because of_walk (run scope.added names (map (name_of n) numbers)) ≡ run (added n) names numbers
unfolding run
run_because n names [] = refl
run_because n names (k ∷ ks) = because_bind (scope.added names (name_of n k)) (λ more. run scope.added more (map (name_of n) ks)) (λ more. run (added n) more ks) (λ more. run_because n more ks)

-- the object is looked at, and its names are added
pub entered_is : (n : Needs) (index : ℕ) (w : walking.NumberWalk) (number : ℕ) (o : Object) (needs : List ℕ) → o.needed ≡ map (name_of n) needs
    → because of_walk (scope.entered (state n index w) (name_of n number) o)
    ≡ (because of_walk (scope.checked (state n index w) (name_of n number) o) >>= λ _. run (added n) (walk_names n w) needs >>= λ names. Ok (next (state n index w) o names))
unfolding scope.entered
entered_is n index w number o needs needed =
    because_bind (scope.checked (state n index w) (name_of n number) o) (λ _. run scope.added (walk_names n w) o.needed >>= λ names. Ok (next (state n index w) o names))
    (λ _. run (added n) (walk_names n w) needs >>= λ names. Ok (next (state n index w) o names)) (λ _. after)
  where
    added_is : because of_walk (run scope.added (walk_names n w) o.needed) ≡ run (added n) (walk_names n w) needs
    added_is = ap (λ (ns : List (List ℕ)). because of_walk (run scope.added (walk_names n w) ns)) needed ∙ run_because n (walk_names n w) needs

    after : because of_walk (run scope.added (walk_names n w) o.needed >>= λ names. Ok (next (state n index w) o names)) ≡ (run (added n) (walk_names n w) needs >>= λ names. Ok (next (state n index w) o names))
    after =
        because_bind (run scope.added (walk_names n w) o.needed) (λ names. Ok (next (state n index w) o names)) (λ names. Ok (next (state n index w) o names)) (λ names. refl)
        ∙ ap (λ (r : Result (List (List ℕ)) Skip). r >>= λ names. Ok (next (state n index w) o names)) added_is

-- a library is no program
library_only : (kind : Kind) → is_library kind ≡ true → is_program kind ≡ false
library_only Library is = refl
library_only Program is = absurd (false≢true is)
library_only Static is = absurd (false≢true is)

pub err_ok : {X : Type 0} {e : Skip} {x : X} → ◌≡◌ {A = Result X Skip} (Err e) (Ok x) → ⊥
err_ok is = cc

kind_of : (name : List ℕ) (e : Entry) (o : Object) → object_for name e ≡ Ok o → is_program_object (object_by e) ≡ is_program o.kind
kind_of name (There file) o is = ap (λ (x : Object). is_program x.kind) (ok_same (object_of file) o is)
kind_of name BadMark o is = absurd (err_ok is)
kind_of name (Refused number argument) o is = absurd (err_ok is)

kind_by : (name : List ℕ) (x : Option Taken) (o : Object) → object_at name x ≡ Ok o → is_program_file x ≡ is_program o.kind
kind_by name None o is = absurd (err_ok is)
kind_by name (Some t) o is = kind_of t.name t.entry o is

ok_in : {x y : Walking} → x ≡ y → ◌≡◌ {A = Result Walking Skip} (Ok x) (Ok y)
ok_in is = cc

pub slice_get_take : {X : Type 0} (xs : List X) (i k : ℕ) → k < i → slice_get (take i xs) k ≡ slice_get xs k
slice_get_take xs zero k lt = absurd (omega (arith, lt))
slice_get_take [] (suc i) k lt = refl
slice_get_take (x ∷ xs) (suc i) zero lt = refl
slice_get_take (x ∷ xs) (suc i) (suc k) lt = slice_get_take xs i k (omega (arith, lt))

module _ (n : Needs) (index : ℕ) (before after : walking.NumberWalk) (number : ℕ) (o : Object)
    (at : slice_get before.numbers.items index ≡ Some number) (object : object_by_number n number ≡ Ok o) (more : IsMore before after)
    (checks : because of_walk (scope.checked (state n index before) (name_of n number) o) ≡ Ok tt) where
  long : index < length before.numbers.items
  long = slice_get_within before.numbers.items index number at

  first_kept : slice_get after.numbers.items 0 ≡ slice_get before.numbers.items 0
  first_kept =
      let has : 0 < length before.numbers.items = omega (arith, long) in
      sym (slice_get_take after.numbers.items (length before.numbers.items) 0 has) ∙ ap (λ (xs : List ℕ). slice_get xs 0) more.front

  longer : length before.numbers.items ≤ length after.numbers.items
  longer = let cut = length-take (length before.numbers.items) after.numbers.items in let same = ap length more.front in omega (arith, cut, same)

  given : length (take (index + 1) after.numbers.items) ≡ index + 1
  given = let cut = length-take (index + 1) after.numbers.items in omega (arith, cut, long, longer)

  program_kept : (i : ℕ) → i ≡ index → ((nat_lt 0 i && is_program_row n (slice_get before.numbers.items 0)) || is_program o.kind) ≡ is_program_row n (slice_get before.numbers.items 0)
  program_kept zero first = sym (kind_by (name_of n number) (slice_get n.files.now number) o object) ∙ ap (is_program_row n) (sym (ap (slice_get before.numbers.items) first ∙ at))
  program_kept (suc i) later = by_kind (is_library o.kind) refl
    where
      by_kind : (b : Bool) → is_library o.kind ≡ b → ((nat_lt 0 (suc i) && is_program_row n (slice_get before.numbers.items 0)) || is_program o.kind) ≡ is_program_row n (slice_get before.numbers.items 0)
      by_kind true library = rw (library_only o.kind library, lt-ltb 0 (suc i) (omega arith)) (or_none (is_program_row n (slice_get before.numbers.items 0)))
      by_kind false other = absurd (err_ok (sym (check_other n before o number index (omega (arith, later)) other) ∙ checks))

  next_is : next (state n index before) o (walk_names n after) ≡ state_after n index after
  next_is =
      let program : ((nat_lt 0 index && is_program_row n (slice_get before.numbers.items 0)) || is_program o.kind) ≡ (nat_lt 0 (index + 1) && is_program_row n (slice_get after.numbers.items 0)) =
      program_kept index refl ∙ ap (is_program_row n) (sym first_kept) ∙ ap (λ (b : Bool). b && is_program_row n (slice_get after.numbers.items 0)) (sym (lt-ltb 0 (index + 1) (omega arith))) in
      ap (λ (b : Bool). made (index + 1) b) program ∙ ap (λ (g : ℕ). made g (nat_lt 0 g && is_program_row n (slice_get after.numbers.items 0))) (sym given)
    where
      made : ℕ → Bool → Walking
      made g b = record { names = walk_names n after; given = g; program = b }

  -- all names were added
  pub enters : (needs : List ℕ) → o.needed ≡ map (name_of n) needs → run (added n) (walk_names n before) needs ≡ Ok (walk_names n after) → entered_at n index before (Some number) ≡ Ok (state_after n index after)
  enters needs needed ran =
      rw object (entered_is n index before number o needs needed ∙ rw (checks, ran) (ok_in next_is))

  -- what refuses the object, or one of its names
  pub enter_stops : (needs : List ℕ) (e : Skip) → o.needed ≡ map (name_of n) needs → run (added n) (walk_names n before) needs ≡ Err e → entered_at n index before (Some number) ≡ Err e
  enter_stops needs e needed ran = rw object (entered_is n index before number o needs needed ∙ rw (checks, ran) refl)

pub enter_refused : (n : Needs) (index : ℕ) (w : walking.NumberWalk) (number : ℕ) (o : Object) (needs : List ℕ) (e : Skip) → object_by_number n number ≡ Ok o → o.needed ≡ map (name_of n) needs
    → because of_walk (scope.checked (state n index w) (name_of n number) o) ≡ Err e → entered_at n index w (Some number) ≡ Err e
enter_refused n index w number o needs e object needed checks = rw object (entered_is n index w number o needs needed ∙ rw checks refl)

-- the names that the object of a number needs have the numbers that are told
pub needed_is : (n : Needs) (are : AreNeeds n) (number : ℕ) (o : Object) → object_by_number n number ≡ Ok o → Tell (all_names n) o.needed (needed_at n number)
needed_is n are number o object = by (slice_get n.files.now number) refl object
  where
    names_by : (name : List ℕ) (e : Entry) → object_for name e ≡ Ok o → needed_in (object_by e) ≡ o.needed
    names_by name (There file) is = ap (λ (x : Object). x.needed) (ok_same (object_of file) o is)
    names_by name BadMark is = absurd (err_ok is)
    names_by name (Refused a b) is = absurd (err_ok is)

    by : (x : Option Taken) → slice_get n.files.now number ≡ x → object_at (name_of n number) x ≡ Ok o → Tell (all_names n) o.needed (needed_at n number)
    by None at is = absurd (err_ok is)
    by (Some t) at is =
        let lt : number < length (all_needed n) = omega (arith, are.needed.rows, slice_get_within n.files.now number t at) in
        let told = slice_get_at (all_needed n) number lt in
        subst (λ (needed : List (List ℕ)). Tell (all_names n) needed (needed_at n number)) (names_by t.name t.entry is)
        (subst (λ (v : List ℕ). Tell (all_names n) (needed_by t) v) (sym (ap numbers_at told.1)) (are.needed.each number t told.0 at told.1))

-- ---- what the functions give

-- whether a name is in the walk, by when it was last seen
pub seen_is : (w : walking.NumberWalk) (number value : ℕ) → IsSeen w number → value ≡ get_or w.last.items number value → list_any (λ m. m == number) w.numbers.items ≡ (value == w.walk)
seen_is w number value seen at = sym seen.now ∙ ap (λ (v : ℕ). v == w.walk) (sym (at ∙ get_or_from_slice_get w.last.items number seen.last value seen.at))

-- a walk goes by its numbers, its marks and its own
pub walking_same : (n : Needs) (before after : walking.NumberWalk) → after.numbers.items ≡ before.numbers.items → after.last.items ≡ before.last.items → after.walk ≡ before.walk → IsNumberWalk n before → IsNumberWalk n after
walking_same n before after numbers last walk is = record {
  named = subst (λ (xs : List ℕ). AreNameNumbers n xs) (sym numbers) is.named;
  few = let long = ap length numbers in omega (arith, long, is.few);
  seen = λ k below.
      let old = is.seen k below in
      record {
        last = old.last;
        at = ap (λ (xs : List ℕ). slice_get xs k) last ∙ old.at;
        past = omega (arith, old.past, walk);
        now = ap (λ (v : ℕ). old.last == v) walk ∙ old.now ∙ ap (list_any (λ m. m == k)) (sym numbers);
      };
}

-- the object of an index after the first
module _ (n : Needs) (are : AreNeeds n) (index : ℕ) (w : walking.NumberWalk) (number : ℕ) (o : Object) (later : 0 < index) (at : slice_get w.numbers.items index ≡ Some number) (object : object_by_number n number ≡ Ok o) where
  pub check_stops : is_library o.kind ≡ false → checked n index w o ≡ Err (skips.NeededIsProgram (name_of n number))
  check_stops other = ap (checked_at n index w o) at ∙ check_other n w o number index later other

  pub check_passes : is_library o.kind ≡ true → (first : ℕ) → slice_get w.numbers.items 0 ≡ Some first → is_program_row n (Some first) ≡ false → checked n index w o ≡ Ok tt
  check_passes library first first_at other = ap (checked_at n index w o) at ∙ check_library n w o number index later library (ap (is_program_row n) first_at ∙ other)

  pub check_has : is_library o.kind ≡ true → (first : ℕ) → slice_get w.numbers.items 0 ≡ Some first → first < length (all_names n) → is_program_row n (Some first) ≡ true
      → (numbers : List ℕ) → numbers ≡ needed_at n number → (b : Bool) → list_any (λ m. m == first) numbers ≡ b → checked n index w o ≡ cond b (Err (skips.NeededIsProgram (name_of n first))) (Ok tt)
  check_has library first first_at lt program numbers same b has =
      let tell = needed_is n are number o object in
      ap (checked_at n index w o) at
      ∙ check_needed n w o number index later are first (needed_at n number) b library first_at program (sym tell.are) tell.within lt (ap (list_any (λ m. m == first)) (sym same) ∙ has)

-- the object of an index is looked at, and its names are added
module _ (n : Needs) (are : AreNeeds n) (index : ℕ) (before : walking.NumberWalk) (number : ℕ) (o : Object) (at : slice_get before.numbers.items index ≡ Some number) (object : object_by_number n number ≡ Ok o) where
  pub enter_checks : (e : Skip) → MatchBool (skip_is_memory e) ⊤ (checked n index before o ≡ Err e) → MatchBool (skip_is_memory e) ⊤ (entered n index before ≡ Err e)
  enter_checks e =
      answers_err e (checked n index before o) (entered n index before)
      (λ refused. ap (entered_at n index before) at ∙ enter_refused n index before number o (needed_at n number) e object (sym (needed_is n are number o object).are) (sym (ap (checked_at n index before o) at) ∙ refused))

  pub enter_by : (after : walking.NumberWalk) (r : Result (Unit {0}) Skip) (numbers : List ℕ) → numbers ≡ needed_at n number → IsMore before after → checked n index before o ≡ Ok tt
      → AnswersAs (λ _. walk_names n after) skip_is_memory r (run (added n) (walk_names n before) numbers) → AnswersAs (λ _. state_after n index after) skip_is_memory r (entered n index before)
  enter_by after (Ok u) numbers same more checks ran =
      ap (entered_at n index before) at
      ∙ enters n index before after number o at object more (sym (ap (checked_at n index before o) at) ∙ checks) numbers (sym (needed_is n are number o object).are ∙ ap (map (name_of n)) (sym same)) ran
  enter_by after (Err e) numbers same more checks ran =
      answers_err e (run (added n) (walk_names n before) numbers) (entered n index before)
      (λ stopped. ap (entered_at n index before) at
      ∙ enter_stops n index before after number o at object more (sym (ap (checked_at n index before o) at) ∙ checks) numbers e (sym (needed_is n are number o object).are ∙ ap (map (name_of n)) (sym same)) stopped) ran
