-- The walk of a row: what was walked by numbers so far, and what is still to come, are the walk of its name.
use Rattle.std.proofs.Common.{◌≡◌, ℕ, suc, ◌+◌, ◌<◌, ◌≤◌, false, ◌&&◌, List, [], ◌∷◌, ◌++◌, length, map, take, Option, Some, None, Result, Ok, Err, refl, sym, ap, ◌∙◌, subst, arith, inl, inr}
use Rattle.std.specs.Prelude.{slice_get, find, nat_lt, ◌⊎◌, ⊤}
use Rattle.std.specs.Option.{option_map}
use Rattle.std.specs.Str.{bytes_eq}
use Rattle.std.proofs.lemmas.Bool.{cases_Bool, cases_lt, cond-true, cond-false}
use Rattle.std.proofs.lemmas.List.{take_all, take_more, take-take, length_push, length-take, length-map}
use Rattle.std.proofs.lemmas.List.Elements.{All-nil, All-push, filter_map-append}
use Rattle.std.proofs.lemmas.Option.{none-some, same_Some, slice_get-map, slice_get_within, slice_get_past, get_or_from_slice_get}
use Rattle.pl_base.specs.Answers.{◌>>=◌, because}
use Rattle.pl_base.proofs.AnswerLaws.{bind_ok, bind_err, because_ok, because_err, ok_same}
use Rattle.pl_conflict.specs.Format.{format}
use Rattle.pl_form.specs.declared.file.Entry.{Entry}
use Rattle.pl_form.specs.declared.file.Entry.TheVariants.{There, BadMark, Refused}
use Rattle.pl_object.specs.declared.object.Object.{Object}
use Rattle.pl_scope.specs.Walk as scope
use Rattle.pl_scope.specs.Walk.{Walked, give, of_wanted}
use Rattle.pl_scope.specs.Walking.{Walking, wants}
use Rattle.pl_scope.specs.declared.constants.TheConstants.{MAX_MEMBERS}
use Rattle.pl_scope.proofs.NameLaws.{same_name}
use Rattle.pl_scope.proofs.WalkLaws.{walk_begins, walk_goes_on, walk_lacks, walk_stops, walk_ends}
use Rattle.law_sound.specs.Rule as sound
use Rattle.law_sound.specs.Rule.{objects}
use Rattle.pl_cone.specs.Needs.{IsNumberWalk, IsMore, state, entered, entered_at, state_after, is_program_row, AreNeeds, AreNumberedFiles, all_names, name_of, told_name, object_at, object_for, object_by_number}
use Rattle.pl_cone.specs.Skips.{of_walk}
use Rattle.pl_cone.specs.Skipped.{skip_causes}
use Rattle.pl_cone.specs.Table.{AreBelow, member_of, walked_by, walk_named, walk_at, IsWalkAt}
use Rattle.pl_cone.specs.Taken.{files_in, object_by, object_of}
use Rattle.pl_cone.specs.declared.needs.Needs.{Needs}
use Rattle.pl_cone.specs.declared.skip.Skip.{Skip}
use Rattle.pl_cone.specs.declared.taken.Taken.{Taken}
use Rattle.pl_cone.specs.declared.walking.NumberWalk as walking
use Rattle.pl_cone.proofs.NeedLaws.{slice_get_at}
use Rattle.pl_cone.proofs.RowLaws.{row_is}
use Rattle.pl_cone.proofs.WalkingLaws.{named, err_ok, slice_get_take}

-- ---- the file of a name

found_at : (ts : List Taken) (u : Taken) (name : List ℕ) → find (λ x. bytes_eq x.name name) ts ≡ Some u → (i : ℕ) × (slice_get ts i ≡ Some u) × (u.name ≡ name)
found_at [] u name is = absurd (none-some u is)
found_at (t ∷ ts) u name is =
    elim (cases_Bool (bytes_eq t.name name)) [
      | inl same ↦
          let first : t ≡ u = same_Some t u (sym (cond-true (bytes_eq t.name name) (Some t) (find (λ x. bytes_eq x.name name) ts) same) ∙ is) in
          (0, ap (λ (x : Taken). Some x) first, sym (ap (λ (x : Taken). x.name) first) ∙ same_name t.name name same)
      | inr other ↦
          let rest = found_at ts u name (sym (cond-false (bytes_eq t.name name) (Some t) (find (λ x. bytes_eq x.name name) ts) other) ∙ is) in
          (suc rest.0, rest.1, rest.2)
    ]

-- a name of which no file is
no_file : (ts : List Taken) (name : List ℕ) → ((i : ℕ) (t : Taken) → slice_get ts i ≡ Some t → t.name ≡ name → ⊥) → files_in ts name ≡ None
unfolding files_in
no_file ts name none = by (find (λ x. bytes_eq x.name name) ts) refl
  where
    by : (o : Option Taken) → find (λ x. bytes_eq x.name name) ts ≡ o → option_map (λ x. x.bytes) o ≡ None
    by None is = refl
    by (Some u) is = let there = found_at ts u name is in absurd (none there.0 u there.1 there.2)

-- ---- the object of a number's name

abbrev pub object_named : Needs → List ℕ → Result Object Skip
object_named n = objects (format skip_causes) (files_in n.files.now)

pub object_is : (n : Needs) → AreNumberedFiles n → (k : ℕ) → k < length (all_names n) → object_named n (name_of n k) ≡ object_by_number n k
object_is n folder k lt = by (slice_get n.files.now k) refl
  where
    by : (x : Option Taken) → slice_get n.files.now k ≡ x → object_named n (name_of n k) ≡ object_at (name_of n k) x
    by None at =
        ap (sound.object_at (format skip_causes) (name_of n k))
        (no_file n.files.now (name_of n k) (λ i t there same.
        let own : slice_get (all_names n) i ≡ Some (name_of n k) = folder.needs.files i t there ∙ ap (λ (m : List ℕ). Some m) same in
        let twice : i ≡ k = folder.needs.once i k (name_of n k) own (named n folder.needs k lt) in
        none-some t (sym at ∙ ap (slice_get n.files.now) (sym twice) ∙ there)))
    by (Some t) at =
        let name : name_of n k ≡ t.name = ap told_name (folder.needs.files k t at) in
        ap (object_named n) name ∙ (row_is folder.taken.0 n.files.now k t folder.taken.1 at).object

-- ---- a walk that is under way

-- what was walked of a row's walk before an index, and what is still to come
pub record IsUnder (n : Needs) (row i : ℕ) (w : walking.NumberWalk) : Type 0 where
  pub walking : IsNumberWalk n w
  pub walk : w.walk ≡ row + 1
  pub first : slice_get w.numbers.items 0 ≡ Some row
  pub below : AreBelow (length n.files.now) (take i w.numbers.items)
  pub each : length (walked_by n.files.now (take i w.numbers.items)) ≡ length (take i w.numbers.items)
  pub under : scope.IsUnderWay of_walk (object_named n) (name_of n row) (walked_by n.files.now (take i w.numbers.items)) (state n (length (take i w.numbers.items)) w)

pub under_begins : (n : Needs) (row : ℕ) (w : walking.NumberWalk) → IsNumberWalk n w → w.walk ≡ row + 1 → w.numbers.items ≡ row ∷ [] → IsUnder n row 0 w
under_begins n row w is walk numbers = record {
  walking = is;
  walk = walk;
  first = ap (λ (xs : List ℕ). slice_get xs 0) numbers;
  below = All-nil (λ (r : ℕ). r < length n.files.now);
  each = refl;
  under = subst (λ (s : Walking). scope.IsUnderWay of_walk (object_named n) (name_of n row) [] s) (sym begun) (walk_begins of_walk (object_named n) (name_of n row));
}
  where
    begun : state n 0 w ≡ scope.begun (name_of n row)
    begun = ap (λ (xs : List ℕ). record { names = map (name_of n) xs; given = 0; program = false }) numbers

-- the state that pl_scope has of a walk, by the numbers alone
abbrev state_by : Needs → ℕ → List ℕ → Walking
state_by n given numbers = record { names = map (name_of n) numbers; given = given; program = nat_lt 0 given && is_program_row n (slice_get numbers 0) }

-- the file that has an object
file_of : (n : Needs) (number : ℕ) (o : Object) → object_by_number n number ≡ Ok o → (t : Taken) × (slice_get n.files.now number ≡ Some t) × (object_by t.entry ≡ Some o)
file_of n number o object = by (slice_get n.files.now number) refl object
  where
    of_entry : (name : List ℕ) (e : Entry) → object_for name e ≡ Ok o → object_by e ≡ Some o
    of_entry name (There file) is = ap (λ (x : Object). Some x) (ok_same (object_of file) o is)
    of_entry name BadMark is = absurd (err_ok is)
    of_entry name (Refused a b) is = absurd (err_ok is)

    by : (x : Option Taken) → slice_get n.files.now number ≡ x → object_at (name_of n number) x ≡ Ok o → (t : Taken) × (slice_get n.files.now number ≡ Some t) × (object_by t.entry ≡ Some o)
    by None at is = absurd (err_ok is)
    by (Some t) at is = (t, at, of_entry t.name t.entry is)

none_long : {X : Type 0} (xs : List X) (i : ℕ) → slice_get xs i ≡ None → length xs ≤ i
none_long xs i none =
    elim (cases_lt i (length xs)) [
      | inl lt ↦ let at = slice_get_at xs i lt in absurd (none-some at.0 (sym none ∙ at.1))
      | inr le ↦ le
    ]

ok_err : {X : Type 0} {e : Skip} {x : X} → ◌≡◌ {A = Result X Skip} (Ok x) (Err e) → ⊥
ok_err is = cc

module _ (n : Needs) (folder : AreNumberedFiles n) (row i : ℕ) (w : walking.NumberWalk) (is : IsUnder n row i w) (lt : i < MAX_MEMBERS) where
  abbrev files : List ℕ → Result Object Skip
  files = object_named n

  abbrev front : Walked
  front = walked_by n.files.now (take i w.numbers.items)

  module _ (number : ℕ) (at : slice_get w.numbers.items i ≡ Some number) where
    long : i < length w.numbers.items
    long = slice_get_within w.numbers.items i number at

    given : length (take i w.numbers.items) ≡ i
    given = let cut = length-take i w.numbers.items in omega (arith, cut, long)

    number_named : number < length (all_names n)
    number_named = subst (λ (k : ℕ). k < length (all_names n)) (get_or_from_slice_get w.numbers.items i number number at) (is.walking.named i number long)

    wanted : wants (state n i w) ≡ Some (name_of n number)
    wanted = slice_get-map (name_of n) w.numbers.items i ∙ ap (option_map (name_of n)) at

    under_here : scope.IsUnderWay of_walk files (name_of n row) front (state n i w)
    under_here = subst (λ (g : ℕ). scope.IsUnderWay of_walk files (name_of n row) front (state n g w)) given is.under

  -- what refuses the next object refuses the walk
  pub under_stops : (e : Skip) → entered n i w ≡ Err e → scope.walk of_walk files (name_of n row) ≡ Err e
  under_stops e refused = by (slice_get w.numbers.items i) refl refused
    where
      by : (x : Option ℕ) → slice_get w.numbers.items i ≡ x → entered_at n i w x ≡ Err e → scope.walk of_walk files (name_of n row) ≡ Err e
      by None at refused = absurd (ok_err refused)
      by (Some number) at refused =
          elim (bind_err (object_by_number n number) (λ o. because of_walk (scope.entered (state n i w) (name_of n number) o)) e refused) [
            | inl lacks ↦
                walk_lacks of_walk files (name_of n row) front (state n i w) (name_of n number) e lt (wanted number at) (object_is n folder number (number_named number at) ∙ lacks) (under_here number at)
            | inr there ↦
                let stop = because_err of_walk (scope.entered (state n i w) (name_of n number) there.0) e there.2 in
                let given : give (state n i w) there.0 ≡ Err stop.0 = ap (of_wanted (state n i w) there.0) (wanted number at) ∙ stop.1 in
                walk_stops of_walk files (name_of n row) front (state n i w) (name_of n number) there.0 stop.0 lt (wanted number at) (object_is n folder number (number_named number at) ∙ there.1) given (under_here number at)
                ∙ ap (λ (s : Skip). Err s) stop.2
          ]

  module _ (v : walking.NumberWalk) (more : IsMore w v) (walks : IsNumberWalk n v) where
    -- no object was left to give
    nothing_more : slice_get w.numbers.items i ≡ None → ◌≡◌ {A = Result Walking Skip} (Ok (state_after n i w)) (Ok (state_after n i v)) → IsUnder n row (i + 1) v
    nothing_more at same = record {
      walking = walks;
      walk = more.walk ∙ is.walk;
      first = ap (λ (xs : List ℕ). slice_get xs 0) numbers ∙ is.first;
      below = subst (λ (xs : List ℕ). AreBelow (length n.files.now) xs) (sym takes) is.below;
      each = subst (λ (xs : List ℕ). length (walked_by n.files.now xs) ≡ length xs) (sym takes) is.each;
      under =
          subst (λ (xs : List ℕ). scope.IsUnderWay of_walk files (name_of n row) (walked_by n.files.now xs) (state_by n (length xs) v.numbers.items)) (sym takes)
          (subst (λ (ys : List ℕ). scope.IsUnderWay of_walk files (name_of n row) front (state_by n (length (take i w.numbers.items)) ys)) (sym numbers) is.under);
    }
      where
        short : length w.numbers.items ≤ i
        short = none_long w.numbers.items i at

        names : map (name_of n) w.numbers.items ≡ map (name_of n) v.numbers.items
        names = ap (λ (s : Walking). s.names) (ok_same (state_after n i w) (state_after n i v) same)

        as_many : length v.numbers.items ≡ length w.numbers.items
        as_many = sym (length-map v.numbers.items (name_of n)) ∙ sym (ap length names) ∙ length-map w.numbers.items (name_of n)

        numbers : v.numbers.items ≡ w.numbers.items
        numbers = sym (take_all (length w.numbers.items) v.numbers.items (omega (arith, as_many))) ∙ more.front

        takes : take (i + 1) v.numbers.items ≡ take i w.numbers.items
        takes = ap (take (i + 1)) numbers ∙ take_all (i + 1) w.numbers.items (omega (arith, short)) ∙ sym (take_all i w.numbers.items short)

    module _ (number : ℕ) (at : slice_get w.numbers.items i ≡ Some number) (o : Object) (object : object_by_number n number ≡ Ok o) where
      takes : take (i + 1) v.numbers.items ≡ take i w.numbers.items ++ number ∷ []
      takes =
          sym (take-take (i + 1) (length w.numbers.items) v.numbers.items (omega (arith, long number at)))
          ∙ ap (take (i + 1)) more.front
          ∙ take_more w.numbers.items i number (long number at)
          ∙ ap (λ (k : ℕ). take i w.numbers.items ++ k ∷ []) (get_or_from_slice_get w.numbers.items i number number at)

      member : walked_by n.files.now (number ∷ []) ≡ (name_of n number, o) ∷ []
      member =
          let file = file_of n number o object in
          let name : file.0.name ≡ name_of n number = sym (ap told_name (folder.needs.files number file.0 file.1)) in
          let of_file : member_of (slice_get n.files.now number) ≡ Some (name_of n number, o) = ap member_of file.1 ∙ ap (option_map (λ (x : Object). (file.0.name, x))) file.2 ∙ ap (λ (m : List ℕ). Some (m, o)) name in
          rw of_file refl

      walked : walked_by n.files.now (take (i + 1) v.numbers.items) ≡ front ++ (name_of n number, o) ∷ []
      walked =
          ap (walked_by n.files.now) takes
          ∙ filter_map-append (λ r. member_of (slice_get n.files.now r)) (take i w.numbers.items) (number ∷ [])
          ∙ ap (λ (ms : Walked). front ++ ms) member

      -- one object more was given
      one_more : because of_walk (scope.entered (state n i w) (name_of n number) o) ≡ Ok (state_after n i v) → IsUnder n row (i + 1) v
      one_more entry = record {
        walking = walks;
        walk = more.walk ∙ is.walk;
        first = sym (slice_get_take v.numbers.items (length w.numbers.items) 0 (omega (arith, long number at))) ∙ ap (λ (xs : List ℕ). slice_get xs 0) more.front ∙ is.first;
        below = subst (λ (xs : List ℕ). AreBelow (length n.files.now) xs) (sym takes)
            (All-push (λ (r : ℕ). r < length n.files.now) (take i w.numbers.items) number is.below (let file = file_of n number o object in slice_get_within n.files.now number file.0 file.1));
        each = ap length walked ∙ length_push front (name_of n number, o) ∙ ap (λ (k : ℕ). k + 1) is.each ∙ sym (length_push (take i w.numbers.items) number) ∙ sym (ap length takes);
        under = subst (λ (ms : Walked). scope.IsUnderWay of_walk files (name_of n row) ms (state_after n i v)) (sym walked)
            (walk_goes_on of_walk files (name_of n row) front (state n i w) (state_after n i v) (name_of n number) o lt (wanted number at) (object_is n folder number (number_named number at) ∙ object)
            (ap (of_wanted (state n i w) o) (wanted number at) ∙ because_ok of_walk (scope.entered (state n i w) (name_of n number) o) (state_after n i v) entry) (under_here number at));
      }

    -- the next object, if there is one, was given
    pub under_more : entered n i w ≡ Ok (state_after n i v) → IsUnder n row (i + 1) v
    under_more entry = by (slice_get w.numbers.items i) refl entry
      where
        by : (x : Option ℕ) → slice_get w.numbers.items i ≡ x → entered_at n i w x ≡ Ok (state_after n i v) → IsUnder n row (i + 1) v
        by None at entry = nothing_more at entry
        by (Some number) at entry =
            let there = bind_ok (object_by_number n number) (λ o. because of_walk (scope.entered (state n i w) (name_of n number) o)) (state_after n i v) entry in
            one_more number at there.0 there.1 there.2

-- ---- the whole walk of a row

pub walk_at_is : (n : Needs) → AreNeeds n → (row : ℕ) → row < length n.files.now → walk_at n.files.now row ≡ scope.walk of_walk (object_named n) (name_of n row)
walk_at_is n are row lt =
    let file = slice_get_at n.files.now row lt in
    ap (walk_named n.files.now) file.1 ∙ ap (scope.walk of_walk (object_named n)) (sym (ap told_name (are.files row file.0 file.1)))

pub max_is : MAX_MEMBERS ≡ 256
max_is = refl

pub under_ends : (n : Needs) → AreNeeds n → (row i : ℕ) (w : walking.NumberWalk) → row < length n.files.now → MAX_MEMBERS ≤ i → IsUnder n row i w → IsWalkAt n.files.now row w.numbers.items
under_ends n are row i w lt full is = (
  record {
    within = subst (λ (xs : List ℕ). AreBelow (length n.files.now) xs) all is.below;
    each = subst (λ (xs : List ℕ). length (walked_by n.files.now xs) ≡ length xs) all is.each;
    few = is.walking.few;
  },
  walk_at_is n are row lt ∙ walk_ends of_walk (object_named n) (name_of n row) (walked_by n.files.now w.numbers.items) (state n (length w.numbers.items) w) none
      (subst (λ (xs : List ℕ). scope.IsUnderWay of_walk (object_named n) (name_of n row) (walked_by n.files.now xs) (state_by n (length xs) w.numbers.items)) all is.under),
)
  where
    all : take i w.numbers.items ≡ w.numbers.items
    all = take_all i w.numbers.items (omega (arith, max_is, full, is.walking.few))

    none : wants (state n (length w.numbers.items) w) ≡ None
    none = slice_get-map (name_of n) w.numbers.items (length w.numbers.items) ∙ ap (option_map (name_of n)) (slice_get_past w.numbers.items (length w.numbers.items) (omega arith))
