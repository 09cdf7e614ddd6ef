-- What is known of names that were looked at.
use Rattle.std.proofs.Common.{◌≡◌, ℕ, ◌+◌, ◌<◌, ◌≤◌, Bool, true, false, ◌||◌, cond, List, [], ◌∷◌, ◌++◌, drop, length, map, take, get_or, Option, Some, None, refl, sym, ap, subst, ◌∙◌}
use Rattle.std.proofs.Math.ListN.{drop_of_length-le}
use Rattle.std.proofs.lemmas.Bool.{false≢true}
use Rattle.std.proofs.lemmas.List.{append-nil, take_all, take_more}
use Rattle.std.proofs.lemmas.List.Folds.{list_any-append}
use Rattle.std.proofs.lemmas.Map.Keys.{IsDistinct-head, IsDistinct-tail}
use Rattle.std.proofs.lemmas.Slice.Eq.{bytes_eq-Decides}
use Rattle.std.specs.BTreeMap.{BTreeMap, IsEmpty, get_by, is_at}
use Rattle.std.specs.Cmp.Lexicographic.{slice_cmp}
use Rattle.std.specs.FinMap.{keys}
use Rattle.std.specs.List.{AllByRecursion, IsDistinct, cons_option, filter_map}
use Rattle.std.specs.Map.{lookup}
use Rattle.std.specs.Option.{option_flatten}
use Rattle.std.specs.Ordering.{nat_cmp}
use Rattle.std.specs.Prelude.{Result, Ok, Err, String, Vec, if◌then◌else◌, is_some}
use Rattle.std.specs.Str.{bytes_eq}
use Rattle.std.specs.declared.alloc.Global.{Global}
use denote.Ref.{Bor}
use Rattle.pl_base.specs.Answers.{◌>>=◌}
use Rattle.pl_base.specs.Files.{Files}
use Rattle.pl_base.proofs.TestLaws.{bytes_flip}
use Rattle.pl_folder.specs.Seen.{Seen}
use Rattle.pl_journal.specs.declared.change.Change.{Change}
use Rattle.pl_journal.proofs.CarryLemmas.{drop_at}
use Rattle.pl_change.specs.Answers.{Finds}
use Rattle.pl_change.specs.Folder.{ascend}
use Rattle.pl_change.specs.Looked.{AreFound, HasMore, IsPut, IsUnlooked, Looks, found_at, no_value, pass_all, passes_at, row_at}
use Rattle.pl_change.specs.Names.{are_many, has_name}
use Rattle.pl_change.specs.Undo.{if_asked, rows_of, undo_asked, undone}
use Rattle.pl_change.specs.declared.cause.Cause.{Cause}
use Rattle.pl_change.specs.declared.cause.Cause.TheVariants as causes
use Rattle.pl_change.specs.declared.fault.BatchFault.{BatchFault}
use Rattle.pl_change.specs.declared.fault.BatchFault.TheVariants.{NoMemory}
use Rattle.pl_change.specs.declared.fault.BatchFault.TheVariants as faults
use Rattle.pl_change.specs.declared.looked.Looked.{Looked}
use Rattle.pl_change.proofs.FindLemmas.{lacks_finds, no_asking, stops_finds, then_alone}
use Rattle.pl_change.proofs.OrderLemmas.{distinct_names, keys_ascend}
use Rattle.pl_change.proofs.RowLemmas.{Passed, pass_begins, pass_ends, pass_goes_on, pass_stops, rows_found}
use Rattle.pl_change.proofs.UndoLemmas.{row, rows, texts, undone_rows, undone_stops}

abbrev pub nothing : Unit {0} → Unit {0}
nothing u = u

-- ---- the map

-- a map of nothing has no name
pub unlooked : (old : BTreeMap (Bor (List ℕ)) (Option Change)) → IsEmpty old → (q : List ℕ) → get_by (λ k. slice_cmp nat_cmp q k.now) old ≡ None
unlooked old empty q = ap (lookup (is_at (λ k. slice_cmp nat_cmp q k.now))) empty

same_bytes : (xs ys : List ℕ) → bytes_eq xs ys ≡ true → xs ≡ ys
same_bytes xs ys hit = (bytes_eq-Decides xs ys).0 hit

some_of : {X : Type 0} (o : Option X) → is_some o ≡ true → (x : X) × (o ≡ Some x)
some_of None hit = absurd (false≢true hit)
some_of (Some x) hit = (x, refl)

some_same : {X : Type 0} (x y : X) → Some x ≡ Some y → x ≡ y
some_same x y e = cc

-- ---- one name

module _ (name : List ℕ) where
  -- one that was looked at before passes
  pub again : (a : Seen) (looked : Looked) → (a.tells ≡ true → AreFound a.files looked) → is_some (found_at looked name) ≡ true → Finds (passes_at a.files name) nothing (Ok tt) a a
  again a looked right has =
      let one = some_of (found_at looked name) has in
      record { means = λ t. ap (λ (r : Result (Option Change) Cause). r >>= λ more. Ok tt) (right t name one.0 one.1); calls = no_asking a }

  again_by : (looked : Looked) → is_some (found_at looked name) ≡ true → (other : List ℕ) (b : Bool) → bytes_eq name other ≡ b → is_some (found_at looked other) ≡ (b || is_some (found_at looked other))
  again_by looked has other true same = subst (λ (n : List ℕ). is_some (found_at looked n) ≡ true) (same_bytes name other same) has
  again_by looked has other false apart = refl

  pub again_more : (looked : Looked) → is_some (found_at looked name) ≡ true → HasMore looked name looked
  again_more looked has = λ other. again_by looked has other (bytes_eq name other) refl

  module _ {a b : Seen} where
    pub looked_fails : (fault : BatchFault) → Finds (undo_asked a.files name) row (Err fault) a b → Finds (passes_at a.files name) nothing (Err fault) a b
    looked_fails fault found = stops_finds (undo_asked a.files name) row (λ more. Ok tt) nothing fault found

    pub looked_lacks : (more : Option Change) → Finds (undo_asked a.files name) row (Ok more) a b → Finds (passes_at a.files name) nothing (Err NoMemory) a b
    looked_lacks more found = lacks_finds (passes_at a.files name) nothing found.calls

    pub looked_passes : (more : Option Change) → Finds (undo_asked a.files name) row (Ok more) a b → Finds (passes_at a.files name) nothing (Ok tt) a b
    looked_passes more found = then_alone (undo_asked a.files name) row more (λ more. Ok tt) (Ok tt) found refl

  module _ (old new : Looked) (more : Option Change) (put : IsPut old name (Some more) new) where
    more_by : (files : Files) → AreFound files old → undo_asked files name ≡ Ok more → (other : List ℕ) (found : Option Change) (b : Bool) → bytes_eq name other ≡ b → cond b (Some more) (found_at old other) ≡ Some found → undo_asked files other ≡ Ok found
    more_by files right is other found true same at = ap (undo_asked files) (sym (same_bytes name other same)) ∙ is ∙ ap Ok (some_same more found at)
    more_by files right is other found false apart at = right other found at

    pub more_found : (files : Files) → AreFound files old → undo_asked files name ≡ Ok more → AreFound files new
    more_found files right is = λ other found at. more_by files right is other found (bytes_eq name other) refl (sym (put other) ∙ at)

    is_more : (b : Bool) (o : Option (Option Change)) → is_some (cond b (Some more) o) ≡ (b || is_some o)
    is_more true o = refl
    is_more false o = refl

    pub more_names : HasMore old name new
    more_names = λ other. ap is_some (put other) ∙ is_more (bytes_eq name other) (found_at old other)

-- ---- all names of the words

-- those before are looked at, the others left
pub record LooksSoFar (a b : Seen) (asked before left : List (List ℕ)) (looked : Looked) : Type 0 where
  pub passed : Passed undo_asked a b asked left
  pub found : a.tells ≡ true → AreFound a.files looked
  pub names : Looks before looked

or_flip : (b c : Bool) → (b || c) ≡ (c || (b || false))
or_flip true true = refl
or_flip true false = refl
or_flip false true = refl
or_flip false false = refl

names_more : (names : List (List ℕ)) (name : List ℕ) (old new : Looked) → Looks names old → HasMore old name new → Looks (names ++ name ∷ []) new
names_more names name old new so_far more = λ q.
    more q
    ∙ ap (λ (b : Bool). b || is_some (found_at old q)) (bytes_flip name q)
    ∙ ap (λ (b : Bool). bytes_eq q name || b) (so_far q)
    ∙ or_flip (bytes_eq q name) (has_name q names)
    ∙ sym (list_any-append (bytes_eq q) names (name ∷ []))

module _ (a : Seen) (asked : List (List ℕ)) where
  pub looks_begin : (looked : Looked) → IsUnlooked looked → LooksSoFar a a asked (take 0 asked) asked looked
  looks_begin looked none = record {
    passed = pass_begins undo_asked a asked;
    found = λ t name found at. absurd (false≢true (sym (ap is_some (none name)) ∙ ap is_some at));
    names = λ q. ap is_some (none q);
  }

  module _ {b : Seen} (i : ℕ) (name : List ℕ) (lt : i < length asked) (is : name ≡ get_or asked i name) (old : Looked) (so_far : LooksSoFar a b asked (take i asked) (drop i asked) old) where
    here : Passed undo_asked a b asked (name ∷ drop (i + 1) asked)
    here = subst (λ (l : List (List ℕ)). Passed undo_asked a b asked l) (drop_at asked i name lt is) so_far.passed

    -- what is known goes for the folder as it is now
    pub right_here : b.tells ≡ true → AreFound b.files old
    right_here t =
        let told = sym so_far.passed.calls.tells ∙ t in
        subst (λ (files : Files). AreFound files old) (sym (so_far.passed.calls.files told)) (so_far.found told)

    pub looks_stop : {c : Seen} (fault : BatchFault) → Finds (passes_at b.files name) nothing (Err fault) b c → Finds (pass_all a.files asked) no_value (Err fault) a c
    looks_stop fault found = pass_stops undo_asked a asked name (drop (i + 1) asked) here no_value fault found

    pub looks_on : {c : Seen} (new : Looked) → Finds (passes_at b.files name) nothing (Ok tt) b c → (b.tells ≡ true → AreFound b.files new) → HasMore old name new → LooksSoFar a c asked (take (i + 1) asked) (drop (i + 1) asked) new
    looks_on new found right more =
        let next : take i asked ++ name ∷ [] ≡ take (i + 1) asked = ap (λ (r : List ℕ). take i asked ++ r ∷ []) is ∙ sym (take_more asked i name lt) in
        record {
          passed = pass_goes_on undo_asked a asked name (drop (i + 1) asked) here found;
          found = λ t. subst (λ (files : Files). AreFound files new) (so_far.passed.calls.files t) (right (so_far.passed.calls.tells ∙ t));
          names = subst (λ (ns : List (List ℕ)). Looks ns new) next (names_more (take i asked) name old new so_far.names more);
        }

  module _ {b : Seen} (i : ℕ) (over : length asked ≤ i) (looked : Looked) (so_far : LooksSoFar a b asked (take i asked) (drop i asked) looked) where
    pub looks_end : Finds (pass_all a.files asked) no_value (Ok looked) a b
    looks_end = pass_ends undo_asked a asked looked (subst (λ (l : List (List ℕ)). Passed undo_asked a b asked l) (drop_of_length-le asked {i = i} over) so_far.passed)

    pub looks_names : Looks asked looked
    looks_names = subst (λ (ns : List (List ℕ)). Looks ns looked) (take_all i asked over) so_far.names

-- ---- their rows, in the order of the folder's names

row_apart : (b : Bool) (o : Option (Option Change)) → b ≡ false → cond b None o ≡ o
row_apart true o apart = absurd (false≢true (sym apart))
row_apart false o apart = refl

others_stay : (old new : Looked) (name : List ℕ) (names : List (List ℕ)) → IsPut old name None new → AllByRecursion (λ n. bytes_eq name n ≡ false) names → filter_map (row_at new) names ≡ filter_map (row_at old) names
others_stay old new name [] gone apart = refl
others_stay old new name (n ∷ ns) gone apart =
    ap (λ (o : Option (Option Change)). cons_option (option_flatten o) (filter_map (row_at new) ns)) (gone n ∙ row_apart (bytes_eq name n) (found_at old n) apart.0)
    ∙ ap (λ (rs : List Change). cons_option (row_at old n) rs) (others_stay old new name ns gone apart.1)

-- the rows so far, and the names that are left, which differ
pub record InOrder (all left : List (List ℕ)) (whole looked : Looked) (found : List Change) : Type 0 where
  pub apart : IsDistinct bytes_eq left
  pub is : found ++ filter_map (row_at looked) left ≡ filter_map (row_at whole) all

pub order_begins : (all : List (List ℕ)) (whole : Looked) (found : List Change) → ascend all ≡ true → found ≡ [] → InOrder all all whole whole found
order_begins all whole found rise none = record { apart = distinct_names all rise; is = ap (λ (rs : List Change). rs ++ filter_map (row_at whole) all) none }

module _ (all : List (List ℕ)) (whole old : Looked) (name : List ℕ) (rest : List (List ℕ)) (found : List Change) (so_far : InOrder all (name ∷ rest) whole old found) where
  pub taken_out : (new : Looked) → IsPut old name None new → found ++ cons_option (row_at old name) (filter_map (row_at new) rest) ≡ filter_map (row_at whole) all
  taken_out new gone =
      ap (λ (rs : List Change). found ++ cons_option (row_at old name) rs) (others_stay old new name rest gone (IsDistinct-head bytes_eq name rest so_far.apart)) ∙ so_far.is

  pub order_rest : IsDistinct bytes_eq rest
  order_rest = IsDistinct-tail bytes_eq name rest so_far.apart

pub order_ends : (all : List (List ℕ)) (whole looked : Looked) (found : List Change) → InOrder all [] whole looked found → found ≡ filter_map (row_at whole) all
order_ends all whole looked found so_far = sym (append-nil found) ∙ so_far.is

-- ---- the command

asked_by : (files : Files) (asked : List (List ℕ)) (looked : Looked) (n : List ℕ) → AreFound files looked → (b : Bool) (o : Option (Option Change)) → found_at looked n ≡ o → is_some o ≡ b → (if b then undo_asked files n else Ok None) ≡ Ok (option_flatten o)
asked_by files asked looked n right true (Some found) at is = right n found at
asked_by files asked looked n right true None at is = absurd (false≢true is)
asked_by files asked looked n right false (Some found) at is = absurd (false≢true (sym is))
asked_by files asked looked n right false None at is = refl

-- each name of the folder has the row that was found
pub each_found : (files : Files) (asked : List (List ℕ)) (looked : Looked) → AreFound files looked → Looks asked looked → (n : List ℕ) → if_asked asked files n ≡ Ok (row_at looked n)
each_found files asked looked right names n = asked_by files asked looked n right (has_name n asked) (found_at looked n) refl (names n)

module _ (asked : List (List ℕ)) {a b : Seen} (names : Vec (String Global) Global) (listed : Finds (Ok (keys a.files)) texts (Ok names) a b) where
  keys_are : a.tells ≡ true → keys a.files ≡ texts names
  keys_are t = let same = listed.means t in cc

  -- a folder that tells its files lists names that ascend
  pub undone_mixed : ascend (texts names) ≡ false → Finds (undone a.files asked) rows (Err (faults.Cause causes.TooManyFiles)) a b
  undone_mixed mixed = record { means = λ t. absurd (false≢true (sym mixed ∙ sym (ap ascend (keys_are t)) ∙ keys_ascend a.files)); calls = listed.calls }

  module _ (few : are_many (texts names) ≡ false) {c : Seen} where
    pub undone_fails : (fault : BatchFault) → Finds (pass_all b.files asked) no_value (Err fault) b c → Finds (undone a.files asked) rows (Err fault) a c
    undone_fails fault found = undone_stops asked names listed few fault (unseen fault found)
      where
        unseen : (fault : BatchFault) → Finds (pass_all b.files asked) no_value (Err fault) b c → Finds (pass_all b.files asked) nothing (Err fault) b c
        unseen fault found = record { means = found.means; calls = found.calls }

    module _ (looked : Looked) (passed : Finds (pass_all b.files asked) no_value (Ok looked) b c) where
      all_pass_here : Finds (pass_all b.files asked) nothing (Ok tt) b c
      all_pass_here = record { means = passed.means; calls = passed.calls }

      pub undone_lacks : Finds (undone a.files asked) rows (Err NoMemory) a c
      undone_lacks = undone_rows asked names listed few (Err NoMemory) all_pass_here (lacks_finds (rows_of (if_asked asked c.files) (texts names)) rows (no_asking c))

      pub undone_found : (b.tells ≡ true → AreFound b.files looked) → Looks asked looked → (found : List Change) → found ≡ filter_map (row_at looked) (texts names) → Finds (undone a.files asked) rows (Ok found) a c
      undone_found right looks found is =
          let known : c.tells ≡ true → AreFound c.files looked = λ t. let told = sym passed.calls.tells ∙ t in subst (λ (files : Files). AreFound files looked) (sym (passed.calls.files told)) (right told) in
          undone_rows asked names listed few (Ok found) all_pass_here (record {
            means = λ t. rows_found (if_asked asked c.files) (row_at looked) (each_found c.files asked looked (known t) looks) (texts names) ∙ ap Ok (sym is);
            calls = no_asking c;
          })
