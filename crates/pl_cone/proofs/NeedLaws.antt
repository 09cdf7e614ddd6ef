-- Names by numbers: a map tells the number of each, and no name has two.
use Rattle.std.proofs.Common.{◌≡◌, ℕ, zero, suc, ◌+◌, ◌<◌, ◌≤◌, Bool, true, false, cond, List, [], ◌∷◌, ◌++◌, length, map, take, get_or, Option, Some, None, refl, sym, ap, ◌∙◌, subst, arith, inl, inr}
use Rattle.std.specs.Option.{option_map}
use Rattle.std.specs.Prelude.{slice_get, ◌⊎◌}
use Rattle.std.specs.Borrow.{Bor}
use Rattle.std.specs.BTreeMap.{BTreeMap}
use Rattle.std.specs.List.{All, AllByRecursion, IsDistinct}
use Rattle.std.specs.Map.{update}
use Rattle.std.specs.Str.{bytes_eq}
use Rattle.std.proofs.lemmas.Bool.{cases_Bool, cases_lt, cond-true, cond-false, false≢true}
use Rattle.std.proofs.lemmas.List.{take_more, map_push, length_push, length-map}
use Rattle.std.proofs.lemmas.List.Elements.{All-head, All-tail, All-push, All-weaker, All-from_recursion}
use Rattle.std.proofs.lemmas.Option.{none-some, same_Some, slice_get-map, slice_get_within, slice_get_read, get_or_from_slice_get}
use Rattle.pl_scope.proofs.NameLaws.{same_name, eq_refl}
use Rattle.pl_cone.specs.Needs.{words, told, AreNumbers, KeepNumbers, told_name, numbered_name, Tell, TellAll, needed_by, AreNeeds, all_names}
use Rattle.pl_cone.specs.Taken.{names_of}
use Rattle.pl_cone.specs.declared.needs.Needs.{Needs}
use Rattle.pl_cone.specs.declared.taken.Taken.{Taken}

-- ---- an element at an index

pub slice_get_at : {X : Type 0} (xs : List X) (i : ℕ) → i < length xs → (x : X) × (slice_get xs i ≡ Some x)
slice_get_at [] i lt = absurd (omega arith)
slice_get_at (x ∷ xs) zero lt = (x, refl)
slice_get_at (x ∷ xs) (suc i) lt = slice_get_at xs i (omega (arith, lt))

pub slice_get_front : {X : Type 0} (xs ys : List X) (i : ℕ) (x : X) → slice_get xs i ≡ Some x → slice_get (xs ++ ys) i ≡ Some x
slice_get_front [] ys i x is = absurd (none-some x is)
slice_get_front (z ∷ xs) ys zero x is = is
slice_get_front (z ∷ xs) ys (suc i) x is = slice_get_front xs ys i x is

pub slice_get_last : {X : Type 0} (xs : List X) (x : X) → slice_get (xs ++ x ∷ []) (length xs) ≡ Some x
slice_get_last [] x = refl
slice_get_last (z ∷ xs) x = slice_get_last xs x

-- an element of a list with one more is one of the list, or the last
pub slice_get_push : {X : Type 0} (xs : List X) (x y : X) (i : ℕ) → slice_get (xs ++ x ∷ []) i ≡ Some y → (slice_get xs i ≡ Some y) ⊎ ((i ≡ length xs) × (x ≡ y))
slice_get_push [] x y zero is = inr (refl, same_Some x y is)
slice_get_push [] x y (suc i) is = absurd (none-some y is)
slice_get_push (z ∷ xs) x y zero is = inl is
slice_get_push (z ∷ xs) x y (suc i) is =
    elim (slice_get_push xs x y i is) [
      | inl e ↦ inl e
      | inr e ↦ inr (ap (λ (k : ℕ). suc k) e.0, e.1)
    ]

-- ---- a map of names

pub goes_on_trans : (a b c : List (List ℕ)) → KeepNumbers a b → KeepNumbers b c → KeepNumbers a c
goes_on_trans a b c first then n name is = then n name (first n name is)

pub goes_on_push : (names more : List (List ℕ)) (name : List ℕ) → more ≡ names ++ name ∷ [] → KeepNumbers names more
goes_on_push names more name is n other at = subst (λ (all : List (List ℕ)). slice_get all n ≡ Some other) (sym is) (slice_get_front names (name ∷ []) n other at)

-- a new name has the next number
pub one_number_more : (old new : BTreeMap (Bor (List ℕ)) ℕ) (names more : List (List ℕ)) (name : List ℕ) (number : ℕ) → number ≡ length names → AreNumbers old names → told old name ≡ None
    → ((q : List ℕ) → told new q ≡ update bytes_eq (told old) name (Some number) q) → more ≡ names ++ name ∷ [] → AreNumbers new more
one_number_more old new names more name number next are none updates is =
    subst (λ (all : List (List ℕ)). AreNumbers new all) (sym is) (record { tell = tells; all = all })
  where
    by : (q : List ℕ) (n : ℕ) (same : Bool) → bytes_eq name q ≡ same → cond same (Some number) (told old q) ≡ Some n → slice_get (names ++ name ∷ []) n ≡ Some q
    by q n true same e =
        let number_is : number ≡ n = same_Some number n e in
        let at : length names ≡ n = sym next ∙ number_is in
        subst (λ (k : ℕ). slice_get (names ++ name ∷ []) k ≡ Some q) at (slice_get_last names name ∙ ap (λ (m : List ℕ). Some m) (same_name name q same))
    by q n false other e = slice_get_front names (name ∷ []) n q (are.tell q n e)

    tells : (q : List ℕ) (n : ℕ) → told new q ≡ Some n → slice_get (names ++ name ∷ []) n ≡ Some q
    tells q n e = by q n (bytes_eq name q) refl (sym (updates q) ∙ e)

    old_name : (q : List ℕ) (n : ℕ) → told old q ≡ Some n → bytes_eq name q ≡ false
    old_name q n e =
        elim (cases_Bool (bytes_eq name q)) [
          | inl same ↦ absurd (none-some n (sym none ∙ ap (told old) (same_name name q same) ∙ e))
          | inr other ↦ other
        ]

    all : (q : List ℕ) (n : ℕ) → slice_get (names ++ name ∷ []) n ≡ Some q → told new q ≡ Some n
    all q n e =
        elim (slice_get_push names name q n e) [
          | inl before ↦
              let known : told old q ≡ Some n = are.all q n before in
              updates q ∙ cond-false (bytes_eq name q) (Some number) (told old q) (old_name q n known) ∙ known
          | inr last ↦
              let same : bytes_eq name q ≡ true = ap (bytes_eq name) (sym last.1) ∙ eq_refl name in
              updates q ∙ cond-true (bytes_eq name q) (Some number) (told old q) same ∙ ap (λ (k : ℕ). Some k) (next ∙ sym last.0)
        ]

-- no name has two numbers
pub numbers_once : (numbers : BTreeMap (Bor (List ℕ)) ℕ) (names : List (List ℕ)) → AreNumbers numbers names → (i j : ℕ) (name : List ℕ) → slice_get names i ≡ Some name → slice_get names j ≡ Some name → i ≡ j
numbers_once numbers names are i j name first second = same_Some i j (sym (are.all name i first) ∙ are.all name j second)

-- ---- names of files

apart_at : (x : List ℕ) (xs : List (List ℕ)) (j : ℕ) → AllByRecursion (λ y. bytes_eq x y ≡ false) xs → slice_get xs j ≡ Some x → ⊥
apart_at x xs j apart at =
    let all : All (λ y. bytes_eq x y ≡ false) xs = All-from_recursion (λ (y : List ℕ). bytes_eq x y ≡ false) xs apart in
    let lt : j < length xs = slice_get_within xs j x at in
    let is : get_or xs j x ≡ x = get_or_from_slice_get xs j x x at in
    false≢true (sym (all j x lt) ∙ ap (bytes_eq x) is ∙ eq_refl x)

-- where no name stands twice, a name has one place
pub distinct_at : (names : List (List ℕ)) (i j : ℕ) (name : List ℕ) → IsDistinct bytes_eq names → slice_get names i ≡ Some name → slice_get names j ≡ Some name → i ≡ j
unfolding IsDistinct
distinct_at [] i j name apart first second = absurd (none-some name first)
distinct_at (x ∷ xs) zero zero name apart first second = refl
distinct_at (x ∷ xs) zero (suc j) name apart first second = absurd (apart_at x xs j apart.0 (second ∙ ap (λ (m : List ℕ). Some m) (sym (same_Some x name first))))
distinct_at (x ∷ xs) (suc i) zero name apart first second = absurd (apart_at x xs i apart.0 (first ∙ ap (λ (m : List ℕ). Some m) (sym (same_Some x name second))))
distinct_at (x ∷ xs) (suc i) (suc j) name apart first second = ap (λ (k : ℕ). suc k) (distinct_at xs i j name apart.1 first second)

slice_get_taken : {X : Type 0} (xs : List X) (i n : ℕ) (x : X) → slice_get (take i xs) n ≡ Some x → (n < i) × (slice_get xs n ≡ Some x)
slice_get_taken xs zero n x is = absurd (none-some x is)
slice_get_taken [] (suc i) n x is = absurd (none-some x is)
slice_get_taken (y ∷ xs) (suc i) zero x is = (omega arith, is)
slice_get_taken (y ∷ xs) (suc i) (suc n) x is = let rest = slice_get_taken xs i n x is in (omega (arith, rest.0), rest.1)

-- the name of the next file is new
pub file_is_new : (ts : List Taken) (i : ℕ) (t : Taken) (numbers : BTreeMap (Bor (List ℕ)) ℕ) → IsDistinct bytes_eq (names_of ts) → slice_get (names_of ts) i ≡ Some t.name → AreNumbers numbers (take i (names_of ts)) → told numbers t.name ≡ None
file_is_new ts i t numbers apart at are = by (told numbers t.name) refl
  where
    by : (o : Option ℕ) → told numbers t.name ≡ o → o ≡ None
    by None is = refl
    by (Some n) is =
        let there = slice_get_taken (names_of ts) i n t.name (are.tell t.name n is) in
        let same : n ≡ i = distinct_at (names_of ts) n i t.name apart there.1 at in
        absurd (omega (arith, same, there.0))

-- ---- numbers of needed names

map_same : {X Y : Type 0} (xs : List X) (f g : X → Y) → All (λ x. f x ≡ g x) xs → map f xs ≡ map g xs
map_same [] f g all = refl
map_same {Y = Y} (x ∷ xs) f g all =
    ap (λ (y : Y). y ∷ map f xs) (All-head (λ x. f x ≡ g x) x xs all) ∙ ap (λ (ys : List Y). g x ∷ ys) (map_same xs f g (All-tail (λ x. f x ≡ g x) x xs all))

-- numbers of names are those of more names
pub tell_on : (names more needed : List (List ℕ)) (told : List ℕ) → KeepNumbers names more → Tell names needed told → Tell more needed told
tell_on names more needed told on is = record { within = within told is.within; are = same told is.within ∙ is.are }
  where
    one : (n : ℕ) → n < length names → slice_get more n ≡ slice_get names n
    one n lt = let at = slice_get_at names n lt in on n at.0 at.1 ∙ sym at.1

    below : (n : ℕ) → n < length names → n < length more
    below n lt = let at = slice_get_at names n lt in slice_get_within more n at.0 (on n at.0 at.1)

    within : (ns : List ℕ) → All (λ n. n < length names) ns → All (λ n. n < length more) ns
    within ns all = All-weaker (λ (n : ℕ). n < length names) (λ (n : ℕ). n < length more) below ns all

    same : (ns : List ℕ) → All (λ n. n < length names) ns → map (numbered_name more) ns ≡ map (numbered_name names) ns
    same ns all = map_same ns (numbered_name more) (numbered_name names) (λ k d lt. ap told_name (one (get_or ns k d) (all k d lt)))

-- one name more
pub tell_push : (names needed : List (List ℕ)) (told : List ℕ) (name : List ℕ) (n : ℕ) → slice_get names n ≡ Some name → Tell names needed told → Tell names (needed ++ name ∷ []) (told ++ n ∷ [])
tell_push names needed told name n at is = record {
  within = All-push (λ (k : ℕ). k < length names) told n is.within (slice_get_within names n name at);
  are = map_push (numbered_name names) told n ∙ ap (λ (all : List (List ℕ)). all ++ numbered_name names n ∷ []) is.are ∙ ap (λ (m : List ℕ). needed ++ m ∷ []) (ap told_name at);
}

-- the first names, and one more
pub tell_more : (names more needed : List (List ℕ)) (told new : List ℕ) (i n : ℕ) (name : List ℕ) → i < length needed → name ≡ get_or needed i name → KeepNumbers names more → slice_get more n ≡ Some name → new ≡ told ++ n ∷ []
    → Tell names (take i needed) told → Tell more (take (i + 1) needed) new
tell_more names more needed told new i n name lt item on at made is =
    let front : take (i + 1) needed ≡ take i needed ++ name ∷ [] = take_more needed i name lt ∙ ap (λ (m : List ℕ). take i needed ++ m ∷ []) (sym item) in
    rw (front, made) (tell_push more (take i needed) told name n at (tell_on names more (take i needed) told on is))

-- one file more
pub tell_all_push : (ts : List Taken) (names more : List (List ℕ)) (needed : List (List ℕ)) (t : Taken) (told : List ℕ) → KeepNumbers names more → Tell more (needed_by t) told → TellAll ts names needed → TellAll (ts ++ t ∷ []) more (needed ++ told ∷ [])
tell_all_push ts names more needed t told on one is = record {
  rows = length_push needed told ∙ ap (λ (k : ℕ). k + 1) is.rows ∙ sym (length_push ts t);
  each = λ row u v at there.
      elim (slice_get_push ts t u row at) [
        | inl before ↦
            elim (slice_get_push needed told v row there) [
              | inl old ↦ tell_on names more (needed_by u) v on (is.each row u v before old)
              | inr last ↦ absurd (omega (arith, last.0, is.rows, slice_get_within ts row u before))
            ]
        | inr here ↦
            elim (slice_get_push needed told v row there) [
              | inl old ↦ absurd (omega (arith, here.0, is.rows, slice_get_within needed row v old))
              | inr last ↦ subst (λ (w : List ℕ). Tell more (needed_by u) w) last.1 (subst (λ (x : Taken). Tell more (needed_by x) told) here.1 one)
            ]
      ];
}

-- ---- what the functions give

named_at : (ts : List Taken) (i : ℕ) (t : Taken) → i < length ts → t ≡ get_or ts i t → slice_get (names_of ts) i ≡ Some t.name
named_at ts i t lt item = slice_get-map (λ x. x.name) ts i ∙ ap (option_map (λ x. x.name)) (slice_get_read ts (length ts) i t refl lt item)

-- the name of the next file has no number
pub next_is_new : (ts : List Taken) (i : ℕ) (t : Taken) (name : List ℕ) (numbers : BTreeMap (Bor (List ℕ)) ℕ) (names : List (List ℕ)) → IsDistinct bytes_eq (names_of ts) → i < length ts → t ≡ get_or ts i t → name ≡ t.name
    → AreNumbers numbers names → names ≡ take i (names_of ts) → told numbers name ≡ None
next_is_new ts i t name numbers names apart lt item same are front =
    ap (told numbers) same ∙ file_is_new ts i t numbers apart (named_at ts i t lt item) (subst (λ (ns : List (List ℕ)). AreNumbers numbers ns) front are)

-- the names of the first files, and one more
pub names_more : (ts : List Taken) (i : ℕ) (t : Taken) (name : List ℕ) (old new : List (List ℕ)) → i < length ts → t ≡ get_or ts i t → name ≡ t.name → old ≡ take i (names_of ts) → new ≡ old ++ name ∷ [] → new ≡ take (i + 1) (names_of ts)
names_more ts i t name old new lt item same front made =
    let long : i < length (names_of ts) = omega (arith, length-map ts (λ (x : Taken). x.name), lt) in
    let next : take (i + 1) (names_of ts) ≡ take i (names_of ts) ++ t.name ∷ [] =
    take_more (names_of ts) i t.name long ∙ ap (λ (m : List ℕ). take i (names_of ts) ++ m ∷ []) (get_or_from_slice_get (names_of ts) i t.name t.name (named_at ts i t lt item)) in
    made ∙ ap (λ (ns : List (List ℕ)). ns ++ name ∷ []) front ∙ ap (λ (m : List ℕ). take i (names_of ts) ++ m ∷ []) same ∙ sym next

-- a new name is found under its number
pub number_last : (old new : List (List ℕ)) (name : List ℕ) (number : ℕ) → number ≡ length old → new ≡ old ++ name ∷ [] → slice_get new number ≡ Some name
number_last old new name number long made = ap (slice_get new) long ∙ ap (λ (ns : List (List ℕ)). slice_get ns (length old)) made ∙ slice_get_last old name

-- the numbers that the first files need, and those of one more
pub tell_all_more : (ts : List Taken) (names more : List (List ℕ)) (i : ℕ) (t : Taken) (told : List ℕ) (old new : List (List ℕ)) → i < length ts → t ≡ get_or ts i t → KeepNumbers names more → Tell more (needed_by t) told → new ≡ old ++ told ∷ []
    → TellAll (take i ts) names old → TellAll (take (i + 1) ts) more new
tell_all_more ts names more i t told old new lt item on one made is =
    let front : take (i + 1) ts ≡ take i ts ++ t ∷ [] = take_more ts i t lt ∙ ap (λ (x : Taken). take i ts ++ x ∷ []) (sym item) in
    rw (front, made) (tell_all_push (take i ts) names more old t told on one is)

-- there are as many names as files
pub files_few : (n : Needs) → AreNeeds n → length n.files.now ≤ length (all_names n)
files_few n are =
    elim (cases_lt (length (all_names n)) (length n.files.now)) [
      | inl lt ↦
          let file = slice_get_at n.files.now (length (all_names n)) lt in
          let past = slice_get_within (all_names n) (length (all_names n)) file.0.name (are.files (length (all_names n)) file.0 file.1) in
          absurd (omega (arith, past))
      | inr le ↦ le
    ]

pub names_pushed : (old new : List (Bor (List ℕ))) (name : Bor (List ℕ)) → new ≡ old ++ name ∷ [] → words new ≡ words old ++ name.now ∷ []
names_pushed old new name made = ap words made ∙ map_push (λ (x : Bor (List ℕ)). x.now) old name

pub files_small : (n : Needs) → AreNeeds n → (ts : List Taken) → n.files.now ≡ ts → length ts < 4294967296
files_small n are ts same = let few = files_few n are in let long = ap length same in omega (arith, few, long, are.few)
