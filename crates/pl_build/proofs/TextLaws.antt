-- Where texts stand first, row by row.
use Rattle.std.proofs.Common.{◌≡◌, ℕ, zero, suc, ◌+◌, ◌<◌, ◌≤◌, Bool, true, false, ◌||◌, cond, List, [], ◌∷◌, ◌++◌, length, take, get_or, Option, Some, None, refl, sym, ap, subst, ◌∙◌, arith, inl, inr}
use Rattle.std.specs.Prelude.{is_some, nat_lt, position, find, slice_get}
use Rattle.std.specs.BTreeMap.{BTreeMap, IsEmpty as IsEmptyMap}
use Rattle.std.specs.List.{list_any, position_from, position_or_len}
use Rattle.std.specs.Map.{update}
use Rattle.std.specs.Option.{option_and_then, option_or}
use Rattle.std.specs.Str.{bytes_eq}
use Rattle.std.proofs.lemmas.Bool.{cases_Bool, false≢true, lt-ltb, ltb-false, ltb-true}
use Rattle.std.proofs.lemmas.Iterator.Adapters.{position_from-zero}
use Rattle.std.proofs.lemmas.List.{take_more, take_all, length-take-le}
use Rattle.std.proofs.lemmas.List.Folds.{find_at}
use Rattle.std.proofs.lemmas.Option.{slice_get_past}
use Rattle.std.proofs.lemmas.Slice.Eq.{bytes_eq-Decides}
use denote.Ref.{Bor}
use Rattle.pl_build.specs.TextIndex.{place_of, IsEmpty, IsNoted, IsIndexOf, is_before, is_text}
use Rattle.pl_build.specs.StringTable.{at_of, has_text, text_at}
use Rattle.pl_build.specs.declared.string_table.StringTable.{StringTable}
use Rattle.pl_build.specs.declared.text_index.TextIndex.{TextIndex}

-- ---- a place among rows

from_push : {X : Type 0} (p : X → Bool) (i : ℕ) (xs : List X) (x : X) → position_from p i (xs ++ x ∷ []) ≡ option_or (position_from p i xs) (cond (p x) (Some (i + length xs)) None)
from_push p i [] x = let at : i ≡ i + 0 = omega arith in ap (λ (n : ℕ). cond (p x) (Some n) None) at
from_push p i (y ∷ ys) x = by (p y) (from_push p (i + 1) ys x)
  where
    by : (b : Bool) → position_from p (i + 1) (ys ++ x ∷ []) ≡ option_or (position_from p (i + 1) ys) (cond (p x) (Some (i + 1 + length ys)) None) → cond b (Some i) (position_from p (i + 1) (ys ++ x ∷ [])) ≡ option_or (cond b (Some i) (position_from p (i + 1) ys)) (cond (p x) (Some (i + length (y ∷ ys))) None)
    by true rest = refl
    by false rest =
        let at : i + 1 + length ys ≡ i + length (y ∷ ys) = omega arith in
        rest ∙ ap (λ (n : ℕ). option_or (position_from p (i + 1) ys) (cond (p x) (Some n) None)) at

pub position_push : {X : Type 0} (p : X → Bool) (xs : List X) (x : X) → position p (xs ++ x ∷ []) ≡ option_or (position p xs) (cond (p x) (Some (length xs)) None)
position_push p xs x =
    let at : 0 + length xs ≡ length xs = omega arith in
    position_from-zero p (xs ++ x ∷ []) ∙ from_push p 0 xs x ∙ ap (λ (n : ℕ). option_or (position_from p 0 xs) (cond (p x) (Some n) None)) at ∙ ap (λ (o : Option ℕ). option_or o (cond (p x) (Some (length xs)) None)) (sym (position_from-zero p xs))

any_from : {X : Type 0} (p : X → Bool) (i : ℕ) (xs : List X) → is_some (position_from p i xs) ≡ list_any p xs
any_from p i [] = refl
any_from p i (x ∷ xs) = by (p x) (any_from p (i + 1) xs)
  where
    by : (b : Bool) → is_some (position_from p (i + 1) xs) ≡ list_any p xs → is_some (cond b (Some i) (position_from p (i + 1) xs)) ≡ (b || list_any p xs)
    by true rest = refl
    by false rest = rest

-- one of the rows passes where there is a first that does
pub any_is : {X : Type 0} (p : X → Bool) (xs : List X) → list_any p xs ≡ is_some (position p xs)
any_is p xs = sym (any_from p 0 xs) ∙ ap is_some (sym (position_from-zero p xs))

never_below : (a b : ℕ) → b ≤ a → nat_lt a b ≡ false
never_below a b le = elim (cases_Bool (nat_lt a b)) [
  | inl lt ↦ absurd (omega (arith, le, ltb-true a b lt))
  | inr ge ↦ ge
]

not_below : {X : Type 0} (p : X → Bool) (i more : ℕ) (xs : List X) → is_before i (position_from p (i + more) xs) ≡ false
not_below p i more [] = refl
not_below p i more (x ∷ xs) = by (p x) (not_below p i (more + 1) xs)
  where
    by : (b : Bool) → is_before i (position_from p (i + (more + 1)) xs) ≡ false → is_before i (cond b (Some (i + more)) (position_from p (i + more + 1) xs)) ≡ false
    by true rest = never_below (i + more) i (omega arith)
    by false rest = let at : i + more + 1 ≡ i + (more + 1) = omega arith in ap (λ (n : ℕ). is_before i (position_from p n xs)) at ∙ rest

before_from : {X : Type 0} (p : X → Bool) (i n : ℕ) (xs : List X) → list_any p (take n xs) ≡ is_before (i + n) (position_from p i xs)
before_from p i zero xs =
    let here : i + 0 ≡ i = omega arith in
    sym (ap (λ (k : ℕ). is_before k (position_from p i xs)) here ∙ ap (λ (k : ℕ). is_before i (position_from p k xs)) (sym here) ∙ not_below p i 0 xs)
before_from p i (suc n) [] = refl
before_from p i (suc n) (x ∷ xs) = by (p x) (before_from p (i + 1) n xs)
  where
    by : (b : Bool) → list_any p (take n xs) ≡ is_before (i + 1 + n) (position_from p (i + 1) xs) → (b || list_any p (take n xs)) ≡ is_before (i + suc n) (cond b (Some i) (position_from p (i + 1) xs))
    by true rest = let lt : i < i + suc n = omega arith in sym (lt-ltb i (i + suc n) lt)
    by false rest = let at : i + 1 + n ≡ i + suc n = omega arith in rest ∙ ap (λ (k : ℕ). is_before k (position_from p (i + 1) xs)) at

-- one of the first rows passes where the first that does is among them
pub any_before : {X : Type 0} (p : X → Bool) (n : ℕ) (xs : List X) → list_any p (take n xs) ≡ is_before n (position p xs)
any_before p n xs =
    let at : 0 + n ≡ n = omega arith in
    before_from p 0 n xs ∙ ap (λ (k : ℕ). is_before k (position_from p 0 xs)) at ∙ ap (is_before n) (sym (position_from-zero p xs))

-- the first row that passes is the one at the first place
pub found_is : {X : Type 0} (p : X → Bool) (xs : List X) → find p xs ≡ option_and_then (λ i. slice_get xs i) (position p xs)
found_is p xs =
    find_at p xs ∙ elim (cases_Bool (nat_lt (position_or_len p xs) (length xs))) [
      | inl lt ↦ rw lt refl
      | inr ge ↦ rw ge (slice_get_past xs (position_or_len p xs) (ltb-false (position_or_len p xs) (length xs) ge))
    ]

-- where a text begins in a table, by the place of its entry
pub text_place : (s : StringTable) (index : TextIndex) (text : List ℕ) → IsIndexOf has_text s.entries index → text_at s text ≡ at_of (option_and_then (λ i. slice_get s.entries i) (place_of index text))
unfolding text_at
text_place s index text of = ap at_of (found_is (has_text text) s.entries ∙ ap (option_and_then (λ i. slice_get s.entries i)) (sym (of text)))

-- ---- a text more

or_none : (o : Option ℕ) → o ≡ option_or o None
or_none None = refl
or_none (Some k) = refl

-- a text that stands nowhere before
pub noted_new : (old new : TextIndex) (text : List ℕ) (place : ℕ) → is_some (place_of old text) ≡ false
    → ((q : List ℕ) → place_of new q ≡ update bytes_eq (place_of old) text (Some place) q) → IsNoted (λ q own. bytes_eq own q) old text place new
noted_new old new text place none updates = λ q. updates q ∙ by q (bytes_eq text q) refl
  where
    gone : (o : Option ℕ) → is_some o ≡ false → o ≡ None
    gone None e = refl
    gone (Some k) e = absurd (false≢true (sym e))

    by : (q : List ℕ) → (b : Bool) → bytes_eq text q ≡ b → cond b (Some place) (place_of old q) ≡ option_or (place_of old q) (cond b (Some place) None)
    by q true e = rw (subst (λ (t : List ℕ). place_of old t ≡ None) ((bytes_eq-Decides text q).0 e) (gone (place_of old text) none)) refl
    by q false e = or_none (place_of old q)

-- one that stood before
pub noted_again : (old : TextIndex) (text : List ℕ) (place : ℕ) → is_some (place_of old text) ≡ true → IsNoted (λ q own. bytes_eq own q) old text place old
noted_again old text place some = λ q. by q (bytes_eq text q) refl
  where
    keeps : (o w : Option ℕ) → is_some o ≡ true → o ≡ option_or o w
    keeps None w e = absurd (false≢true e)
    keeps (Some k) w e = refl

    by : (q : List ℕ) → (b : Bool) → bytes_eq text q ≡ b → place_of old q ≡ option_or (place_of old q) (cond b (Some place) None)
    by q true e = keeps (place_of old q) (Some place) (subst (λ (t : List ℕ). is_some (place_of old t) ≡ true) ((bytes_eq-Decides text q).0 e) some)
    by q false e = or_none (place_of old q)

-- a row without a text
pub noted_none : (old : TextIndex) (place : ℕ) → IsNoted is_text old None place old
noted_none old place = λ q. or_none (place_of old q)

-- a row's text as a test of the row
pub noted_as : {X : Type 0} (is : List ℕ → X → Bool) (old new : TextIndex) (row : X) (text : Option (List ℕ)) (place : ℕ) → ((q : List ℕ) → is q row ≡ is_text q text)
    → IsNoted is_text old text place new → IsNoted is old row place new
noted_as is old new row text place same noted = λ q. noted q ∙ ap (λ (b : Bool). option_or (place_of old q) (cond b (Some place) None)) (sym (same q))

-- ---- the rows one by one

-- the map of nothing has no text
pub nothing_noted : (places : BTreeMap (Bor (List ℕ)) ℕ) → IsEmptyMap places → IsEmpty (record { places = places })
nothing_noted places empty text = rw empty refl

pub index_of_none : {X : Type 0} (is : List ℕ → X → Bool) (rows : List X) (index : TextIndex) → rows ≡ [] → IsEmpty index → IsIndexOf is rows index
index_of_none is rows index none empty = rw none (λ text. empty text)

pub index_none : {X : Type 0} (is : List ℕ → X → Bool) (rows : List X) (index : TextIndex) → IsEmpty index → IsIndexOf is (take 0 rows) index
index_none is rows index empty = λ text. empty text

-- a row behind the others
pub index_push : {X : Type 0} (is : List ℕ → X → Bool) (rows : List X) (old new : TextIndex) (row : X) → IsNoted is old row (length rows) new → IsIndexOf is rows old → IsIndexOf is (rows ++ row ∷ []) new
index_push is rows old new row noted so_far = λ q.
    noted q ∙ ap (λ (o : Option ℕ). option_or o (cond (is q row) (Some (length rows)) None)) (so_far q) ∙ sym (position_push (is q) rows row)

pub index_more : {X : Type 0} (is : List ℕ → X → Bool) (rows : List X) (old new : TextIndex) (place : ℕ) (row : X) → place < length rows → row ≡ get_or rows place row
    → IsNoted is old row place new → IsIndexOf is (take place rows) old → IsIndexOf is (take (place + 1) rows) new
index_more {X = X} is rows old new place row lt at noted so_far =
    let long : length (take place rows) ≡ place = length-take-le place rows (omega (arith, lt)) in
    let here : IsNoted is old (get_or rows place row) place new = subst (λ (r : X). IsNoted is old r place new) at noted in
    subst (λ (xs : List X). IsIndexOf is xs new) (sym (take_more rows place row lt))
    (index_push is (take place rows) old new (get_or rows place row) (subst (λ (n : ℕ). IsNoted is old (get_or rows place row) n new) (sym long) here) so_far)

pub index_all : {X : Type 0} (is : List ℕ → X → Bool) (rows : List X) (index : TextIndex) (place : ℕ) → length rows ≤ place → IsIndexOf is (take place rows) index → IsIndexOf is rows index
index_all is rows index place over so_far = λ q. so_far q ∙ ap (position (is q)) (take_all place rows over)

-- whether a text stands among rows, and among the first of them
pub stands_in : {X : Type 0} (is : List ℕ → X → Bool) (rows : List X) (index : TextIndex) (text : List ℕ) → IsIndexOf is rows index → is_some (place_of index text) ≡ list_any (is text) rows
stands_in is rows index text of = ap is_some (of text) ∙ sym (any_is (is text) rows)

pub stands_before : {X : Type 0} (is : List ℕ → X → Bool) (rows : List X) (index : TextIndex) (text : List ℕ) (n : ℕ) → IsIndexOf is rows index → is_before n (place_of index text) ≡ list_any (is text) (take n rows)
stands_before is rows index text n of = ap (is_before n) (of text) ∙ sym (any_before (is text) n rows)
