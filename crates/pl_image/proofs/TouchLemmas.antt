-- Patches by the words that they touch.
use Rattle.std.proofs.Common.{◌≡◌, ℕ, suc, ◌+◌, ◌-◌, ◌/◌, ◌<◌, ◌≤◌, Bool, true, false, cond, not, List, [], ◌∷◌, ◌++◌, length, get_or, take, drop, refl, sym, ap, subst, ◌∙◌, ◌⊎◌, arith, inl, inr}
use Rattle.std.specs.Prelude.{◌&&◌, ◌||◌, ◌==◌, nat_le, nat_lt, fold, filter}
use Rattle.std.specs.List.{AllWithin, All, list_any}
use Rattle.std.specs.List.Sorted.{IsNonDecreasingBy, IsPartitionPoint, IsPermutation, IsStableByKey, ties}
use Rattle.std.specs.Ordering.{nat_cmp, is_lt}
use Rattle.std.proofs.lemmas.Bool.{cases_Bool, cases_lt, or_parts}
use Rattle.std.proofs.lemmas.Bool.Decides.{nat_tests}
use Rattle.std.proofs.lemmas.List.Elements.{All-nil, All-push, All-take, All-drop}
use Rattle.std.proofs.lemmas.List.Sums.{fold_push, fold-append, fold_more}
use Rattle.std.proofs.lemmas.List.Sorted.{All-permutation}
use Rattle.std.proofs.lemmas.List.{take_all, take-append-drop, drop-drop, length-take, length-drop, get_or-take, get_or-drop, get_or_default}
use Rattle.std.proofs.Math.Bool.{or-true}
use Rattle.std.proofs.lemmas.List.Folds.{list_any_at, list_any_none, Any-from_list_any}
use Rattle.pl_base.specs.Memory.{Fill, covers}
use Rattle.pl_image.specs.declared.touched.Touch.{Touch}
use Rattle.pl_image.specs.Index.{laid, laid_by, laid_up_to, patch_of, is_of_patch, is_touched, words_end, IsIndex, IsIndexOf, IsIndexTo, AreTouching, AreNear}

-- ---- an index that is made

-- a patch changes only bytes of words from its first one up to the one past its end
laid_all : (f : Fill) (a found : ℕ) → laid_up_to f (words_end f) a found ≡ laid a found f
laid_all f a found = elim (cases_Bool (covers a f)) [
  | inl hit ↦
      let within : (nat_le (f.start / 8) (a / 8) && nat_lt (a / 8) (words_end f)) ≡ true = grind (arith, nat_tests) in
      rw within refl
  | inr miss ↦ elim (cases_Bool (nat_le (f.start / 8) (a / 8) && nat_lt (a / 8) (words_end f))) [
    | inl within ↦ rw within refl
    | inr outside ↦ rw (outside, miss) refl
  ]
]

-- one word more
laid_next : (f : Fill) (number a found : ℕ) → f.start / 8 ≤ number → cond (number == a / 8) (laid a (laid_up_to f number a found) f) (laid_up_to f number a found) ≡ laid_up_to f (number + 1) a found
laid_next f number a found le = elim (cases_Bool (number == a / 8)) [
  | inl here ↦
      let before : (nat_le (f.start / 8) (a / 8) && nat_lt (a / 8) number) ≡ false = grind (arith, nat_tests) in
      let now : (nat_le (f.start / 8) (a / 8) && nat_lt (a / 8) (number + 1)) ≡ true = grind (arith, nat_tests) in
      rw (here, before, now) refl
  | inr other ↦
      let same : (nat_le (f.start / 8) (a / 8) && nat_lt (a / 8) (number + 1)) ≡ (nat_le (f.start / 8) (a / 8) && nat_lt (a / 8) number) = grind (arith, nat_tests) in
      rw (other, same) refl
]

module _ (patches : List Fill) where
  pub index_begins : IsIndexOf patches [] 0
  index_begins = record { inside = All-nil (λ (t : Touch). t.patch < 0); only = All-nil (λ (t : Touch). is_of_patch patches t ≡ true); whole = λ a found. refl }

  pub words_begin : (touched : List Touch) (index number : ℕ) → number ≡ (patch_of patches index).start / 8 → IsIndexOf patches touched index → IsIndexTo patches touched index number
  words_begin touched index number first i = record {
    inside = λ k d lt. let less = i.inside k d lt in omega arith;
    only = i.only;
    whole = λ a found.
        let none : (nat_le ((patch_of patches index).start / 8) (a / 8) && nat_lt (a / 8) number) ≡ false = grind (arith, nat_tests) in
        rw none (i.whole a found);
  }

  pub words_more : (touched : List Touch) (index number : ℕ) → (patch_of patches index).start / 8 ≤ number → number < words_end (patch_of patches index) → IsIndexTo patches touched index number
      → IsIndexTo patches (touched ++ record { number = number; patch = index } ∷ []) index (number + 1)
  words_more touched index number le lt i = record {
    inside = All-push (λ (t : Touch). t.patch < index + 1) touched (record { number = number; patch = index }) i.inside (omega arith);
    only =
        let of_patch : is_of_patch patches (record { number = number; patch = index }) ≡ true = grind (arith, nat_tests) in
        All-push (λ (t : Touch). is_of_patch patches t ≡ true) touched (record { number = number; patch = index }) i.only of_patch;
    whole = λ a found.
        fold_push (laid_by patches a) found touched (record { number = number; patch = index })
        ∙ ap (λ (x : ℕ). laid_by patches a x (record { number = number; patch = index })) (i.whole a found)
        ∙ laid_next (patch_of patches index) number a (fold (laid a) found (take index patches)) le;
  }

  pub words_done : (touched : List Touch) (index number : ℕ) → index < length patches → number ≡ words_end (patch_of patches index) → IsIndexTo patches touched index number → IsIndexOf patches touched (index + 1)
  words_done touched index number lt last i = record {
    inside = i.inside;
    only = i.only;
    whole = λ a found.
        i.whole a found
        ∙ ap (λ (n : ℕ). laid_up_to (patch_of patches index) n a (fold (laid a) found (take index patches))) last
        ∙ laid_all (patch_of patches index) a (fold (laid a) found (take index patches))
        ∙ sym (fold_more (laid a) found patches index (record { start = 0; bytes = [] }) lt);
  }

-- ---- an index in order

-- a fold goes by the rows that count
fold_kept : {A B : Type 0} (f : B → A → B) (p : A → Bool) (xs : List A) (b : B) → ((c : B) (x : A) → p x ≡ false → f c x ≡ c) → fold f b (filter p xs) ≡ fold f b xs
fold_kept f p [] b idle = refl
fold_kept f p (x ∷ xs) b idle = elim (cases_Bool (p x)) [
  | inl kept ↦ rw kept (fold_kept f p xs (f b x) idle)
  | inr left ↦ rw (left, idle b x left) (fold_kept f p xs b idle)
]

lt_is : (m n : ℕ) → is_lt (nat_cmp m n) ≡ nat_lt m n
lt_is m n = elim (cases_Bool (nat_lt m n)) [
  | inl less ↦ rw less refl
  | inr not_less ↦ elim (cases_Bool (m == n)) [
    | inl same ↦ rw (not_less, same) refl
    | inr other ↦ rw (not_less, other) refl
  ]
]

number_ties : (m n : ℕ) → (not (is_lt (nat_cmp m n)) && not (is_lt (nat_cmp n m))) ≡ false → (n == m) ≡ false
number_ties m n apart =
    let tests : (not (nat_lt m n) && not (nat_lt n m)) ≡ false = rw (lt_is m n, lt_is n m) at apart in
    grind (arith, nat_tests)

idle_by : (patches : List Fill) (a found : ℕ) (t : Touch) → (t.number == a / 8) ≡ false → laid_by patches a found t ≡ found
idle_by patches a found t other = rw other refl

pub index_sorted : (patches : List Fill) (touched sorted : List Touch) → IsIndexOf patches touched (length patches) → IsPermutation touched sorted → IsNonDecreasingBy (λ t. t.number) sorted
    → IsStableByKey (λ t. t.number) nat_cmp touched sorted → IsIndex patches sorted
index_sorted patches touched sorted i permutation rising stable = record {
  rising = rising;
  inside = All-permutation (λ (t : Touch). t.patch < length patches) touched sorted permutation i.inside;
  only = All-permutation (λ (t : Touch). is_of_patch patches t ≡ true) touched sorted permutation i.only;
  whole = λ a found.
      let x : Touch = record { number = a / 8; patch = 0 } in
      let tie : Touch → Bool = ties (λ y z. is_lt (nat_cmp y.number z.number)) x in
      let idle : (c : ℕ) (t : Touch) → tie t ≡ false → laid_by patches a c t ≡ c = λ c t apart. idle_by patches a c t (number_ties (a / 8) t.number apart) in
      sym (fold_kept (laid_by patches a) tie sorted found idle)
      ∙ ap (fold (laid_by patches a) found) (stable x)
      ∙ fold_kept (laid_by patches a) tie touched found idle
      ∙ i.whole a found
      ∙ ap (fold (laid a) found) (take_all (length patches) patches (omega arith));
}

-- ---- the patches that touch a word

fold_idle : {A B : Type 0} (f : B → A → B) (xs : List A) (b : B) → ((c : B) (k : ℕ) (d : A) → k < length xs → f c (get_or xs k d) ≡ c) → fold f b xs ≡ b
fold_idle f [] b idle = refl
fold_idle f (x ∷ xs) b idle =
    let one : f b x ≡ b = idle b 0 x (omega arith) in
    ap (λ c. fold f c xs) one ∙ fold_idle f xs b (λ c k d lt. idle c (suc k) d (omega arith))

-- the touches of the words from one number up to another
module _ (patches : List Fill) (ts : List Touch) (n m i j : ℕ) (h : IsIndex patches ts) (rises : n ≤ m)
    (first : IsPartitionPoint (λ t. nat_lt t.number n ≡ true) (λ t. nat_lt t.number n ≡ false) ts i)
    (last : IsPartitionPoint (λ t. nat_lt t.number m ≡ true) (λ t. nat_lt t.number m ≡ false) ts j)
    (i_within : i ≤ length ts) (j_within : j ≤ length ts) where
  pub in_order : i ≤ j
  in_order = elim (cases_lt j i) [
    | inr le ↦ le
    | inl less ↦
        let before = first.0 j (record { number = 0; patch = 0 }) (omega arith) less in
        let after = last.1 j (record { number = 0; patch = 0 }) (omega arith) (omega arith) in
        absurd (grind (arith, nat_tests))
  ]

  split : ts ≡ take i ts ++ (take (j - i) (drop i ts) ++ drop j ts)
  split =
      let there : i + (j - i) ≡ j = let le = in_order in omega arith in
      sym (take-append-drop i ts)
      ∙ ap (λ (xs : List Touch). take i ts ++ xs) (sym (take-append-drop (j - i) (drop i ts)) ∙ ap (λ (xs : List Touch). take (j - i) (drop i ts) ++ xs) (drop-drop (j - i) i ts ∙ ap (λ (k : ℕ). drop k ts) there))

  pub all_inside : All (λ t. t.patch < length patches) (take (j - i) (drop i ts))
  all_inside = All-take (λ (t : Touch). t.patch < length patches) (j - i) (drop i ts) (All-drop (λ (t : Touch). t.patch < length patches) i ts h.inside)

  pub whole_between : (a found : ℕ) → n ≤ a / 8 → a / 8 < m → fold (laid_by patches a) found (take (j - i) (drop i ts)) ≡ fold (laid a) found patches
  whole_between a found low high =
      let f = laid_by patches a in
      let mid = take (j - i) (drop i ts) in
      let front : fold f found (take i ts) ≡ found = fold_idle f (take i ts) found (λ c k d lt.
      let less : k < i = omega (arith, lt, length-take i ts) in
      let below = first.0 k d (omega arith) less in
      let there = get_or-take i ts k d less in
      idle_by patches a c (get_or (take i ts) k d) (rw there (let out : ((get_or ts k d).number == a / 8) ≡ false = grind (arith, nat_tests) in out))) in
      let back : fold f (fold f found mid) (drop j ts) ≡ fold f found mid = fold_idle f (drop j ts) (fold f found mid) (λ c k d lt.
      let within : j + k < length ts = omega (arith, lt, length-drop j ts) in
      let above = last.1 (j + k) d (omega arith) within in
      let there = get_or-drop j ts k d in
      idle_by patches a c (get_or (drop j ts) k d) (rw there (let out : ((get_or ts (j + k) d).number == a / 8) ≡ false = grind (arith, nat_tests) in out))) in
      sym back
      ∙ sym (fold-append f found mid (drop j ts))
      ∙ ap (λ (x : ℕ). fold f x (mid ++ drop j ts)) (sym front)
      ∙ sym (fold-append f found (take i ts) (mid ++ drop j ts))
      ∙ ap (fold f found) (sym split)
      ∙ h.whole a found

pub are_touching : (patches : List Fill) (ts : List Touch) (n i j : ℕ) → IsIndex patches ts → IsPartitionPoint (λ t. nat_lt t.number n ≡ true) (λ t. nat_lt t.number n ≡ false) ts i
    → IsPartitionPoint (λ t. nat_lt t.number (n + 1) ≡ true) (λ t. nat_lt t.number (n + 1) ≡ false) ts j → i ≤ length ts → j ≤ length ts → AreTouching patches (take (j - i) (drop i ts)) n
are_touching patches ts n i j h first last i_within j_within = record {
  inside = all_inside patches ts n (n + 1) i j h (omega arith) first last i_within j_within;
  whole = λ a found word. whole_between patches ts n (n + 1) i j h (omega arith) first last i_within j_within a found (omega arith) (omega arith);
}

-- the touches of the words of so many bytes
pub are_near : (patches : List Fill) (ts : List Touch) (from size last i j : ℕ) → IsIndex patches ts → last ≡ (from + size + 7) / 8
    → IsPartitionPoint (λ t. nat_lt t.number (from / 8) ≡ true) (λ t. nat_lt t.number (from / 8) ≡ false) ts i
    → IsPartitionPoint (λ t. nat_lt t.number last ≡ true) (λ t. nat_lt t.number last ≡ false) ts j → i ≤ length ts → j ≤ length ts → AreNear patches (take (j - i) (drop i ts)) from size
are_near patches ts from size m i j h is first last i_within j_within =
    let rises : from / 8 ≤ m = omega arith in record {
      inside = all_inside patches ts (from / 8) m i j h rises first last i_within j_within;
      whole = λ a found low high. whole_between patches ts (from / 8) m i j h rises first last i_within j_within a found (omega arith) (omega arith);
    }

pub only_touching : (ts : List Touch) (n i j : ℕ) → IsPartitionPoint (λ t. nat_lt t.number n ≡ true) (λ t. nat_lt t.number n ≡ false) ts i
    → IsPartitionPoint (λ t. nat_lt t.number (n + 1) ≡ true) (λ t. nat_lt t.number (n + 1) ≡ false) ts j
    → All (λ t. t.number ≡ n) (take (j - i) (drop i ts))
only_touching ts n i j first last = λ k d lt.
    let less : k < j - i = omega (arith, lt, length-take (j - i) (drop i ts)) in
    let within : i + k < length ts = omega (arith, lt, length-take (j - i) (drop i ts), length-drop i ts) in
    let low = first.1 (i + k) d (omega arith) within in
    let high = last.0 (i + k) d (omega arith) (omega (arith, less)) in
    let is : get_or (take (j - i) (drop i ts)) k d ≡ get_or ts (i + k) d = get_or-take (j - i) (drop i ts) k d less ∙ get_or-drop i ts k d in
    rw is (let out : (get_or ts (i + k) d).number ≡ n = grind (arith, nat_tests, low, high) in out)

-- ---- words that a patch touches

pub touched_word : (patches : List Fill) (touched : List Touch) (n : ℕ) → IsIndex patches touched → list_any (λ t. t.number == n) touched ≡ true → is_touched patches n ≡ true
touched_word patches touched n i hit =
    let at = Any-from_list_any (λ (t : Touch). t.number == n) touched hit in
    let t = at.1 in
    let inside : t.patch < length patches = subst (λ (u : Touch). u.patch < length patches) at.3 (i.inside at.0 t at.2) in
    let only : is_of_patch patches t ≡ true = subst (λ (u : Touch). is_of_patch patches u ≡ true) at.3 (i.only at.0 t at.2) in
    let here : (nat_le ((patch_of patches t.patch).start / 8) n && nat_lt n (words_end (patch_of patches t.patch))) ≡ true = grind (arith, nat_tests, only, at.4) in
    list_any_at (λ (f : Fill). nat_le (f.start / 8) n && nat_lt n (words_end f)) patches t.patch (record { start = 0; bytes = [] }) inside here

pub word_found : (patches : List Fill) (touched : List Touch) (stores : ℕ → Bool) (stored next result limit : ℕ) → IsIndex patches touched → (result ≡ stored) ⊎ (result ≡ next)
    → (stored < limit → stores stored ≡ true) → (next < limit → list_any (λ t. t.number == next) touched ≡ true) → result < limit → (stores result || is_touched patches result) ≡ true
word_found patches touched stores stored next result limit i is bytes touch lt = elim is [
  | inl first ↦
      let hit : stores result ≡ true = rw first (bytes (omega arith)) in
      rw hit refl
  | inr second ↦
      let hit : is_touched patches result ≡ true = rw second (touched_word patches touched next i (touch (omega arith))) in
      ap (λ (b : Bool). stores result || b) hit ∙ or-true (stores result)
]

-- ---- words that no patch touches

pub none_touched : (ts : List Touch) (from to i n : ℕ) (e : Touch) → IsNonDecreasingBy (λ t. t.number) ts → IsPartitionPoint (λ t. nat_lt t.number from ≡ true) (λ t. nat_lt t.number from ≡ false) ts i
    → (i < length ts → to ≤ (get_or ts i e).number) → from ≤ n → n < to → list_any (λ t. t.number == n) ts ≡ false
none_touched ts from to i n e rising point next low high = list_any_none (λ t. t.number == n) ts (λ k d within. elim (cases_lt k i) [
  | inl less ↦ let below = point.0 k d (omega arith) less in grind (arith, nat_tests)
  | inr le ↦
      let up = rising i k e le within in
      let there = get_or_default ts k d e within in
      let first = next (omega arith) in
      rw there (let out : ((get_or ts k e).number == n) ≡ false = grind (arith, nat_tests) in out)
])

untouched_by : (patches : List Fill) (ts : List Touch) (a found : ℕ) → list_any (λ t. t.number == a / 8) ts ≡ false → fold (laid_by patches a) found ts ≡ found
untouched_by patches [] a found none = refl
untouched_by patches (t ∷ ts) a found none =
    let p = or_parts (t.number == a / 8) (list_any (λ x. x.number == a / 8) ts) none in
    ap (λ (x : ℕ). fold (laid_by patches a) x ts) (idle_by patches a found t p.0) ∙ untouched_by patches ts a found p.1

pub untouched : (patches : List Fill) (ts : List Touch) (a found : ℕ) → IsIndex patches ts → list_any (λ t. t.number == a / 8) ts ≡ false → fold (laid a) found patches ≡ found
untouched patches ts a found i none = sym (i.whole a found) ∙ untouched_by patches ts a found none

-- ---- where the touches before a number end

module _ (ts : List Touch) (n i : ℕ) (e : Touch) (rising : IsNonDecreasingBy (λ t. t.number) ts) where
  pub first_before : 0 < i → i ≤ length ts → (get_or ts (i - 1) e).number < n → AllWithin (λ t. nat_lt t.number n ≡ true) ts 0 i
  first_before some within last = λ k d low less.
      let le = rising k (i - 1) d (omega arith) (omega arith) in
      let same = get_or_default ts (i - 1) d e (omega arith) in
      grind (arith, nat_tests)

  pub others_after : n ≤ (get_or ts i e).number → AllWithin (λ t. nat_lt t.number n ≡ false) ts i (length ts)
  others_after first = λ k d low less.
      let le = rising i k d low less in
      let same = get_or_default ts i d e (omega arith) in
      grind (arith, nat_tests)
