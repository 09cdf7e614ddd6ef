-- The slots of a plan serve their wants, and in each walk they are apart.
use Rattle.std.proofs.Common.{◌≡◌, ◌≢◌, ℕ, zero, suc, ◌+◌, ◌<◌, ◌≤◌, Bool, true, false, ◌&&◌, ◌||◌, not, List, [], ◌∷◌, ◌++◌, length, get_or, Option, Some, None, Result, Ok, Err, refl, sym, ap, subst, ◌∙◌, inl, inr, arith, append_assoc}
use Rattle.std.specs.Prelude.{◌==◌, fold, slice_index_or, IfOk}
use Rattle.std.specs.List.{All, AllPairs, filter_map, cons_option, range_with_len}
use Rattle.std.proofs.lemmas.Bool.{cases_Bool, cases_lt, false≢true, or_cases, or_parts, or_left, or_right, eqb-true, eqb-false, eq-eqb, not-true}
use Rattle.std.proofs.lemmas.List.{length-append}
use Rattle.std.proofs.lemmas.List.Elements.{All-push}
use Rattle.std.proofs.lemmas.List.Folds.{list_any-append}
use Rattle.std.proofs.lemmas.List.Quantifiers.{all_pairs_push}
use Rattle.std.proofs.lemmas.List.Sums.{AllPass-from_list_all}
use Rattle.pl_base.specs.Answers.{Answers}
use Rattle.pl_base.proofs.AnswerLaws.{bind_ok, ok_same}
use Rattle.pl_elf.specs.declared.range.Range.{Range}
use Rattle.pl_elf.specs.Ranges.{has}
use Rattle.pl_slots.specs.declared.slot.Want.{Want}
use Rattle.pl_slots.specs.declared.slot.Slot.{Slot}
use Rattle.pl_slots.specs.declared.fault.PlanFault.{PlanFault}
use Rattle.pl_slots.specs.Apart.{is_beside}
use Rattle.pl_slots.specs.Holes.{region_holes, without, lowest, is_free, IsPlace}
use Rattle.pl_slots.specs.Plan.{kept_row, slot_range, slot_at, is_memory}
use Rattle.pl_slots.proofs.ApartLaws.{beside_back, fits_beside, taken_not_free}
use Rattle.pl_slots.proofs.HoleLaws.{free_in_region}
use Rattle.pl_slots.proofs.ServeLaws.{AreSome, are_some, IsKept, is_kept, lowest_fits, lies_where_free, still_free, InRegion}
use Rattle.pl_share.specs.declared.given.Given.{Given}
use Rattle.pl_share.specs.Together.{walk_has, are_together}
use Rattle.pl_share.specs.Shared.{given_to, is_clear, with_clear_row, kept, all_kept, without_slot, holes_for, has_slot, at_place, placed, all_placed, slot_of, slots_of, plan_shared, IsSlotFor, AreSlotsFor, WalksAreApart}

abbrev ok_in : {A : Type 0} → A → Result A PlanFault
ok_in x = Ok x

-- ---- together, either way round

and_flip : (a b : Bool) → (a && b) ≡ (b && a)
and_flip true true = refl
and_flip true false = refl
and_flip false true = refl
and_flip false false = refl

pub together_flip : (walks : List (List ℕ)) (i j : ℕ) → are_together walks i j ≡ are_together walks j i
unfolding are_together
together_flip [] i j = refl
together_flip (w ∷ walks) i j = rw (and_flip (walk_has w i) (walk_has w j), together_flip walks i j) refl

-- ---- what holds of the slots given so far

-- two slots of wants that some walk holds together are apart
abbrev pub Clear : List (List ℕ) → Given → Given → Type 0
Clear walks a b = are_together walks a.want b.want ≡ true → is_beside a.slot b.slot ≡ true

abbrev pub IsServed : Range → List Want → Given → Type 0
IsServed region wants g = (g.want < length wants) × ((w : Want) → IsSlotFor region (slice_index_or wants g.want w) g.slot) × (0 < g.slot.span)

pub record AreSound (walks : List (List ℕ)) (region : Range) (wants : List Want) (given : List Given) : Type 0 where
  pub served : All (IsServed region wants) given
  pub clear : AllPairs (Clear walks) given
  pub once : AllPairs (λ a b. a.want ≢ b.want) given

pub sound_none : (walks : List (List ℕ)) (region : Range) (wants : List Want) → AreSound walks region wants []
sound_none walks region wants = record { served = λ k d lt. absurd (omega arith); clear = λ i j d lt small. absurd (omega arith); once = λ i j d lt small. absurd (omega arith) }

pub sound_push : (walks : List (List ℕ)) (region : Range) (wants : List Want) (given : List Given) (i : ℕ) (slot : Slot) → AreSound walks region wants given → IsServed region wants (given_to i slot) → All (λ g. are_together walks i g.want ≡ true → is_beside slot g.slot ≡ true) given → All (λ g. g.want ≢ i) given
    → AreSound walks region wants (given ++ given_to i slot ∷ [])
sound_push walks region wants given i slot s served clear new = record {
  served = All-push (IsServed region wants) given (given_to i slot) s.served served;
  clear = all_pairs_push (Clear walks) given (given_to i slot) s.clear (λ k d lt t. beside_back slot (get_or given k d).slot (clear k d lt (together_flip walks i (get_or given k d).want ∙ t)));
  once = all_pairs_push (λ a b. a.want ≢ b.want) given (given_to i slot) s.once new;
}

-- ---- kept rows

clear_all : (walks : List (List ℕ)) (given : List Given) (i : ℕ) (row : Slot) → is_clear walks given i row ≡ true → All (λ g. are_together walks i g.want ≡ true → is_beside row g.slot ≡ true) given
clear_all walks given i row h k d lt t =
    let passes : (not (are_together walks i (get_or given k d).want) || is_beside row (get_or given k d).slot) ≡ true = AllPass-from_list_all (λ (g : Given). not (are_together walks i g.want) || is_beside row g.slot) given h k d lt in
    elim (or_cases (not (are_together walks i (get_or given k d).want)) (is_beside row (get_or given k d).slot) passes) [
      | inl n ↦ absurd (false≢true (sym (not-true (are_together walks i (get_or given k d).want) n) ∙ t))
      | inr b ↦ b
    ]

-- sound, and of wants before a position
pub record SoundBelow (walks : List (List ℕ)) (region : Range) (wants : List Want) (given : List Given) (i : ℕ) : Type 0 where
  pub sound : AreSound walks region wants given
  pub below : All (λ g. g.want < i) given

kept_sound : (rows : List Slot) (walks : List (List ℕ)) (region : Range) (wants : List Want) (given : List Given) (i : ℕ) (want : Want) (row : Option Slot) → row ≡ kept_row rows region want → i < length wants → ((w : Want) → slice_index_or wants i w ≡ want) → 0 < want.span
    → SoundBelow walks region wants given i → SoundBelow walks region wants (with_clear_row walks given i row) (i + 1)
kept_sound rows walks region wants given i want None is small at some s = record { sound = s.sound; below = λ k d lt. let b : (get_or given k d).want < i = s.below k d lt in omega arith }
kept_sound rows walks region wants given i want (Some row) is small at some s =
    elim (cases_Bool (is_clear walks given i row)) [
      | inl clear ↦
          let keeps : IsKept region want row = is_kept rows region want row is in
          rw clear (record {
            sound = sound_push walks region wants given i row s.sound
                (small, λ w. subst (λ (z : Want). IsSlotFor region z row) (sym (at w)) (record { name = keeps.name; large = keeps.large; aligned = keeps.aligned; within = keeps.within }), omega (arith, keeps.large, some))
                (clear_all walks given i row clear) (λ k d lt same. let b : (get_or given k d).want < i = s.below k d lt in clash b same);
            below = All-push (λ (g : Given). g.want < i + 1) given (given_to i row) (λ k d lt. let b : (get_or given k d).want < i = s.below k d lt in omega arith) (omega arith);
          })
      | inr meets ↦ rw meets (record { sound = s.sound; below = λ k d lt. let b : (get_or given k d).want < i = s.below k d lt in omega arith })
    ]
  where
    clash : {a b : ℕ} → a < b → a ≡ b → ⊥
    clash lt e = omega arith

-- the want at a position, and those behind it
head_at : (wants front rest : List Want) (want w : Want) (i : ℕ) → wants ≡ front ++ want ∷ rest → length front ≡ i → slice_index_or wants i w ≡ want
head_at wants front rest want w i is long = ap (λ (z : List Want). slice_index_or z i w) is ∙ at front i long
  where
    at : (front : List Want) (i : ℕ) → length front ≡ i → slice_index_or (front ++ want ∷ rest) i w ≡ want
    at [] i e = ap (λ (k : ℕ). slice_index_or (want ∷ rest) k w) (sym e)
    at (x ∷ xs) i e = ap (λ (k : ℕ). slice_index_or (x ∷ (xs ++ want ∷ rest)) k w) (sym e) ∙ at xs (length xs) refl

all_kept_sound : (rows : List Slot) (walks : List (List ℕ)) (region : Range) (wants front rest : List Want) (given : List Given) (i : ℕ) → wants ≡ front ++ rest → length front ≡ i → AreSome rest → SoundBelow walks region wants given i → SoundBelow walks region wants (all_kept rows walks region given i rest) (i + length rest)
unfolding all_kept kept
all_kept_sound rows walks region wants front [] given i is long some s = record { sound = s.sound; below = λ k d lt. let b : (get_or given k d).want < i = s.below k d lt in omega arith }
all_kept_sound rows walks region wants front (want ∷ rest) given i is long some s =
    let small : i < length wants = omega (arith, ap length is, length-append front (want ∷ rest), long) in
    let step : SoundBelow walks region wants (with_clear_row walks given i (kept_row rows region want)) (i + 1) =
    kept_sound rows walks region wants given i want (kept_row rows region want) refl small (λ w. head_at wants front rest want w i is long) some.1 s in
    let later : SoundBelow walks region wants (all_kept rows walks region (with_clear_row walks given i (kept_row rows region want)) (i + 1) rest) ((i + 1) + length rest) =
    all_kept_sound rows walks region wants (front ++ want ∷ []) rest (with_clear_row walks given i (kept_row rows region want)) (i + 1) (is ∙ sym (append_assoc front (want ∷ []) rest)) (omega (arith, length-append front (want ∷ []), long)) some.2 step in
    subst (λ (n : ℕ). SoundBelow walks region wants (all_kept rows walks region (with_clear_row walks given i (kept_row rows region want)) (i + 1) rest) n) (omega arith) later

-- ---- holes beside slots

fold_free : (walks : List (List ℕ)) (i address : ℕ) (given : List Given) (holes : List Range) → is_free address (fold (without_slot walks i) holes given) ≡ true → is_free address holes ≡ true
fold_free walks i address [] holes free = free
fold_free walks i address (g ∷ given) holes free =
    let rest : is_free address (without_slot walks i holes g) ≡ true = fold_free walks i address given (without_slot walks i holes g) free in
    elim (cases_Bool (are_together walks i g.want)) [
      | inl t ↦ still_free (slot_range g.slot) holes address (rw t at rest)
      | inr f ↦ rw f at rest
    ]

fold_taken : (walks : List (List ℕ)) (i address : ℕ) (given : List Given) (holes : List Range) (k : ℕ) (d : Given) → k < length given → are_together walks i (get_or given k d).want ≡ true → has address (slot_range (get_or given k d).slot) ≡ true → is_free address (fold (without_slot walks i) holes given) ≡ false
fold_taken walks i address [] holes k d lt t within = absurd (omega arith)
fold_taken walks i address (g ∷ given) holes zero d lt t within =
    elim (cases_Bool (is_free address (fold (without_slot walks i) (without_slot walks i holes g) given))) [
      | inl free ↦
          let rest : is_free address (without_slot walks i holes g) ≡ true = fold_free walks i address given (without_slot walks i holes g) free in
          let cut : is_free address (without (slot_range g.slot) holes) ≡ true = rw t at rest in
          absurd (false≢true (sym (taken_not_free (slot_range g.slot) holes address within) ∙ cut))
      | inr none ↦ none
    ]
fold_taken walks i address (g ∷ given) holes (suc k) d lt t within = fold_taken walks i address given (without_slot walks i holes g) k d (omega arith) t within

holes_inside : (walks : List (List ℕ)) (region : Range) (given : List Given) (i : ℕ) → InRegion region (holes_for walks region given i)
unfolding holes_for
holes_inside walks region given i = λ address free. sym (free_in_region address region) ∙ fold_free walks i address given (region_holes region) free

holes_taken : (walks : List (List ℕ)) (region : Range) (given : List Given) (i address k : ℕ) (d : Given) → k < length given → are_together walks i (get_or given k d).want ≡ true → has address (slot_range (get_or given k d).slot) ≡ true → is_free address (holes_for walks region given i) ≡ false
unfolding holes_for
holes_taken walks region given i address k d lt t within = fold_taken walks i address given (region_holes region) k d lt t within

-- ---- the others

-- sound, and each want before a position has a slot
pub record SoundTo (walks : List (List ℕ)) (region : Range) (wants : List Want) (given : List Given) (i : ℕ) : Type 0 where
  pub sound : AreSound walks region wants given
  pub covers : (j : ℕ) → j < i → has_slot given j ≡ true

has_front : (given more : List Given) (j : ℕ) → has_slot given j ≡ true → has_slot (given ++ more) j ≡ true
has_front given more j h = list_any-append (λ (g : Given). g.want == j) given more ∙ or_left (has_slot given j) (has_slot more j) h

has_new : (given : List Given) (i : ℕ) (slot : Slot) → has_slot (given ++ given_to i slot ∷ []) i ≡ true
has_new given i slot = list_any-append (λ (g : Given). g.want == i) given (given_to i slot ∷ []) ∙ or_right (has_slot given i) (has_slot (given_to i slot ∷ []) i) (or_left (i == i) false (eq-eqb i i refl))

not_there : (given : List Given) (i : ℕ) → has_slot given i ≡ false → All (λ g. g.want ≢ i) given
not_there [] i none k d lt = absurd (omega arith)
not_there (g ∷ given) i none zero d lt = eqb-false g.want i (or_parts (g.want == i) (has_slot given i) none).0
not_there (g ∷ given) i none (suc k) d lt = not_there given i (or_parts (g.want == i) (has_slot given i) none).1 k d (omega arith)

up_to : (given : List Given) (i : ℕ) → ((j : ℕ) → j < i → has_slot given j ≡ true) → has_slot given i ≡ true → (j : ℕ) → j < i + 1 → has_slot given j ≡ true
up_to given i before here j lt = elim (cases_lt j i) [
  | inl less ↦ before j less
  | inr ge ↦ let same : i ≡ j = omega arith in subst (λ (k : ℕ). has_slot given k ≡ true) same here
]

place_sound : (walks : List (List ℕ)) (region : Range) (wants : List Want) (given after : List Given) (i : ℕ) (want : Want) (found : Option ℕ) → has_slot given i ≡ false → i < length wants → ((w : Want) → slice_index_or wants i w ≡ want) → 0 < want.align → 0 < want.span
    → found ≡ lowest want.span want.align (holes_for walks region given i) → at_place given i want (holes_for walks region given i) found ≡ Ok after → SoundTo walks region wants given i → SoundTo walks region wants after (i + 1)
place_sound walks region wants given after i want None none small at aligns some is ok s = absurd (err_ok ok)
  where
    err_ok : {f : PlanFault} {a : List Given} → Err f ≡ Ok a → ⊥
    err_ok h = cc
place_sound walks region wants given after i want (Some start) none small at aligns some is ok s =
    let slot : Slot = slot_at want start in
    let place : IsPlace (holes_for walks region given i) want.span want.align start = lowest_fits want.span want.align start (holes_for walks region given i) aligns is in
    let serves : IsSlotFor region want slot = record { name = refl; large = omega arith; aligned = place.0; within = lies_where_free region (holes_for walks region given i) slot (holes_inside walks region given i) some place.1 } in
    let clear : All (λ g. are_together walks i g.want ≡ true → is_beside slot g.slot ≡ true) given = λ k d lt t.
    fits_beside (holes_for walks region given i) slot (get_or given k d).slot some place.1 (s.sound.served k d lt).2 (λ address within. holes_taken walks region given i address k d lt t within) in
    let all : AreSound walks region wants (given ++ given_to i slot ∷ []) = sound_push walks region wants given i slot s.sound (small, λ w. subst (λ (z : Want). IsSlotFor region z slot) (sym (at w)) serves, some) clear (not_there given i none) in
    subst (λ (z : List Given). SoundTo walks region wants z (i + 1)) (ok_same (given ++ given_to i slot ∷ []) after ok)
    (record { sound = all; covers = up_to (given ++ given_to i slot ∷ []) i (λ j lt. has_front given (given_to i slot ∷ []) j (s.covers j lt)) (has_new given i slot) })

placed_sound : (walks : List (List ℕ)) (region : Range) (wants : List Want) (given after : List Given) (i : ℕ) (want : Want) → i < length wants → ((w : Want) → slice_index_or wants i w ≡ want) → 0 < want.align → 0 < want.span → placed walks region given i want ≡ Ok after → SoundTo walks region wants given i → SoundTo walks region wants after (i + 1)
unfolding placed
placed_sound walks region wants given after i want small at aligns some ok s =
    elim (cases_Bool (has_slot given i)) [
      | inl there ↦ subst (λ (z : List Given). SoundTo walks region wants z (i + 1)) (ok_same given after (rw there at ok)) (record { sound = s.sound; covers = up_to given i s.covers there })
      | inr none ↦ place_sound walks region wants given after i want (lowest want.span want.align (holes_for walks region given i)) none small at aligns some refl (rw none at ok) s
    ]

all_placed_sound : (walks : List (List ℕ)) (region : Range) (wants front rest : List Want) (given after : List Given) (i : ℕ) → wants ≡ front ++ rest → length front ≡ i → AreSome rest → all_placed walks region given i rest ≡ Ok after → SoundTo walks region wants given i → SoundTo walks region wants after (i + length rest)
unfolding all_placed
all_placed_sound walks region wants front [] given after i is long some ok s =
    subst (λ (z : List Given). SoundTo walks region wants z (i + 0)) (ok_same given after ok) (record { sound = s.sound; covers = λ j lt. s.covers j (omega arith) })
all_placed_sound walks region wants front (want ∷ rest) given after i is long some ok s =
    let small : i < length wants = omega (arith, ap length is, length-append front (want ∷ rest), long) in
    let split : (more : List Given) × (placed walks region given i want ≡ Ok more) × (all_placed walks region more (i + 1) rest ≡ Ok after) = bind_ok (placed walks region given i want) (λ more. all_placed walks region more (i + 1) rest) after ok in
    let step : SoundTo walks region wants split.0 (i + 1) = placed_sound walks region wants given split.0 i want small (λ w. head_at wants front rest want w i is long) some.0 some.1 split.1 s in
    let later : SoundTo walks region wants after ((i + 1) + length rest) = all_placed_sound walks region wants (front ++ want ∷ []) rest split.0 after (i + 1) (is ∙ sym (append_assoc front (want ∷ []) rest)) (omega (arith, length-append front (want ∷ []), long)) some.2 split.2 step in
    subst (λ (n : ℕ). SoundTo walks region wants after n) (omega arith) later

-- ---- the slots in order

-- the slot of a want that has one
pub record HasGiven (given : List Given) (i : ℕ) : Type 0 where
  pub at : ℕ
  pub small : at < length given
  pub want : (d : Given) → (get_or given at d).want ≡ i
  pub found : (d : Given) → slot_of given i ≡ Some (get_or given at d).slot

given_at : (given : List Given) (i : ℕ) → has_slot given i ≡ true → HasGiven given i
given_at [] i none = absurd (false≢true none)
given_at (g ∷ given) i there =
    elim (cases_Bool (g.want == i)) [
      | inl hit ↦ record { at = 0; small = omega arith; want = λ d. eqb-true g.want i hit; found = λ d. rw hit refl }
      | inr miss ↦
          let rest : HasGiven given i = given_at given i (rw miss at there) in
          record { at = suc rest.at; small = omega (arith, rest.small); want = λ d. rest.want d; found = λ d. rw miss (rest.found d) }
    ]

some_slot : (given : List Given) (i : ℕ) → has_slot given i ≡ true → (x : Slot) × (slot_of given i ≡ Some x)
some_slot [] i none = absurd (false≢true none)
some_slot (g ∷ given) i there = let h : HasGiven (g ∷ given) i = given_at (g ∷ given) i there in ((get_or (g ∷ given) h.at g).slot, h.found g)

-- what a function that always answers makes of a range
pub record AllSome (f : ℕ → Option Slot) (a n : ℕ) : Type 0 where
  pub count : length (filter_map f (range_with_len a n)) ≡ n
  pub each : (k : ℕ) (s : Slot) → k < n → Some (get_or (filter_map f (range_with_len a n)) k s) ≡ f (a + k)

behind : (f : ℕ → Option Slot) (a n k : ℕ) (s x : Slot) → f a ≡ Some x → k < suc n → AllSome f (a + 1) n → Some (get_or (x ∷ filter_map f (range_with_len (a + 1) n)) k s) ≡ f (a + k)
behind f a n zero s x is lt rest = sym is ∙ ap f (whole a)
  where
    whole : (a : ℕ) → a ≡ a + 0
    whole a = omega arith
behind f a n (suc k) s x is lt rest = rest.each k s (omega arith) ∙ ap f (one_more a k)
  where
    one_more : (a k : ℕ) → (a + 1) + k ≡ a + suc k
    one_more a k = omega arith

all_some : (f : ℕ → Option Slot) (n a : ℕ) → ((j : ℕ) → a ≤ j → j < a + n → (x : Slot) × (f j ≡ Some x)) → AllSome f a n
all_some f zero a each = record { count = refl; each = λ k s lt. absurd (omega arith) }
all_some f (suc n) a each =
    let here : (x : Slot) × (f a ≡ Some x) = each a (omega arith) (omega arith) in
    let rest : AllSome f (a + 1) n = all_some f n (a + 1) (λ j low high. each j (omega arith) (omega arith)) in
    record {
      count = ap (λ (o : Option Slot). length (cons_option o (filter_map f (range_with_len (a + 1) n)))) here.1 ∙ ap suc rest.count;
      each = λ k s lt. ap (λ (o : Option Slot). Some (get_or (cons_option o (filter_map f (range_with_len (a + 1) n))) k s)) here.1 ∙ behind f a n k s here.0 here.1 lt rest;
    }

same_some : (x y : Slot) → Some x ≡ Some y → x ≡ y
same_some x y h = cc

-- the slot at a place is one that was given
slots_given : (walks : List (List ℕ)) (region : Range) (wants : List Want) (given : List Given) (i : ℕ) (s : Slot) (d : Given) → SoundTo walks region wants given (length wants) → (small : i < length wants) → (h : HasGiven given i) → get_or (slots_of given (length wants)) i s ≡ (get_or given h.at d).slot
slots_given walks region wants given i s d sound small h =
    let all : AllSome (slot_of given) 0 (length wants) = all_some (slot_of given) (length wants) 0 (λ j low high. some_slot given j (sound.covers j (omega arith))) in
    same_some (get_or (slots_of given (length wants)) i s) (get_or given h.at d).slot (all.each i s small ∙ (ap (slot_of given) (none i) ∙ h.found d))
  where
    none : (i : ℕ) → 0 + i ≡ i
    none i = omega arith

slots_count : (walks : List (List ℕ)) (region : Range) (wants : List Want) (given : List Given) → SoundTo walks region wants given (length wants) → length (slots_of given (length wants)) ≡ length wants
slots_count walks region wants given sound = (all_some (slot_of given) (length wants) 0 (λ j low high. some_slot given j (sound.covers j (omega arith)))).count

all_serve : (walks : List (List ℕ)) (region : Range) (wants : List Want) (given : List Given) → SoundTo walks region wants given (length wants) → AreSlotsFor region wants (slots_of given (length wants))
all_serve walks region wants given sound = record {
  count = slots_count walks region wants given sound;
  each = λ i w s small.
      let h : HasGiven given i = given_at given i (sound.covers i small) in
      let d : Given = given_to i s in
      let served : IsServed region wants (get_or given h.at d) = sound.sound.served h.at d h.small in
      let serves : IsSlotFor region (slice_index_or wants (get_or given h.at d).want w) (get_or given h.at d).slot = served.1 w in
      subst (λ (x : Slot). IsSlotFor region (slice_index_or wants i w) x) (sym (slots_given walks region wants given i s d sound small h)) (subst (λ (k : ℕ). IsSlotFor region (slice_index_or wants k w) (get_or given h.at d).slot) (h.want d) serves);
}

walks_apart : (walks : List (List ℕ)) (region : Range) (wants : List Want) (given : List Given) → SoundTo walks region wants given (length wants) → WalksAreApart walks (slots_of given (length wants))
walks_apart walks region wants given sound i j s small less ne together =
    let count : length (slots_of given (length wants)) ≡ length wants = slots_count walks region wants given sound in
    let i_small : i < length wants = omega (arith, small, count) in
    let j_small : j < length wants = omega (arith, less, count) in
    let h : HasGiven given i = given_at given i (sound.covers i i_small) in
    let g : HasGiven given j = given_at given j (sound.covers j j_small) in
    let d : Given = given_to i s in
    let both : are_together walks (get_or given h.at d).want (get_or given g.at d).want ≡ true = subst (λ (k : ℕ). are_together walks k (get_or given g.at d).want ≡ true) (sym (h.want d)) (subst (λ (k : ℕ). are_together walks i k ≡ true) (sym (g.want d)) together) in
    let besides : is_beside (get_or given h.at d).slot (get_or given g.at d).slot ≡ true = elim (cases_lt h.at g.at) [
      | inl lt ↦ sound.sound.clear h.at g.at d lt g.small both
      | inr ge ↦ elim (cases_lt g.at h.at) [
        | inl lt ↦ beside_back (get_or given g.at d).slot (get_or given h.at d).slot (sound.sound.clear g.at h.at d lt h.small (together_flip walks (get_or given g.at d).want (get_or given h.at d).want ∙ both))
        | inr le ↦ absurd (ne (sym (h.want d) ∙ (ap (λ (k : ℕ). (get_or given k d).want) (same h.at g.at ge le) ∙ g.want d)))
      ]
    ] in
    subst (λ (x : Slot). is_beside x (get_or (slots_of given (length wants)) j s) ≡ true) (sym (slots_given walks region wants given i s d sound i_small h))
    (subst (λ (x : Slot). is_beside (get_or given h.at d).slot x ≡ true) (sym (slots_given walks region wants given j s d sound j_small g)) besides)
  where
    same : (a b : ℕ) → b ≤ a → a ≤ b → a ≡ b
    same a b h g = omega arith

-- ---- the plan

whole_sound : (rows : List Slot) (wants : List Want) (walks : List (List ℕ)) (region : Range) (given : List Given) → AreSome wants → all_placed walks region (all_kept rows walks region [] 0 wants) 0 wants ≡ Ok given → SoundTo walks region wants given (length wants)
whole_sound rows wants walks region given some ok =
    let kept : SoundBelow walks region wants (all_kept rows walks region [] 0 wants) (0 + length wants) = all_kept_sound rows walks region wants [] wants [] 0 refl refl some (record { sound = sound_none walks region wants; below = λ k d lt. absurd (omega arith) }) in
    let all : SoundTo walks region wants given (0 + length wants) = all_placed_sound walks region wants [] wants (all_kept rows walks region [] 0 wants) given 0 refl refl some ok (record { sound = kept.sound; covers = λ j lt. absurd (omega arith) }) in
    subst (λ (n : ℕ). SoundTo walks region wants given n) (none (length wants)) all
  where
    none : (n : ℕ) → 0 + n ≡ n
    none n = omega arith

pub slots_serve : (rows : List Slot) (wants : List Want) (walks : List (List ℕ)) (region : Range) (result : Result (List Slot) PlanFault) → All (λ want. 0 < want.align) wants → Answers is_memory result (plan_shared rows wants walks region)
    → IfOk result (λ slots. All (λ want. 0 < want.span) wants → AreSlotsFor region wants slots)
unfolding plan_shared
slots_serve rows wants walks region (Ok slots) aligns ok = λ spans.
    let split : (given : List Given) × (all_placed walks region (all_kept rows walks region [] 0 wants) 0 wants ≡ Ok given) × (ok_in (slots_of given (length wants)) ≡ Ok slots) = bind_ok (all_placed walks region (all_kept rows walks region [] 0 wants) 0 wants) (λ given. Ok (slots_of given (length wants))) slots ok in
    subst (AreSlotsFor region wants) (ok_same (slots_of split.0 (length wants)) slots split.2) (all_serve walks region wants split.0 (whole_sound rows wants walks region split.0 (are_some wants aligns spans) split.1))
slots_serve rows wants walks region (Err e) aligns ok = tt

pub slots_apart : (rows : List Slot) (wants : List Want) (walks : List (List ℕ)) (region : Range) (result : Result (List Slot) PlanFault) → All (λ want. 0 < want.align) wants → Answers is_memory result (plan_shared rows wants walks region)
    → IfOk result (λ slots. All (λ want. 0 < want.span) wants → WalksAreApart walks slots)
unfolding plan_shared
slots_apart rows wants walks region (Ok slots) aligns ok = λ spans.
    let split : (given : List Given) × (all_placed walks region (all_kept rows walks region [] 0 wants) 0 wants ≡ Ok given) × (ok_in (slots_of given (length wants)) ≡ Ok slots) = bind_ok (all_placed walks region (all_kept rows walks region [] 0 wants) 0 wants) (λ given. Ok (slots_of given (length wants))) slots ok in
    subst (WalksAreApart walks) (ok_same (slots_of split.0 (length wants)) slots split.2) (walks_apart walks region wants split.0 (whole_sound rows wants walks region split.0 (are_some wants aligns spans) split.1))
slots_apart rows wants walks region (Err e) aligns ok = tt
