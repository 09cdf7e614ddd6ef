-- Libraries at their own slots and by the policy: all of them miss what is taken, and one another.
use Rattle.std.proofs.Common.{◌≡◌, ℕ, ◌+◌, ◌<◌, ◌≤◌, true, false, not, ◌&&◌, List, [], ◌∷◌, ◌++◌, length, map, Option, Some, None, refl, sym, ap, subst, ◌∙◌, append_assoc, arith, inl, inr}
use Rattle.std.specs.Prelude.{nat_le, nat_lt}
use Rattle.std.specs.List.{All, list_all}
use Rattle.std.proofs.lemmas.Bool.{cases_Bool, and_parts, and_from, or_parts, or_from, not-true, not_from_false, le-leb, lt-ltb, leb-true, ltb-true, false_from_ne_true, false≢true}
use Rattle.std.proofs.lemmas.List.Elements.{All-nil, All-head, All-tail, All-cons}
use Rattle.std.proofs.lemmas.List.Folds.{list_any-append}
use Rattle.pl_elf.specs.declared.constants.TheConstants.{ADDRESS_LIMIT}
use Rattle.pl_elf.specs.declared.range.Range.{Range}
use Rattle.pl_elf.specs.Ranges.{has}
use Rattle.pl_place.specs.Placing.{want_range, AllFree, WantsAreApart, MissesAll, IsWant}
use Rattle.pl_slots.specs.Holes.{is_free}
use Rattle.pl_slots.specs.declared.slot.Want.{Want}
use Rattle.pl_loader.specs.Loading.{IsRead, IsLibrary, IsForm, IsFormIfMarked}
use Rattle.pl_loader.specs.Places.{region, everywhere, want_of, range_at, misses, where_free, slot_by, slot_place, range_at_slot, slot_places, ranges_at_slots, wants_left, joined, IsFree}
use Rattle.pl_loader.specs.declared.object_file.Mark.{Mark}
use Rattle.pl_loader.specs.declared.object_file.ObjectFile.{ObjectFile}

-- ---- what own places are

-- what is free of more is free of less
pub lesser : (within : Range) (less more : List Range) (wants : List Want) (starts : List ℕ) → ((a : ℕ) → is_free a less ≡ true → is_free a more ≡ true) → AllFree within more wants starts → AllFree within less wants starts
lesser within less more [] starts sub free = tt
lesser within less more (want ∷ wants) [] sub free = tt
lesser within less more (want ∷ wants) (start ∷ starts) sub free = (
  λ a here.
      let parts = and_parts (has a within) (not (is_free a more)) (free.0 a here) in
      let none : is_free a less ≡ false = false_from_ne_true (is_free a less) (λ hit. false≢true (sym (not-true (is_free a more) parts.1) ∙ sub a hit)) in
      and_from (has a within) (not (is_free a less)) parts.0 (not_from_false (is_free a less) none),
  lesser within less more wants starts sub free.1,
)

free_left : (a : ℕ) (busy more : List Range) → is_free a (busy ++ more) ≡ false → (is_free a busy ≡ false) × (is_free a more ≡ false)
free_left a busy more none = or_parts (is_free a busy) (is_free a more) (sym (list_any-append (has a) busy more) ∙ none)

pub fewer : (within : Range) (busy more : List Range) (wants : List Want) (starts : List ℕ) → AllFree within (busy ++ more) wants starts → AllFree within busy wants starts
fewer within busy more wants starts free =
    lesser within busy (busy ++ more) wants starts (λ a hit.
    elim (cases_Bool (is_free a (busy ++ more))) [
      | inl there ↦ there
      | inr none ↦ absurd (false≢true (sym (free_left a busy more none).0 ∙ hit))
    ]) free

-- a marked library's slot is low enough
pub slot_fits : (f : ObjectFile) (k : Mark) → IsRead f → IsLibrary f → f.mark ≡ Some k → k.slot + f.object.span ≤ ADDRESS_LIMIT
slot_fits f k read library is =
    let form : IsForm f k = subst (λ (m : Option Mark). IsFormIfMarked f m) is read.mark in
    elim form.form.mark [
      | inl low ↦ let below = low.below in omega arith
      | inr program ↦ absurd (false≢true (sym program.program ∙ library))
    ]

-- a library at its own place, if it has one
abbrev IsOwn : List Range → ObjectFile → Option ℕ → Type 0
IsOwn taken f None = Unit {0}
IsOwn taken f (Some slot) = (list_all (misses (range_at f slot)) taken ≡ true) × (slot + f.object.span ≤ ADDRESS_LIMIT)

abbrev AreOwn : List Range → List ObjectFile → List (Option ℕ) → Type 0
AreOwn taken [] [] = Unit {0}
AreOwn taken [] (own ∷ owns) = ⊥
AreOwn taken (f ∷ fs) [] = ⊥
AreOwn taken (f ∷ fs) (own ∷ owns) = IsOwn taken f own × AreOwn (taken ++ range_at_slot f own) fs owns

is_own : (taken : List Range) (f : ObjectFile) (m : Option Mark) → IsRead f → IsLibrary f → f.mark ≡ m → IsOwn taken f (where_free taken f (slot_by m))
is_own taken f None read library is = tt
is_own taken f (Some k) read library is =
    elim (cases_Bool (list_all (misses (range_at f k.slot)) taken)) [
      | inl free ↦ rw free (free, slot_fits f k read library is)
      | inr other ↦ rw other tt
    ]

owns_are : (taken : List Range) (fs : List ObjectFile) → All IsRead fs → All IsLibrary fs → AreOwn taken fs (slot_places taken fs)
unfolding slot_places
owns_are taken [] read libraries = tt
owns_are taken (f ∷ fs) read libraries = (
  is_own taken f f.mark (All-head IsRead f fs read) (All-head IsLibrary f fs libraries) refl,
  owns_are (taken ++ range_at_slot f (slot_place taken f)) fs (All-tail IsRead f fs read) (All-tail IsLibrary f fs libraries),
)

-- ---- addresses

shown : (busy : List Range) (a : ℕ) → a < ADDRESS_LIMIT → is_free a busy ≡ false → (has a everywhere && not (is_free a busy)) ≡ true
shown busy a below none =
    and_from (has a everywhere) (not (is_free a busy)) (and_from (nat_le 0 a) (nat_lt a ADDRESS_LIMIT) (le-leb 0 a (omega arith)) (lt-ltb a ADDRESS_LIMIT below)) (not_from_false (is_free a busy) none)

below_end : (a : ℕ) (r : Range) → has a r ≡ true → (r.start ≤ a) × (a < r.end)
below_end a r here =
    let parts = and_parts (nat_le r.start a) (nat_lt a r.end) here in
    (leb-true r.start a parts.0, ltb-true a r.end parts.1)

misses_at : (a : ℕ) (r t : Range) → misses r t ≡ true → has a r ≡ true → has a t ≡ false
misses_at a r t miss here =
    false_from_ne_true (has a t) (λ there.
    let from = below_end a r here in
    let to = below_end a t there in
    elim (cases_Bool (nat_le r.end t.start)) [
      | inl before ↦ let le = leb-true r.end t.start before in omega (arith, le, from.1, to.0)
      | inr not_before ↦
          elim (cases_Bool (nat_le t.end r.start)) [
            | inl after ↦ let le = leb-true t.end r.start after in omega (arith, le, from.0, to.1)
            | inr not_after ↦
                elim (cases_Bool (nat_le t.end t.start)) [
                  | inl empty ↦ let le = leb-true t.end t.start empty in omega (arith, le, to.0, to.1)
                  | inr some ↦ false≢true (sym (rw (not_before, not_after, some) refl) ∙ miss)
                ]
          ]
    ])

none_of : (a : ℕ) (r : Range) (taken : List Range) → list_all (misses r) taken ≡ true → has a r ≡ true → is_free a taken ≡ false
none_of a r [] all here = refl
none_of a r (t ∷ ts) all here =
    let parts = and_parts (misses r t) (list_all (misses r) ts) all in
    or_from (has a t) (is_free a ts) (misses_at a r t parts.0 here) (none_of a r ts parts.1 here)

-- ---- all places

pub joined_size : (taken : List Range) (fs : List ObjectFile) (owns : List (Option ℕ)) (starts : List ℕ) → AreOwn taken fs owns → length starts ≡ length (wants_left fs owns) → length (joined owns starts) ≡ length (map want_of fs)
unfolding joined wants_left
joined_size taken [] [] starts own size = refl
joined_size taken [] (o ∷ owns) starts own size = absurd own
joined_size taken (f ∷ fs) [] starts own size = absurd own
joined_size taken (f ∷ fs) (None ∷ owns) [] own size = absurd (omega (arith, size))
joined_size taken (f ∷ fs) (None ∷ owns) (start ∷ starts) own size =
    let rest = joined_size (taken ++ range_at_slot f None) fs owns starts own.1 (omega (arith, size)) in
    omega (arith, rest)
joined_size taken (f ∷ fs) (Some slot ∷ owns) starts own size =
    let rest = joined_size (taken ++ range_at_slot f (Some slot)) fs owns starts own.1 size in
    omega (arith, rest)

regroup : (taken mine : List Range) (fs : List ObjectFile) (owns : List (Option ℕ)) (starts : List ℕ) → AllFree region (taken ++ (mine ++ ranges_at_slots fs owns)) (wants_left fs owns) starts → AllFree region ((taken ++ mine) ++ ranges_at_slots fs owns) (wants_left fs owns) starts
regroup taken mine fs owns starts free = subst (λ (busy : List Range). AllFree region busy (wants_left fs owns) starts) (sym (append_assoc taken mine (ranges_at_slots fs owns))) free

in_region : (a : ℕ) → has a region ≡ true → a < ADDRESS_LIMIT
in_region a here = let end = (below_end a region here).1 in omega (arith, end)

free_all : (taken : List Range) (fs : List ObjectFile) (owns : List (Option ℕ)) (starts : List ℕ) → AreOwn taken fs owns → AllFree region (taken ++ ranges_at_slots fs owns) (wants_left fs owns) starts → AllFree everywhere taken (map want_of fs) (joined owns starts)
unfolding joined wants_left ranges_at_slots
free_all taken [] owns starts own free = tt
free_all taken (f ∷ fs) [] starts own free = absurd own
free_all taken (f ∷ fs) (None ∷ owns) [] own free = tt
free_all taken (f ∷ fs) (None ∷ owns) (start ∷ starts) own free = (
  λ a here.
      let parts = and_parts (has a region) (not (is_free a (taken ++ ranges_at_slots fs owns))) (free.0 a here) in
      shown taken a (in_region a parts.0) (free_left a taken (ranges_at_slots fs owns) (not-true _ parts.1)).0,
  fewer everywhere taken [] (map want_of fs) (joined owns starts) (free_all (taken ++ []) fs owns starts own.1 (regroup taken [] fs owns starts free.1)),
)
free_all taken (f ∷ fs) (Some slot ∷ owns) starts own free = (
  λ a here. let end = (below_end a (range_at f slot) here).1 in shown taken a (omega (arith, end, own.0.1)) (none_of a (range_at f slot) taken own.0.0 here),
  fewer everywhere taken (range_at f slot ∷ []) (map want_of fs) (joined owns starts) (free_all (taken ++ range_at f slot ∷ []) fs owns starts own.1 (regroup taken (range_at f slot ∷ []) fs owns starts free)),
)

misses_free : (r : Range) (taken : List Range) (wants : List Want) (places : List ℕ) → AllFree everywhere (taken ++ r ∷ []) wants places → MissesAll r wants places
misses_free r taken [] places free = tt
misses_free r taken (want ∷ wants) [] free = tt
misses_free r taken (want ∷ wants) (place ∷ places) free = (
  λ a here.
      false_from_ne_true (has a (want_range want place)) (λ there.
      let parts = and_parts (has a everywhere) (not (is_free a (taken ++ r ∷ []))) (free.0 a there) in
      let none = free_left a taken (r ∷ []) (not-true _ parts.1) in
      false≢true (sym (or_parts (has a r) false none.1).0 ∙ here)),
  misses_free r taken wants places free.1,
)

misses_joined : (r : Range) (fs : List ObjectFile) (owns : List (Option ℕ)) (starts : List ℕ) → ((a : ℕ) → has a r ≡ true → is_free a (ranges_at_slots fs owns) ≡ false) → MissesAll r (wants_left fs owns) starts → MissesAll r (map want_of fs) (joined owns starts)
unfolding joined wants_left ranges_at_slots
misses_joined r [] owns starts none misses = tt
misses_joined r (f ∷ fs) [] starts none misses = tt
misses_joined r (f ∷ fs) (None ∷ owns) [] none misses = tt
misses_joined r (f ∷ fs) (None ∷ owns) (start ∷ starts) none misses = (misses.0, misses_joined r fs owns starts none misses.1)
misses_joined r (f ∷ fs) (Some slot ∷ owns) starts none misses = (
  λ a here. (or_parts (has a (range_at f slot)) (is_free a (ranges_at_slots fs owns)) (none a here)).0,
  misses_joined r fs owns starts (λ a here. (or_parts (has a (range_at f slot)) (is_free a (ranges_at_slots fs owns)) (none a here)).1) misses,
)

apart_all : (taken : List Range) (fs : List ObjectFile) (owns : List (Option ℕ)) (starts : List ℕ) → AreOwn taken fs owns → AllFree region (taken ++ ranges_at_slots fs owns) (wants_left fs owns) starts → WantsAreApart (wants_left fs owns) starts → WantsAreApart (map want_of fs) (joined owns starts)
unfolding joined wants_left ranges_at_slots
apart_all taken [] owns starts own free apart = tt
apart_all taken (f ∷ fs) [] starts own free apart = absurd own
apart_all taken (f ∷ fs) (None ∷ owns) [] own free apart = tt
apart_all taken (f ∷ fs) (None ∷ owns) (start ∷ starts) own free apart = (
  misses_joined (range_at f start) fs owns starts
      (λ a here. (free_left a taken (ranges_at_slots fs owns) (not-true _ (and_parts (has a region) (not (is_free a (taken ++ ranges_at_slots fs owns))) (free.0 a here)).1)).1) apart.0,
  apart_all (taken ++ []) fs owns starts own.1 (regroup taken [] fs owns starts free.1) apart.1,
)
apart_all taken (f ∷ fs) (Some slot ∷ owns) starts own free apart =
    let later = regroup taken (range_at f slot ∷ []) fs owns starts free in (
      misses_free (range_at f slot) taken (map want_of fs) (joined owns starts) (free_all (taken ++ range_at f slot ∷ []) fs owns starts own.1 later),
      apart_all (taken ++ range_at f slot ∷ []) fs owns starts own.1 later apart,
    )

pub all_free : (taken : List Range) (fs : List ObjectFile) (starts : List ℕ) → All IsRead fs → All IsLibrary fs → IsFree region (taken ++ ranges_at_slots fs (slot_places taken fs)) (wants_left fs (slot_places taken fs)) starts
    → IsFree everywhere taken (map want_of fs) (joined (slot_places taken fs) starts)
all_free taken fs starts read libraries is =
    let owns : List (Option ℕ) = slot_places taken fs in
    let own : AreOwn taken fs owns = owns_are taken fs read libraries in
    record {
      one_each = joined_size taken fs owns starts own is.one_each;
      free = free_all taken fs owns starts own is.free;
      apart = apart_all taken fs owns starts own is.free is.apart;
    }

-- the same, step by step
pub beside_free : (first taken after : List Range) (fs : List ObjectFile) (owns : List (Option ℕ)) (wants : List Want) (starts places : List ℕ) → All IsRead fs → All IsLibrary fs → taken ≡ first → owns ≡ slot_places taken fs → wants ≡ wants_left fs (slot_places taken fs)
    → after ≡ taken ++ ranges_at_slots fs (slot_places taken fs) → IsFree region after wants starts → places ≡ joined owns starts → IsFree everywhere first (map want_of fs) places
beside_free first taken after fs owns wants starts places read libraries is owns_is wants_is after_is free places_is =
    let policy : IsFree region (taken ++ ranges_at_slots fs (slot_places taken fs)) (wants_left fs (slot_places taken fs)) starts =
    subst (λ (ws : List Want). IsFree region (taken ++ ranges_at_slots fs (slot_places taken fs)) ws starts) wants_is (subst (λ (rs : List Range). IsFree region rs wants starts) after_is free) in
    let joins : places ≡ joined (slot_places taken fs) starts = places_is ∙ ap (λ (os : List (Option ℕ)). joined os starts) owns_is in
    subst (λ (ps : List ℕ). IsFree everywhere first (map want_of fs) ps) (sym joins)
    (subst (λ (rs : List Range). IsFree everywhere rs (map want_of fs) (joined (slot_places taken fs) starts)) is (all_free taken fs starts read libraries policy))

-- what the others want may be asked
pub wants_are : (fs : List ObjectFile) (owns : List (Option ℕ)) → All IsWant (map want_of fs) → All IsWant (wants_left fs owns)
unfolding wants_left
wants_are [] owns all = All-nil IsWant
wants_are (f ∷ fs) [] all = All-nil IsWant
wants_are (f ∷ fs) (None ∷ owns) all = All-cons IsWant (want_of f) (wants_left fs owns) (All-head IsWant (want_of f) (map want_of fs) all) (wants_are fs owns (All-tail IsWant (want_of f) (map want_of fs) all))
wants_are (f ∷ fs) (Some slot ∷ owns) all = wants_are fs owns (All-tail IsWant (want_of f) (map want_of fs) all)
