-- Libraries whose slots are free are placed there.
use Rattle.std.proofs.Common.{◌≡◌, ℕ, ◌+◌, ◌<◌, Bool, true, false, List, [], ◌∷◌, ◌++◌, map, Option, Some, None, Result, Ok, refl, ap, ◌∙◌, arith}
use Rattle.std.specs.Prelude.{◌&&◌, ◌||◌, nat_le, nat_lt, if◌then◌else◌}
use Rattle.std.specs.List.{AllByRecursion, list_all, list_any}
use Rattle.std.proofs.lemmas.Bool.{and_from, and_parts, or_parts}
use Rattle.std.proofs.lemmas.Bool.Decides.{nat_tests}
use Rattle.pl_base.specs.Answers.{◌>>=◌, because}
use Rattle.pl_base.specs.Pairs.{any_pair}
use Rattle.pl_base.specs.Windows.{Window, any_share, share}
use Rattle.pl_elf.specs.declared.range.Range.{Range}
use Rattle.pl_loader.specs.Faults.{of_place}
use Rattle.pl_loader.specs.Places.{all_places, holes_beside, joined, misses, slot_place, slot_places, range_at_slot, slot_places_beside, places, range_at, slot_of, taken_first, wants_beside, wants_left, where_free}
use Rattle.pl_loader.specs.declared.object_file.ObjectFile.{ObjectFile}
use Rattle.pl_place.specs.Placing.{chosen}
use Rattle.pl_place.specs.Policy.{Choice}
use Rattle.pl_place.specs.declared.fault.PlaceFault.{PlaceFault}

all_append : {X : Type 0} (p : X → Bool) (xs : List X) (x : X) → list_all p xs ≡ true → p x ≡ true → list_all p (xs ++ x ∷ []) ≡ true
all_append p [] x all one = and_from (p x) true one refl
all_append p (y ∷ xs) x all one =
    let q = and_parts (p y) (list_all p xs) all in
    and_from (p y) (list_all p (xs ++ x ∷ [])) q.0 (all_append p xs x q.1 one)

-- ---- windows with no address in common

past : (a m b n : ℕ) → 0 < n → (nat_lt a (b + n) && nat_lt b (a + m) && nat_lt 0 m && nat_lt 0 n) ≡ false → (nat_le (b + n) a || nat_le (a + m) b || nat_le (a + m) a) ≡ true
past a m b n some apart = grind (arith, nat_tests)

module _ (slot : ObjectFile → ℕ) where
  -- a library at its slot
  abbrev pub window : ObjectFile → Window
  window f = record { at = slot f; size = f.object.span }

  abbrev pub range : ObjectFile → Range
  range f = range_at f (slot f)

  -- it bears that slot, and it is not empty
  pub record HasSlot (f : ObjectFile) : Type 0 where
    pub bears : slot_of f ≡ Some (slot f)
    pub some : 0 < f.object.span

  -- none of its addresses is taken
  abbrev pub IsFree : List Range → ObjectFile → Type 0
  IsFree taken f = list_all (misses (range f)) taken ≡ true

  one_apart : (f : ObjectFile) (gs : List ObjectFile) → AllByRecursion HasSlot gs → list_any (share (window f)) (map window gs) ≡ false → AllByRecursion (λ g. misses (range g) (range f) ≡ true) gs
  one_apart f [] have apart = tt
  one_apart f (g ∷ gs) have apart =
      let q = or_parts (share (window f) (window g)) (list_any (share (window f)) (map window gs)) apart in
      (past (slot f) f.object.span (slot g) g.object.span have.0.some q.0, one_apart f gs have.1 q.1)

  more_taken : (taken : List Range) (f : ObjectFile) (gs : List ObjectFile) → AllByRecursion (IsFree taken) gs → AllByRecursion (λ g. misses (range g) (range f) ≡ true) gs → AllByRecursion (IsFree (taken ++ range f ∷ [])) gs
  more_taken taken f [] free apart = tt
  more_taken taken f (g ∷ gs) free apart = (all_append (misses (range g)) taken (range f) free.0 apart.0, more_taken taken f gs free.1 apart.1)

  -- each is at its own place
  own_are : (taken : List Range) (fs : List ObjectFile) → AllByRecursion HasSlot fs → AllByRecursion (IsFree taken) fs → any_share (map window fs) ≡ false → slot_places taken fs ≡ map (λ f. Some (slot f)) fs
  unfolding slot_places
  own_are taken [] have free apart = refl
  own_are taken (f ∷ fs) have free apart =
      let q = or_parts (list_any (share (window f)) (map window fs)) (any_pair share (map window fs)) apart in
      let here : slot_place taken f ≡ Some (slot f) = ap (where_free taken f) have.0.bears ∙ ap (λ (b : Bool). if b then Some (slot f) else None) free.0 in
      let rest = own_are (taken ++ range f ∷ []) fs have.1 (more_taken taken f fs free.1 (one_apart f fs have.1 q.0)) q.1 in
      ap (λ (o : Option ℕ). o ∷ slot_places (taken ++ range_at_slot f o) fs) here ∙ ap (λ (os : List (Option ℕ)). Some (slot f) ∷ os) rest

  joined_are : (fs : List ObjectFile) → joined (map (λ f. Some (slot f)) fs) [] ≡ map slot fs
  unfolding joined
  joined_are [] = refl
  joined_are (f ∷ fs) = ap (λ (ns : List ℕ). slot f ∷ ns) (joined_are fs)

  none_left : (fs : List ObjectFile) → wants_left fs (map (λ f. Some (slot f)) fs) ≡ []
  unfolding wants_left
  none_left [] = refl
  none_left (f ∷ fs) = none_left fs

  nothing_chosen : (choose : Choice) (holes : List Range) → chosen choose holes [] ≡ Ok []
  unfolding chosen
  nothing_chosen choose holes = refl

  -- so are the places of a load
  pub slots_are_places : (choose : Choice) (busy : Option Range) (program : ObjectFile) (fs : List ObjectFile) → AllByRecursion HasSlot fs → AllByRecursion (IsFree (taken_first busy program)) fs → any_share (map window fs) ≡ false
      → places choose busy (program ∷ fs) ≡ Ok (0 ∷ map slot fs)
  unfolding places
  slots_are_places choose busy program fs have free apart =
      let owns : slot_places_beside busy program fs ≡ map (λ f. Some (slot f)) fs = own_are (taken_first busy program) fs have free apart in
      let wants : wants_beside busy program fs ≡ [] = ap (wants_left fs) owns ∙ none_left fs in
      let starts : chosen choose (holes_beside busy program fs) (wants_beside busy program fs) ≡ Ok [] = ap (chosen choose (holes_beside busy program fs)) wants ∙ nothing_chosen choose (holes_beside busy program fs) in
      ap (λ (r : Result (List ℕ) PlaceFault). because of_place r >>= λ starts. Ok (all_places busy program fs starts)) starts
      ∙ ap (λ (os : List (Option ℕ)). Ok (0 ∷ joined os [])) owns
      ∙ ap (λ (ns : List ℕ). Ok (0 ∷ ns)) (joined_are fs)
