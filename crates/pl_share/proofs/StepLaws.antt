-- One step of a plan, by flags and in loops.
use Rattle.std.proofs.Common.{◌≡◌, ℕ, zero, suc, ◌+◌, ◌^◌, ◌<◌, ◌≤◌, Bool, true, false, ◌||◌, not, List, [], ◌∷◌, ◌++◌, length, get_or, drop, Option, Some, None, Result, Ok, Err, refl, sym, ap, ◌∙◌, arith}
use Rattle.std.specs.Prelude.{fold, slice_index_or, if◌then◌else◌, MatchBool, ⊤}
use Rattle.std.specs.List.{All, list_all, filter_map, cons_option, range_with_len}
use Rattle.std.proofs.lemmas.List.{drop_more, drop_all, map-id}
use Rattle.std.proofs.lemmas.List.Elements.{All-push}
use Rattle.std.proofs.lemmas.List.FromFn.{map-range_with_len_more}
use Rattle.pl_base.specs.Answers.{◌>>=◌}
use Rattle.pl_elf.specs.declared.range.Range.{Range}
use Rattle.pl_slots.specs.declared.slot.Want.{Want}
use Rattle.pl_slots.specs.declared.slot.Slot.{Slot}
use Rattle.pl_slots.specs.declared.fault.PlanFault.{PlanFault}
use Rattle.pl_slots.specs.Apart.{is_beside}
use Rattle.pl_slots.specs.Holes.{region_holes, without, lowest}
use Rattle.pl_slots.specs.Plan.{slot_range}
use Rattle.pl_share.specs.declared.given.Given.{Given}
use Rattle.pl_share.specs.Together.{are_together, AreFlags}
use Rattle.pl_share.specs.Shared.{given_to, AreGiven, is_clear, kept, all_kept, holes_for, flagged_holes, with_clear_row, has_slot, at_place, placed, all_placed, slot_of, slots_of, plan_shared}

-- ---- flags

-- of two steps that agree at each slot
same_all : (p q : Given → Bool) (given : List Given) → ((k : ℕ) (d : Given) → k < length given → p (get_or given k d) ≡ q (get_or given k d)) → list_all p given ≡ list_all q given
same_all p q [] same = refl
same_all p q (g ∷ given) same =
    let rest : list_all p given ≡ list_all q given = same_all p q given (λ k d lt. same (suc k) d (omega arith)) in
    rw (same zero g (omega arith), rest) refl

pub clear_by_flags : (walks : List (List ℕ)) (given : List Given) (i count : ℕ) (flags : List Bool) (row : Slot) → AreFlags flags walks i count → All (λ g. g.want < count) given
    → list_all (λ g. not (slice_index_or flags g.want false) || is_beside row g.slot) given ≡ is_clear walks given i row
clear_by_flags walks given i count flags row m within =
    same_all (λ g. not (slice_index_or flags g.want false) || is_beside row g.slot) (λ g. not (are_together walks i g.want) || is_beside row g.slot) given
    (λ k d lt. ap (λ (b : Bool). not b || is_beside row (get_or given k d).slot) (m.each (get_or given k d).want (within k d lt)))

same_fold : (p q : Given → Bool) (given : List Given) (holes : List Range) → ((k : ℕ) (d : Given) → k < length given → p (get_or given k d) ≡ q (get_or given k d))
    → fold (λ hs g. if p g then without (slot_range g.slot) hs else hs) holes given ≡ fold (λ hs g. if q g then without (slot_range g.slot) hs else hs) holes given
same_fold p q [] holes same = refl
same_fold p q (g ∷ given) holes same =
    ap (λ (b : Bool). fold (λ hs x. if p x then without (slot_range x.slot) hs else hs) (if b then without (slot_range g.slot) holes else holes) given) (same zero g (omega arith))
    ∙ same_fold p q given (if q g then without (slot_range g.slot) holes else holes) (λ k d lt. same (suc k) d (omega arith))

pub holes_by_flags : (walks : List (List ℕ)) (region : Range) (given : List Given) (i count : ℕ) (flags : List Bool) → AreFlags flags walks i count → All (λ g. g.want < count) given → flagged_holes flags region given ≡ holes_for walks region given i
unfolding holes_for
holes_by_flags walks region given i count flags m within =
    same_fold (λ g. slice_index_or flags g.want false) (λ g. are_together walks i g.want) given (region_holes region) (λ k d lt. m.each (get_or given k d).want (within k d lt))

-- ---- one slot more

pub given_push : (given : List Given) (count i : ℕ) (slot : Slot) → AreGiven given count → i < count → slot.start + slot.span < 2 ^ 64 → AreGiven (given ++ given_to i slot ∷ []) count
given_push given count i slot g small end = record {
  within = All-push (λ (x : Given). x.want < count) given (given_to i slot) g.within small;
  ends = All-push (λ (x : Given). x.slot.start + x.slot.span < 2 ^ 64) given (given_to i slot) g.ends end;
}

-- ---- loops

pub kept_more : (rows : List Slot) (walks : List (List ℕ)) (region : Range) (given after : List Given) (wants : List Want) (i : ℕ) (w : Want) (whole : List Given) → i < length wants → after ≡ kept rows walks region given i (get_or wants i w)
    → all_kept rows walks region given i (drop i wants) ≡ whole → all_kept rows walks region after (i + 1) (drop (i + 1) wants) ≡ whole
unfolding all_kept
kept_more rows walks region given after wants i w whole lt is so_far =
    ap (λ (z : List Given). all_kept rows walks region z (i + 1) (drop (i + 1) wants)) is ∙ (sym (ap (all_kept rows walks region given i) (drop_more wants i w lt)) ∙ so_far)

pub kept_all : (rows : List Slot) (walks : List (List ℕ)) (region : Range) (given : List Given) (wants : List Want) (i : ℕ) (whole : List Given) → length wants ≤ i → all_kept rows walks region given i (drop i wants) ≡ whole → given ≡ whole
unfolding all_kept
kept_all rows walks region given wants i whole past so_far = sym (ap (all_kept rows walks region given i) (drop_all i wants past)) ∙ so_far

pub placed_more : (walks : List (List ℕ)) (region : Range) (given after : List Given) (wants : List Want) (i : ℕ) (w : Want) (whole : Result (List Given) PlanFault) → i < length wants → placed walks region given i (get_or wants i w) ≡ Ok after
    → all_placed walks region given i (drop i wants) ≡ whole → all_placed walks region after (i + 1) (drop (i + 1) wants) ≡ whole
unfolding all_placed
placed_more walks region given after wants i w whole lt is so_far =
    sym (ap (λ (r : Result (List Given) PlanFault). r >>= λ more. all_placed walks region more (i + 1) (drop (i + 1) wants)) is) ∙ (sym (ap (all_placed walks region given i) (drop_more wants i w lt)) ∙ so_far)

-- what holds of a fault that is no want of memory
pub of_fault : {A B : Type 0} (b : Bool) → (A → B) → MatchBool b ⊤ A → MatchBool b ⊤ B
of_fault true f h = h
of_fault false f h = f h

pub placed_fails : (walks : List (List ℕ)) (region : Range) (given : List Given) (wants : List Want) (i : ℕ) (w : Want) (fault : PlanFault) (whole : Result (List Given) PlanFault) → i < length wants → w ≡ get_or wants i w
    → all_placed walks region given i (drop i wants) ≡ whole → placed walks region given i w ≡ Err fault → whole ≡ Err fault
unfolding all_placed
placed_fails walks region given wants i w fault whole lt at so_far is =
    sym so_far ∙ (ap (all_placed walks region given i) (drop_more wants i w lt)
    ∙ ap (λ (r : Result (List Given) PlanFault). r >>= λ more. all_placed walks region more (i + 1) (drop (i + 1) wants)) (ap (placed walks region given i) (sym at) ∙ is))

pub placed_all : (walks : List (List ℕ)) (region : Range) (given : List Given) (wants : List Want) (i : ℕ) (whole : Result (List Given) PlanFault) → length wants ≤ i → all_placed walks region given i (drop i wants) ≡ whole → whole ≡ Ok given
unfolding all_placed
placed_all walks region given wants i whole past so_far = sym so_far ∙ ap (all_placed walks region given i) (drop_all i wants past)

-- ---- slots in order

range_push : (n a : ℕ) → range_with_len a (n + 1) ≡ range_with_len a n ++ (a + n) ∷ []
range_push n a = sym (map-id (range_with_len a (n + 1))) ∙ (map-range_with_len_more (λ (k : ℕ). k) a n (a + n) refl ∙ ap (λ (z : List ℕ). z ++ (a + n) ∷ []) (map-id (range_with_len a n)))

map_push : (f : ℕ → Option Slot) (xs : List ℕ) (k : ℕ) → filter_map f (xs ++ k ∷ []) ≡ filter_map f xs ++ cons_option (f k) []
map_push f [] k = refl
map_push f (x ∷ xs) k = at (f x) (map_push f xs k)
  where
    at : (o : Option Slot) → filter_map f (xs ++ k ∷ []) ≡ filter_map f xs ++ cons_option (f k) [] → cons_option o (filter_map f (xs ++ k ∷ [])) ≡ cons_option o (filter_map f xs) ++ cons_option (f k) []
    at None e = e
    at (Some s) e = ap (λ (z : List Slot). s ∷ z) e

pub slots_more : (given : List Given) (n : ℕ) → slots_of given (n + 1) ≡ slots_of given n ++ cons_option (slot_of given n) []
slots_more given n = ap (filter_map (slot_of given)) (range_push n 0) ∙ (map_push (slot_of given) (range_with_len 0 n) (0 + n) ∙ ap (λ (k : ℕ). slots_of given n ++ cons_option (slot_of given k) []) (none n))
  where
    none : (n : ℕ) → 0 + n ≡ n
    none n = omega arith

-- ---- one want

-- a row that is not kept
pub row_left : (walks : List (List ℕ)) (given : List Given) (i count : ℕ) (flags : List Bool) (row : Slot) (clear : Bool) → AreFlags flags walks i count → All (λ g. g.want < count) given → clear ≡ list_all (λ g. not (slice_index_or flags g.want false) || is_beside row g.slot) given → clear ≡ false
    → given ≡ with_clear_row walks given i (Some row)
row_left walks given i count flags row clear m within is meets_one =
    let meets : is_clear walks given i row ≡ false = sym (is ∙ clear_by_flags walks given i count flags row m within) ∙ meets_one in
    rw meets refl

-- a row that is kept
pub row_kept : (walks : List (List ℕ)) (given after : List Given) (i count : ℕ) (flags : List Bool) (row slot : Slot) (clear : Bool) → AreFlags flags walks i count → All (λ g. g.want < count) given → clear ≡ list_all (λ g. not (slice_index_or flags g.want false) || is_beside row g.slot) given → clear ≡ true
    → slot ≡ row → after ≡ given ++ given_to i slot ∷ [] → after ≡ with_clear_row walks given i (Some row)
row_kept walks given after i count flags row slot clear m within is meets_none same push =
    let beside_all : is_clear walks given i row ≡ true = sym (is ∙ clear_by_flags walks given i count flags row m within) ∙ meets_none in
    push ∙ (ap (λ (s : Slot). given ++ given_to i s ∷ []) same ∙ rw beside_all refl)

-- a want that has a slot
pub placed_there : (walks : List (List ℕ)) (region : Range) (given : List Given) (i : ℕ) (want : Want) (there : Bool) → there ≡ has_slot given i → there ≡ true → placed walks region given i want ≡ Ok given
unfolding placed
placed_there walks region given i want there is found =
    let has : has_slot given i ≡ true = sym is ∙ found in
    rw has refl

-- one that has none
pub placed_in : (walks : List (List ℕ)) (region : Range) (given : List Given) (i : ℕ) (want : Want) (holes : List Range) (there : Bool) → there ≡ has_slot given i → there ≡ false → holes ≡ holes_for walks region given i
    → at_place given i want holes (lowest want.span want.align holes) ≡ placed walks region given i want
unfolding placed
placed_in walks region given i want holes there is missing same =
    let has : has_slot given i ≡ false = sym is ∙ missing in
    rw has (ap (λ (hs : List Range). at_place given i want hs (lowest want.span want.align hs)) same)

-- ---- the plan

pub planned_ok : (rows : List Slot) (wants : List Want) (walks : List (List ℕ)) (region : Range) (kept given : List Given) (slots : List Slot) → kept ≡ all_kept rows walks region [] 0 wants → all_placed walks region kept 0 wants ≡ Ok given → slots ≡ slots_of given (length wants)
    → plan_shared rows wants walks region ≡ Ok slots
unfolding plan_shared
planned_ok rows wants walks region kept given slots first placed last =
    ap (λ (r : Result (List Given) PlanFault). r >>= λ g. Ok (slots_of g (length wants))) (sym (ap (λ (k : List Given). all_placed walks region k 0 wants) first) ∙ placed)
    ∙ ap (λ (s : List Slot). Ok s) (sym last)

pub planned_err : (rows : List Slot) (wants : List Want) (walks : List (List ℕ)) (region : Range) (kept : List Given) (fault : PlanFault) → kept ≡ all_kept rows walks region [] 0 wants → all_placed walks region kept 0 wants ≡ Err fault
    → plan_shared rows wants walks region ≡ Err fault
unfolding plan_shared
planned_err rows wants walks region kept fault first fails =
    ap (λ (r : Result (List Given) PlanFault). r >>= λ g. Ok (slots_of g (length wants))) (sym (ap (λ (k : List Given). all_placed walks region k 0 wants) first) ∙ fails)
