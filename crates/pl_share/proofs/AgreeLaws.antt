-- Where each two libraries are loaded together, the plan of libraries that may share addresses is that of libraries that may not.
use Rattle.std.proofs.Common.{◌≡◌, ℕ, zero, suc, ◌+◌, ◌<◌, true, false, List, [], ◌∷◌, ◌++◌, length, map, Option, Some, None, Result, Ok, Err, refl, sym, ap, ◌∙◌, inl, inr, arith, append_assoc}
use Rattle.std.specs.Prelude.{◌==◌, fold, find, MatchOption, ⊤, if◌then◌else◌}
use Rattle.std.specs.List.{list_all, filter_map, cons_option, range_with_len, AllByRecursion}
use Rattle.std.specs.Option.{option_map}
use Rattle.std.proofs.lemmas.Bool.{cases_Bool, eqb-true, eq-eqb}
use Rattle.std.proofs.lemmas.List.{append-nil, map-append}
use Rattle.std.proofs.lemmas.List.Sums.{fold-append}
use Rattle.pl_base.specs.Answers.{◌>>=◌}
use Rattle.pl_base.specs.Each.{run}
use Rattle.pl_base.proofs.FindLaws.{any_found, any_missed}
use Rattle.pl_elf.specs.declared.range.Range.{Range}
use Rattle.pl_slots.specs.declared.slot.Want.{Want}
use Rattle.pl_slots.specs.declared.slot.Slot.{Slot}
use Rattle.pl_slots.specs.declared.partial_plan.PartialPlan.{PartialPlan}
use Rattle.pl_slots.specs.declared.fault.PlanFault.{PlanFault}
use Rattle.pl_slots.specs.Apart.{is_beside}
use Rattle.pl_slots.specs.Holes.{region_holes, without, lowest}
use Rattle.pl_slots.specs.Plan as apart
use Rattle.pl_slots.specs.Plan.{kept_row, keeps, slot_range, slot_at, without_kept}
use Rattle.pl_slots.proofs.ApartLaws.{with_kept, differ}
use Rattle.pl_share.specs.declared.given.Given.{Given}
use Rattle.pl_share.specs.Disjoint.{with_disjoint_row, disjoint}
use Rattle.pl_share.specs.Shared as shared
use Rattle.pl_share.specs.Shared.{given_to, is_clear, kept, all_kept, without_slot, holes_for, has_slot, at_place, placed, all_placed, slot_of, slots_of, plan_shared}
use Rattle.pl_share.specs.Laws.{AllAreTogether, TogetherIsApart}
use Rattle.pl_share.proofs.KeptLaws.{rows_in, AreOwn, Keep, own_keep, found_own}
use Rattle.pl_share.proofs.StepLaws.{slots_more}

-- ---- what each want keeps, after some rows

abbrev accepted : List Slot → Option Slot → Option Slot
accepted rows None = None
accepted rows (Some row) = if list_all (is_beside row) rows then Some row else None

abbrev owns_after : List Slot → Range → List Slot → List Want → List (Option Slot)
owns_after rows region before [] = []
owns_after rows region before (want ∷ wants) = accepted before (kept_row rows region want) ∷ owns_after rows region (with_disjoint_row before (kept_row rows region want)) wants

accepted_own : (region : Range) (want : Want) (before : List Slot) (found : Option Slot) → MatchOption found ⊤ (λ row. keeps region want row ≡ true) → MatchOption (accepted before found) ⊤ (λ row. keeps region want row ≡ true)
accepted_own region want before None is = tt
accepted_own region want before (Some row) is = elim (cases_Bool (list_all (is_beside row) before)) [
  | inl clear ↦ rw clear is
  | inr meets ↦ rw meets tt
]

after_own : (rows : List Slot) (region : Range) (before : List Slot) (wants : List Want) → AreOwn region wants (owns_after rows region before wants)
after_own rows region before [] = tt
after_own rows region before (want ∷ wants) =
    (accepted_own region want before (kept_row rows region want) (found_own rows region want (kept_row rows region want) refl), after_own rows region (with_disjoint_row before (kept_row rows region want)) wants)

with_accepted : (before more : List Slot) (found : Option Slot) → with_disjoint_row before found ++ more ≡ before ++ with_kept (accepted before found) more
with_accepted before more None = refl
with_accepted before more (Some row) = elim (cases_Bool (list_all (is_beside row) before)) [
  | inl clear ↦ rw clear (append_assoc before (row ∷ []) more)
  | inr meets ↦ rw meets refl
]

disjoint_after : (rows : List Slot) (region : Range) (wants : List Want) (before : List Slot) → fold (λ kept want. with_disjoint_row kept (kept_row rows region want)) before wants ≡ before ++ rows_in (owns_after rows region before wants)
disjoint_after rows region [] before = sym (append-nil before)
disjoint_after rows region (want ∷ wants) before =
    disjoint_after rows region wants (with_disjoint_row before (kept_row rows region want))
    ∙ with_accepted before (rows_in (owns_after rows region (with_disjoint_row before (kept_row rows region want)) wants)) (kept_row rows region want)

-- ---- the same rows with the positions of their wants

abbrev numbered_one : ℕ → Option Slot → List Given → List Given
numbered_one i None more = more
numbered_one i (Some slot) more = given_to i slot ∷ more

abbrev numbered : ℕ → List (Option Slot) → List Given
numbered i [] = []
numbered i (own ∷ owns) = numbered_one i own (numbered (i + 1) owns)

abbrev slots : List Given → List Slot
slots given = map (λ g. g.slot) given

abbrev Within : ℕ → List Given → Type 0
Within count given = AllByRecursion (λ (g : Given). g.want < count) given

within_push : (count i : ℕ) (slot : Slot) (given : List Given) → i < count → Within count given → Within count (given ++ given_to i slot ∷ [])
within_push count i slot [] small within = (small, tt)
within_push count i slot (g ∷ given) small within = (within.0, within_push count i slot given small within.1)

clear_is : (walks : List (List ℕ)) (count i : ℕ) (given : List Given) (row : Slot) → AllAreTogether walks count → i < count → Within count given → is_clear walks given i row ≡ list_all (is_beside row) (slots given)
clear_is walks count i [] row together small within = refl
clear_is walks count i (g ∷ given) row together small within = rw (together i g.want small within.0, clear_is walks count i given row together small within.1) refl

given_accepted : (walks : List (List ℕ)) (count i : ℕ) (given more : List Given) (found : Option Slot) → AllAreTogether walks count → i < count → Within count given
    → shared.with_clear_row walks given i found ++ more ≡ given ++ numbered_one i (accepted (slots given) found) more
given_accepted walks count i given more None together small within = refl
given_accepted walks count i given more (Some row) together small within = elim (cases_Bool (list_all (is_beside row) (slots given))) [
  | inl clear ↦ rw (clear_is walks count i given row together small within, clear) (append_assoc given (given_to i row ∷ []) more)
  | inr meets ↦ rw (clear_is walks count i given row together small within, meets) refl
]

slots_accepted : (walks : List (List ℕ)) (count i : ℕ) (given : List Given) (found : Option Slot) → AllAreTogether walks count → i < count → Within count given → slots (shared.with_clear_row walks given i found) ≡ with_disjoint_row (slots given) found
slots_accepted walks count i given None together small within = refl
slots_accepted walks count i given (Some row) together small within = elim (cases_Bool (list_all (is_beside row) (slots given))) [
  | inl clear ↦ rw (clear_is walks count i given row together small within, clear) (map-append (λ (g : Given). g.slot) given (given_to i row ∷ []))
  | inr meets ↦ rw (clear_is walks count i given row together small within, meets) refl
]

within_accepted : (walks : List (List ℕ)) (count i : ℕ) (given : List Given) (found : Option Slot) → i < count → Within count given → Within count (shared.with_clear_row walks given i found)
within_accepted walks count i given None small within = within
within_accepted walks count i given (Some row) small within = elim (cases_Bool (is_clear walks given i row)) [
  | inl clear ↦ rw clear (within_push count i row given small within)
  | inr meets ↦ rw meets within
]

kept_after : (rows : List Slot) (walks : List (List ℕ)) (region : Range) (count : ℕ) (wants : List Want) (given : List Given) (i : ℕ) → AllAreTogether walks count → i + length wants ≡ count → Within count given
    → all_kept rows walks region given i wants ≡ given ++ numbered i (owns_after rows region (slots given) wants)
unfolding all_kept kept
kept_after rows walks region count [] given i together all within = sym (append-nil given)
kept_after rows walks region count (want ∷ wants) given i together all within =
    let found : Option Slot = kept_row rows region want in
    let next : List Given = shared.with_clear_row walks given i found in
    let small : i < count = omega arith in
    kept_after rows walks region count wants next (i + 1) together (omega arith) (within_accepted walks count i given found small within)
    ∙ (ap (λ (z : List Slot). next ++ numbered (i + 1) (owns_after rows region z wants)) (slots_accepted walks count i given found together small within)
    ∙ given_accepted walks count i given (numbered (i + 1) (owns_after rows region (with_disjoint_row (slots given) found) wants)) found together small within)

-- ---- the slots of positions to come

abbrev Ahead : List Given → ℕ → List (Option Slot) → Type 0
Ahead given i [] = ⊤
Ahead given i (own ∷ owns) = (slot_of given i ≡ own) × Ahead given (i + 1) owns

differ_eq : (i j : ℕ) → i < j → (i == j) ≡ false
differ_eq i j lt = elim (cases_Bool (i == j)) [ inl same ↦ absurd (let e : i ≡ j = eqb-true i j same in omega arith) | inr other ↦ other ]

differ_back : (i j : ℕ) → i < j → (j == i) ≡ false
differ_back i j lt = elim (cases_Bool (j == i)) [ inl same ↦ absurd (let e : j ≡ i = eqb-true j i same in omega arith) | inr other ↦ other ]

numbered_none : (i j : ℕ) (owns : List (Option Slot)) → i < j → slot_of (numbered j owns) i ≡ None
numbered_none i j [] lt = refl
numbered_none i j (None ∷ owns) lt = numbered_none i (j + 1) owns (omega arith)
numbered_none i j (Some slot ∷ owns) lt = rw (differ_back i j lt) (numbered_none i (j + 1) owns (omega arith))

ahead_past : (given : List Given) (i j : ℕ) (slot : Slot) (owns : List (Option Slot)) → i < j → Ahead given j owns → Ahead (given_to i slot ∷ given) j owns
ahead_past given i j slot [] lt ahead = tt
ahead_past given i j slot (own ∷ owns) lt ahead = (rw (differ_eq i j lt) ahead.0, ahead_past given i (j + 1) slot owns (omega arith) ahead.1)

numbered_ahead : (i : ℕ) (owns : List (Option Slot)) → Ahead (numbered i owns) i owns
numbered_ahead i [] = tt
numbered_ahead i (None ∷ owns) = (numbered_none i (i + 1) owns (omega arith), numbered_ahead (i + 1) owns)
numbered_ahead i (Some slot ∷ owns) = (rw (eq-eqb i i refl) refl, ahead_past (numbered (i + 1) owns) i (i + 1) slot owns (omega arith) (numbered_ahead (i + 1) owns))

numbered_within : (count i : ℕ) (owns : List (Option Slot)) → i + length owns ≡ count → Within count (numbered i owns)
numbered_within count i [] all = tt
numbered_within count i (None ∷ owns) all = numbered_within count (i + 1) owns (omega arith)
numbered_within count i (Some slot ∷ owns) all = (omega arith, numbered_within count (i + 1) owns (omega arith))

length_owns : (rows : List Slot) (region : Range) (before : List Slot) (wants : List Want) → length (owns_after rows region before wants) ≡ length wants
length_owns rows region before [] = refl
length_owns rows region before (want ∷ wants) = ap (λ (n : ℕ). suc n) (length_owns rows region (with_disjoint_row before (kept_row rows region want)) wants)

-- one slot more, at the end
slot_other : (given : List Given) (i j : ℕ) (slot : Slot) → (i == j) ≡ false → slot_of (given ++ given_to i slot ∷ []) j ≡ slot_of given j
slot_other [] i j slot other = rw other refl
slot_other (g ∷ given) i j slot other = elim (cases_Bool (g.want == j)) [
  | inl hit ↦ rw hit refl
  | inr miss ↦ rw miss (slot_other given i j slot other)
]

slot_own : (given : List Given) (i : ℕ) (slot : Slot) → slot_of given i ≡ None → slot_of (given ++ given_to i slot ∷ []) i ≡ Some slot
slot_own [] i slot none = rw (eq-eqb i i refl) refl
slot_own (g ∷ given) i slot none = elim (cases_Bool (g.want == i)) [
  | inl hit ↦ absurd (let some : Some g.slot ≡ None = rw hit at none in cc)
  | inr miss ↦ rw miss (slot_own given i slot (rw miss at none))
]

ahead_push : (given : List Given) (i j : ℕ) (slot : Slot) (owns : List (Option Slot)) → i < j → Ahead given j owns → Ahead (given ++ given_to i slot ∷ []) j owns
ahead_push given i j slot [] lt ahead = tt
ahead_push given i j slot (own ∷ owns) lt ahead = (slot_other given i j slot (differ_eq i j lt) ∙ ahead.0, ahead_push given i (j + 1) slot owns (omega arith) ahead.1)

slots_push : (given : List Given) (i a n : ℕ) (slot : Slot) → a + n ≡ i → filter_map (slot_of (given ++ given_to i slot ∷ [])) (range_with_len a n) ≡ filter_map (slot_of given) (range_with_len a n)
slots_push given i a zero slot all = refl
slots_push given i a (suc n) slot all = rw (slot_other given i a slot (differ_back a i (omega arith)), slots_push given i (a + 1) n slot (omega arith)) refl

-- ---- holes

abbrev left : Range → List Given → List Range
left region given = fold (λ holes g. without (slot_range g.slot) holes) (region_holes region) given

holes_together : (walks : List (List ℕ)) (count i : ℕ) (given : List Given) (holes : List Range) → AllAreTogether walks count → i < count → Within count given → fold (without_slot walks i) holes given ≡ fold (λ holes g. without (slot_range g.slot) holes) holes given
holes_together walks count i [] holes together small within = refl
holes_together walks count i (g ∷ given) holes together small within = rw (together i g.want small within.0) (holes_together walks count i given (without (slot_range g.slot) holes) together small within.1)

holes_are : (walks : List (List ℕ)) (region : Range) (count i : ℕ) (given : List Given) → AllAreTogether walks count → i < count → Within count given → holes_for walks region given i ≡ left region given
unfolding holes_for
holes_are walks region count i given together small within = holes_together walks count i given (region_holes region) together small within

holes_one : (found : Option Slot) (i : ℕ) (more : List Given) (holes : List Range) → fold (λ holes g. without (slot_range g.slot) holes) holes (numbered_one i found more) ≡ fold (λ holes g. without (slot_range g.slot) holes) (without_kept found holes) more
holes_one None i more holes = refl
holes_one (Some slot) i more holes = refl

holes_kept : (rows : List Slot) (region : Range) (wants : List Want) (owns : List (Option Slot)) (i : ℕ) (holes : List Range) → Keep rows region wants owns
    → fold (λ holes want. without_kept (kept_row rows region want) holes) holes wants ≡ fold (λ holes g. without (slot_range g.slot) holes) holes (numbered i owns)
holes_kept rows region [] [] i holes keep = refl
holes_kept rows region (want ∷ wants) (own ∷ owns) i holes keep =
    ap (λ (found : Option Slot). fold (λ holes want. without_kept (kept_row rows region want) holes) (without_kept found holes) wants) keep.0
    ∙ (holes_kept rows region wants owns (i + 1) (without_kept own holes) keep.1 ∙ sym (holes_one own i (numbered (i + 1) owns) holes))
holes_kept rows region [] (own ∷ owns) i holes keep = absurd keep
holes_kept rows region (want ∷ wants) [] i holes keep = absurd keep

-- ---- the others, in turn

has_some : (given : List Given) (i : ℕ) (slot : Slot) → slot_of given i ≡ Some slot → has_slot given i ≡ true
has_some given i slot is = of_found (find (λ (g : Given). g.want == i) given) refl is
  where
    of_found : (found : Option Given) → find (λ (g : Given). g.want == i) given ≡ found → option_map (λ (g : Given). g.slot) found ≡ Some slot → has_slot given i ≡ true
    of_found None e some = absurd cc
    of_found (Some g) e some = any_found (λ (g : Given). g.want == i) given g e

has_none : (given : List Given) (i : ℕ) → slot_of given i ≡ None → has_slot given i ≡ false
has_none given i is = of_found (find (λ (g : Given). g.want == i) given) refl is
  where
    of_found : (found : Option Given) → find (λ (g : Given). g.want == i) given ≡ found → option_map (λ (g : Given). g.slot) found ≡ None → has_slot given i ≡ false
    of_found None e none = any_missed (λ (g : Given). g.want == i) given e
    of_found (Some g) e none = absurd (let some : Some g.slot ≡ None = none in cc)

-- how far the plan has come
abbrev state : Range → List Given → ℕ → PartialPlan
state region given i = record { rows = slots_of given i; holes = left region given }

abbrev shared_from : List (List ℕ) → Range → ℕ → List Given → ℕ → List Want → Result (List Slot) PlanFault
shared_from walks region count given i wants = all_placed walks region given i wants >>= λ more. Ok (slots_of more count)

abbrev apart_from : List Slot → Range → PartialPlan → List Want → Result (List Slot) PlanFault
apart_from rows region planned wants = run (apart.next rows region) planned wants >>= λ planned. Ok planned.rows

state_some : (region : Range) (given : List Given) (i : ℕ) (slot : Slot) → slot_of given i ≡ Some slot → apart.with_row (state region given i) slot ≡ state region given (i + 1)
state_some region given i slot is =
    ap (λ (rows : List Slot). record { rows = rows; holes = left region given }) (sym (slots_more given i ∙ ap (λ (found : Option Slot). slots_of given i ++ cons_option found []) is))

state_push : (region : Range) (given : List Given) (i : ℕ) (slot : Slot) → slot_of given i ≡ None
    → ◌≡◌ {A = PartialPlan} (record { rows = slots_of given i ++ slot ∷ []; holes = without (slot_range slot) (left region given) }) (state region (given ++ given_to i slot ∷ []) (i + 1))
state_push region given i slot none =
    let rows : slots_of (given ++ given_to i slot ∷ []) (i + 1) ≡ slots_of given i ++ slot ∷ [] =
    slots_more (given ++ given_to i slot ∷ []) i
    ∙ (ap (λ (found : Option Slot). slots_of (given ++ given_to i slot ∷ []) i ++ cons_option found []) (slot_own given i slot none)
    ∙ ap (λ (z : List Slot). z ++ slot ∷ []) (slots_push given i 0 i slot (omega arith))) in
    let holes : left region (given ++ given_to i slot ∷ []) ≡ without (slot_range slot) (left region given) =
    fold-append (λ (holes : List Range) (g : Given). without (slot_range g.slot) holes) (region_holes region) given (given_to i slot ∷ []) in
    ap (λ (z : List Slot). record { rows = z; holes = without (slot_range slot) (left region given) }) (sym rows)
    ∙ ap (λ (z : List Range). record { rows = slots_of (given ++ given_to i slot ∷ []) (i + 1); holes = z }) (sym holes)

step_some : (rows : List Slot) (walks : List (List ℕ)) (region : Range) (count : ℕ) (want : Want) (wants : List Want) (given : List Given) (i : ℕ) (slot : Slot) → slot_of given i ≡ Some slot → kept_row rows region want ≡ Some slot
    → shared_from walks region count given (i + 1) wants ≡ apart_from rows region (state region given (i + 1)) wants
    → shared_from walks region count given i (want ∷ wants) ≡ apart_from rows region (state region given i) (want ∷ wants)
unfolding all_placed placed run apart.next
step_some rows walks region count want wants given i slot is keep rest =
    rw (has_some given i slot is, keep) (rest ∙ ap (λ (planned : PartialPlan). apart_from rows region planned wants) (sym (state_some region given i slot is)))

step_at : (rows : List Slot) (walks : List (List ℕ)) (region : Range) (count : ℕ) (want : Want) (wants : List Want) (given : List Given) (i : ℕ) (found : Option ℕ) → slot_of given i ≡ None
    → ((slot : Slot) → shared_from walks region count (given ++ given_to i slot ∷ []) (i + 1) wants ≡ apart_from rows region (state region (given ++ given_to i slot ∷ []) (i + 1)) wants)
    → (at_place given i want (left region given) found >>= λ more. shared_from walks region count more (i + 1) wants) ≡ (apart.at_place (state region given i) want found >>= λ planned. apart_from rows region planned wants)
step_at rows walks region count want wants given i None none rest = refl
step_at rows walks region count want wants given i (Some start) none rest =
    rest (slot_at want start) ∙ ap (λ (planned : PartialPlan). apart_from rows region planned wants) (sym (state_push region given i (slot_at want start) none))

bind_twice : {A B C E : Type 0} (r : Result A E) (f : A → Result B E) (g : B → Result C E) → ((r >>= f) >>= g) ≡ (r >>= λ x. f x >>= g)
bind_twice (Ok x) f g = refl
bind_twice (Err e) f g = refl

step_none : (rows : List Slot) (walks : List (List ℕ)) (region : Range) (count : ℕ) (want : Want) (wants : List Want) (given : List Given) (i : ℕ) → AllAreTogether walks count → i < count → Within count given → slot_of given i ≡ None → kept_row rows region want ≡ None
    → ((slot : Slot) → shared_from walks region count (given ++ given_to i slot ∷ []) (i + 1) wants ≡ apart_from rows region (state region (given ++ given_to i slot ∷ []) (i + 1)) wants)
    → shared_from walks region count given i (want ∷ wants) ≡ apart_from rows region (state region given i) (want ∷ wants)
unfolding all_placed placed run apart.next apart.placed
step_none rows walks region count want wants given i together small within none keep rest =
    rw (has_none given i none, keep, holes_are walks region count i given together small within)
    (bind_twice (at_place given i want (left region given) (lowest want.span want.align (left region given))) (λ more. all_placed walks region more (i + 1) wants) (λ more. Ok (slots_of more count))
    ∙ (step_at rows walks region count want wants given i (lowest want.span want.align (left region given)) none rest
    ∙ sym (bind_twice (apart.at_place (state region given i) want (lowest want.span want.align (left region given))) (λ planned. run (apart.next rows region) planned wants) (λ planned. Ok planned.rows))))

all_agree : (rows : List Slot) (walks : List (List ℕ)) (region : Range) (count : ℕ) (wants : List Want) (owns : List (Option Slot)) (given : List Given) (i : ℕ) → AllAreTogether walks count → i + length wants ≡ count → Within count given
    → Ahead given i owns → Keep rows region wants owns → shared_from walks region count given i wants ≡ apart_from rows region (state region given i) wants
unfolding all_placed run
all_agree rows walks region count [] [] given i together all within ahead keep = let e : count ≡ i = omega arith in ap (λ (n : ℕ). Ok (slots_of given n)) e
all_agree rows walks region count (want ∷ wants) (Some slot ∷ owns) given i together all within ahead keep =
    step_some rows walks region count want wants given i slot ahead.0 keep.0 (all_agree rows walks region count wants owns given (i + 1) together (omega arith) within ahead.1 keep.1)
all_agree rows walks region count (want ∷ wants) (None ∷ owns) given i together all within ahead keep =
    step_none rows walks region count want wants given i together (omega arith) within ahead.0 keep.0
    (λ slot. all_agree rows walks region count wants owns (given ++ given_to i slot ∷ []) (i + 1) together (omega arith) (within_push count i slot given (omega arith) within) (ahead_push given i (i + 1) slot owns (omega arith) ahead.1) keep.1)
all_agree rows walks region count [] (own ∷ owns) given i together all within ahead keep = absurd keep
all_agree rows walks region count (want ∷ wants) [] given i together all within ahead keep = absurd keep

pub plan_together : TogetherIsApart
unfolding plan_shared disjoint apart.plan apart.kept_holes
plan_together rows wants walks region together names =
    let owns : List (Option Slot) = owns_after rows region [] wants in
    let count : ℕ = length wants in
    let given : List Given = numbered 0 owns in
    let none : length wants ≡ 0 + length wants = omega arith in
    let own : AreOwn region wants owns = after_own rows region [] wants in
    let keep : Keep (rows_in owns) region wants owns = own_keep region wants owns own (differ wants names) in
    let first : all_kept rows walks region [] 0 wants ≡ given = kept_after rows walks region count wants [] 0 together (sym none) tt in
    let holes : fold (λ holes want. without_kept (kept_row (rows_in owns) region want) holes) (region_holes region) wants ≡ left region given = holes_kept (rows_in owns) region wants owns 0 (region_holes region) keep in
    ap (λ (g : List Given). shared_from walks region count g 0 wants) first
    ∙ (all_agree (rows_in owns) walks region count wants owns given 0 together (sym none) (numbered_within count 0 owns (omega (arith, length_owns rows region [] wants))) (numbered_ahead 0 owns) keep
    ∙ (ap (λ (h : List Range). apart_from (rows_in owns) region (record { rows = []; holes = h }) wants) (sym holes)
    ∙ ap (λ (kept : List Slot). apart.plan kept wants region) (sym (disjoint_after rows region wants []))))
