-- The rows of a plan share no address.
use Rattle.std.proofs.Common.{◌≡◌, ◌≢◌, ℕ, suc, ◌+◌, ◌<◌, Bool, true, false, List, [], ◌∷◌, ◌++◌, Option, Some, None, Ok, refl, sym, ap, ◌∙◌, subst, inl, inr, arith, append_assoc}
use Rattle.std.specs.Prelude.{nat_le, fold, max, All, AllPairs}
use Rattle.std.specs.List.{find, list_all, AllByRecursion}
use Rattle.std.proofs.lemmas.Bool.{cases_Bool, true≢false, and_parts, and_from, or_parts, or_left, or_right, le-leb, lt-ltb, leb-false}
use Rattle.std.proofs.Math.Bool.{and-false}
use Rattle.std.proofs.lemmas.Option.{same_Some}
use Rattle.std.proofs.lemmas.List.{append-nil}
use Rattle.pl_base.specs.Each.{run}
use Rattle.pl_base.proofs.AnswerLaws.{bind_ok, ok_same}
use Rattle.pl_elf.specs.declared.range.Range.{Range}
use Rattle.pl_slots.specs.declared.slot.Want.{Want}
use Rattle.pl_slots.specs.declared.slot.Slot.{Slot}
use Rattle.pl_slots.specs.declared.partial_plan.PartialPlan.{PartialPlan}
use Rattle.pl_slots.specs.Apart.{is_beside, are_apart}
use Rattle.pl_slots.specs.Holes.{without, lowest, is_free, fits_at}
use Rattle.pl_elf.specs.Ranges.{has}
use Rattle.pl_slots.specs.Plan.{next, placed, slot_at, at_place, with_row, kept_or_placed, kept_row, keeps, slot_range, without_kept}
use Rattle.pl_slots.proofs.HoleLaws.{free_without}
use Rattle.pl_slots.proofs.ServeLaws.{AreSome, is_kept, lowest_fits, fits_free, still_free, free_before}

-- ---- pairs of slots

pub beside_back : (a b : Slot) → is_beside a b ≡ true → is_beside b a ≡ true
beside_back a b h = elim (cases_Bool (nat_le (a.start + a.span) b.start)) [
  | inl low ↦ or_right (nat_le (b.start + b.span) a.start) (nat_le (a.start + a.span) b.start) low
  | inr miss ↦ or_left (nat_le (b.start + b.span) a.start) (nat_le (a.start + a.span) b.start) (rw miss at h)
]

-- one slot more among slots that are apart
all_with : (p : Slot → Bool) (xs ys : List Slot) (slot : Slot) → list_all p (xs ++ ys) ≡ true → p slot ≡ true → list_all p (xs ++ slot ∷ ys) ≡ true
all_with p [] ys slot all passes = and_from (p slot) (list_all p ys) passes all
all_with p (x ∷ xs) ys slot all passes =
    let parts = and_parts (p x) (list_all p (xs ++ ys)) all in
    and_from (p x) (list_all p (xs ++ slot ∷ ys)) parts.0 (all_with p xs ys slot parts.1 passes)

pub apart_with : (xs ys : List Slot) (slot : Slot) → are_apart (xs ++ ys) ≡ true → list_all (is_beside slot) (xs ++ ys) ≡ true → are_apart (xs ++ slot ∷ ys) ≡ true
apart_with [] ys slot apart besides = and_from (list_all (is_beside slot) ys) (are_apart ys) besides apart
apart_with (x ∷ xs) ys slot apart besides =
    let ps = and_parts (list_all (is_beside x) (xs ++ ys)) (are_apart (xs ++ ys)) apart in
    let qs = and_parts (is_beside slot x) (list_all (is_beside slot) (xs ++ ys)) besides in
    and_from (list_all (is_beside x) (xs ++ slot ∷ ys)) (are_apart (xs ++ slot ∷ ys)) (all_with (is_beside x) xs ys slot ps.0 (beside_back slot x qs.0)) (apart_with xs ys slot ps.1 qs.1)

-- ---- slots outside of holes

-- each slot has some addresses, and none of them is free
abbrev pub Outside : List Range → List Slot → Type 0
Outside holes [] = Unit {0}
Outside holes (slot ∷ slots) = (0 < slot.span) × ((address : ℕ) → has address (slot_range slot) ≡ true → is_free address holes ≡ false) × Outside holes slots

not_free : (address : ℕ) (more fewer : List Range) → (is_free address fewer ≡ true → is_free address more ≡ true) → is_free address more ≡ false → is_free address fewer ≡ false
not_free address more fewer was taken = elim (cases_Bool (is_free address fewer)) [
  | inl free ↦ absurd (true≢false (sym (was free) ∙ taken))
  | inr none ↦ none
]

outside_fewer : (more fewer : List Range) (slots : List Slot) → ((address : ℕ) → is_free address fewer ≡ true → is_free address more ≡ true) → Outside more slots → Outside fewer slots
outside_fewer more fewer [] was out = tt
outside_fewer more fewer (slot ∷ slots) was out =
    (out.0, λ address within. not_free address more fewer (was address) (out.1 address within), outside_fewer more fewer slots was out.2)

outside_with : (holes : List Range) (xs ys : List Slot) (slot : Slot) → Outside holes (xs ++ ys) → 0 < slot.span → ((address : ℕ) → has address (slot_range slot) ≡ true → is_free address holes ≡ false) → Outside holes (xs ++ slot ∷ ys)
outside_with holes [] ys slot out some taken = (some, taken, out)
outside_with holes (x ∷ xs) ys slot out some taken = (out.0, out.1, outside_with holes xs ys slot out.2 some taken)

-- a range that was taken is not free
pub taken_not_free : (taken : Range) (holes : List Range) (address : ℕ) → has address taken ≡ true → is_free address (without taken holes) ≡ false
taken_not_free taken holes address within = free_without address taken holes ∙ (rw within (and-false (is_free address holes)))

-- a slot that fits in holes is beside each slot outside of them
pub fits_beside : (holes : List Range) (slot other : Slot) → 0 < slot.span → fits_at holes slot.span slot.start ≡ true → 0 < other.span
    → ((address : ℕ) → has address (slot_range other) ≡ true → is_free address holes ≡ false) → is_beside slot other ≡ true
fits_beside holes slot other some fits more taken = elim (cases_Bool (is_beside slot other)) [
  | inl besides ↦ besides
  | inr none ↦
      let first : ℕ = max slot.start other.start in
      let outside = or_parts (nat_le (slot.start + slot.span) other.start) (nat_le (other.start + other.span) slot.start) none in
      let low : other.start < slot.start + slot.span = leb-false (slot.start + slot.span) other.start outside.0 in
      let high : slot.start < other.start + other.span = leb-false (other.start + other.span) slot.start outside.1 in
      let within : has first (slot_range other) ≡ true = and_from _ _ (le-leb other.start first (omega arith)) (lt-ltb first (other.start + other.span) (omega (arith, high, more))) in
      absurd (true≢false (sym (fits_free holes slot.span slot.start first fits (omega arith) (omega (arith, low, some))) ∙ taken first within))
]

all_beside : (holes : List Range) (slot : Slot) (slots : List Slot) → 0 < slot.span → fits_at holes slot.span slot.start ≡ true → Outside holes slots → list_all (is_beside slot) slots ≡ true
all_beside holes slot [] some fits out = refl
all_beside holes slot (other ∷ slots) some fits out =
    and_from (is_beside slot other) (list_all (is_beside slot) slots) (fits_beside holes slot other some fits out.0 out.1) (all_beside holes slot slots some fits out.2)

-- ---- the rows that wants keep

abbrev pub with_kept : Option Slot → List Slot → List Slot
with_kept (Some row) rows = row ∷ rows
with_kept None rows = rows

abbrev pub kept_rows : List Slot → Range → List Want → List Slot
kept_rows kept region [] = []
kept_rows kept region (want ∷ wants) = with_kept (kept_row kept region want) (kept_rows kept region wants)

-- names that differ
abbrev pub Differ : List Want → Type 0
Differ [] = Unit {0}
Differ (want ∷ wants) = AllByRecursion (λ (other : Want). want.name ≢ other.name) wants × Differ wants

pub differ_first : (want : Want) (wants : List Want) → All (λ other. want.name ≢ other.name) wants → AllByRecursion (λ (other : Want). want.name ≢ other.name) wants
differ_first want [] all = tt
differ_first want (other ∷ wants) all = (all 0 other (omega arith), differ_first want wants (λ k d lt. all (suc k) d (omega arith)))

pub differ : (wants : List Want) → AllPairs (λ a b. a.name ≢ b.name) wants → Differ wants
differ [] pairs = tt
differ (want ∷ wants) pairs =
    (differ_first want wants (λ k d lt. pairs 0 (suc k) d (omega arith) (omega arith)), differ wants (λ i j d lt last. pairs (suc i) (suc j) d (omega arith) (omega arith)))

-- what is found among slots that all pass another test passes it
found_passes : (p q : Slot → Bool) (rows : List Slot) (row : Slot) → list_all p rows ≡ true → Some row ≡ find q rows → p row ≡ true
found_passes p q [] row all is = absurd cc
found_passes p q (r ∷ rows) row all is =
    let parts = and_parts (p r) (list_all p rows) all in
    elim (cases_Bool (q r)) [
      | inl hit ↦ ap p (same_Some row r (is ∙ (rw hit refl))) ∙ parts.0
      | inr miss ↦ found_passes p q rows row parts.1 (is ∙ (rw miss refl))
    ]

-- two rows of other names, found among slots that are apart
two_beside : (p q : Slot → Bool) (rows : List Slot) (a b : Slot) → are_apart rows ≡ true → a.name ≢ b.name → Some a ≡ find p rows → Some b ≡ find q rows → is_beside a b ≡ true
two_beside p q [] a b apart other first second = absurd cc
two_beside p q (r ∷ rows) a b apart other first second =
    let parts = and_parts (list_all (is_beside r) rows) (are_apart rows) apart in
    elim (cases_Bool (p r)) [
      | inl hit ↦
          let a_is : a ≡ r = same_Some a r (first ∙ (rw hit refl)) in
          elim (cases_Bool (q r)) [
            | inl both ↦ absurd (other (ap (λ (s : Slot). s.name) (a_is ∙ sym (same_Some b r (second ∙ (rw both refl))))))
            | inr miss ↦ subst (λ (s : Slot). is_beside s b ≡ true) (sym a_is) (found_passes (is_beside r) q rows b parts.0 (second ∙ (rw miss refl)))
          ]
      | inr none ↦ elim (cases_Bool (q r)) [
        | inl hit ↦
            let b_is : b ≡ r = same_Some b r (second ∙ (rw hit refl)) in
            beside_back b a (subst (λ (s : Slot). is_beside s a ≡ true) (sym b_is) (found_passes (is_beside r) p rows a parts.0 (first ∙ (rw none refl))))
        | inr miss ↦ two_beside p q rows a b parts.1 other (first ∙ (rw none refl)) (second ∙ (rw miss refl))
      ]
    ]

beside_with : (kept : List Slot) (region : Range) (want other : Want) (row : Slot) (rows : List Slot) (found : Option Slot) → found ≡ kept_row kept region other → are_apart kept ≡ true
    → Some row ≡ kept_row kept region want → want.name ≢ other.name → list_all (is_beside row) rows ≡ true → list_all (is_beside row) (with_kept found rows) ≡ true
unfolding kept_row
beside_with kept region want other row rows None none apart is names besides = besides
beside_with kept region want other row rows (Some next) found apart is names besides =
    let other_name : row.name ≢ next.name = λ same. names (sym (is_kept kept region want row is).name ∙ same ∙ (is_kept kept region other next found).name) in
    and_from (is_beside row next) (list_all (is_beside row) rows) (two_beside (keeps region want) (keeps region other) kept row next apart other_name is found) besides

kept_beside : (kept : List Slot) (region : Range) (want : Want) (wants : List Want) (row : Slot) → are_apart kept ≡ true → Some row ≡ kept_row kept region want
    → AllByRecursion (λ (other : Want). want.name ≢ other.name) wants → list_all (is_beside row) (kept_rows kept region wants) ≡ true
kept_beside kept region want [] row apart is names = refl
kept_beside kept region want (other ∷ wants) row apart is names =
    beside_with kept region want other row (kept_rows kept region wants) (kept_row kept region other) refl apart is names.0 (kept_beside kept region want wants row apart is names.1)

apart_with_kept : (kept : List Slot) (region : Range) (want : Want) (wants : List Want) (found : Option Slot) → found ≡ kept_row kept region want → are_apart kept ≡ true
    → AllByRecursion (λ (other : Want). want.name ≢ other.name) wants → are_apart (kept_rows kept region wants) ≡ true → are_apart (with_kept found (kept_rows kept region wants)) ≡ true
apart_with_kept kept region want wants None none apart names rest = rest
apart_with_kept kept region want wants (Some row) is apart names rest =
    and_from (list_all (is_beside row) (kept_rows kept region wants)) (are_apart (kept_rows kept region wants)) (kept_beside kept region want wants row apart is names) rest

pub kept_apart : (kept : List Slot) (region : Range) (wants : List Want) → are_apart kept ≡ true → Differ wants → are_apart (kept_rows kept region wants) ≡ true
kept_apart kept region [] apart names = refl
kept_apart kept region (want ∷ wants) apart names = apart_with_kept kept region want wants (kept_row kept region want) refl apart names.0 (kept_apart kept region wants apart names.1)

-- what is left of holes beside the rows that wants keep
abbrev left_of : List Slot → Range → List Want → List Range → List Range
left_of kept region wants holes = fold (λ holes want. without_kept (kept_row kept region want) holes) holes wants

outside_with_kept : (kept : List Slot) (region : Range) (want : Want) (wants : List Want) (holes : List Range) (found : Option Slot) → found ≡ kept_row kept region want → 0 < want.span
    → ((holes : List Range) → Outside (left_of kept region wants holes) (kept_rows kept region wants)) → Outside (left_of kept region wants (without_kept found holes)) (with_kept found (kept_rows kept region wants))
outside_with_kept kept region want wants holes None none some rest = rest holes
outside_with_kept kept region want wants holes (Some row) is some rest =
    let less : List Range = without (slot_range row) holes in (
      omega (arith, some, (is_kept kept region want row is).large),
      λ address within. not_free address less (left_of kept region wants less) (free_before kept region wants less address) (taken_not_free (slot_range row) holes address within),
      rest less,
    )

-- they are outside of the holes beside them
pub kept_outside : (kept : List Slot) (region : Range) (wants : List Want) (holes : List Range) → AreSome wants → Outside (left_of kept region wants holes) (kept_rows kept region wants)
kept_outside kept region [] holes some = tt
kept_outside kept region (want ∷ wants) holes some =
    outside_with_kept kept region want wants holes (kept_row kept region want) refl some.1 (λ holes. kept_outside kept region wants holes some.2)

-- ---- all steps

-- the rows so far, and those that wants to come keep, are apart and outside of the holes
pub record AreWell (kept : List Slot) (region : Range) (planned : PartialPlan) (wants : List Want) : Type 0 where
  pub apart : are_apart (planned.rows ++ kept_rows kept region wants) ≡ true
  pub outside : Outside planned.holes (planned.rows ++ kept_rows kept region wants)

kept_well : (kept : List Slot) (region : Range) (before : PartialPlan) (want : Want) (wants : List Want) (row : Slot) → Some row ≡ kept_row kept region want
    → AreWell kept region before (want ∷ wants) → AreWell kept region (with_row before row) wants
kept_well kept region before want wants row is well =
    let same : before.rows ++ with_kept (kept_row kept region want) (kept_rows kept region wants) ≡ (before.rows ++ row ∷ []) ++ kept_rows kept region wants =
    ap (λ (found : Option Slot). before.rows ++ with_kept found (kept_rows kept region wants)) (sym is) ∙ sym (append_assoc before.rows (row ∷ []) (kept_rows kept region wants)) in
    record { apart = subst (λ (rows : List Slot). are_apart rows ≡ true) same well.apart; outside = subst (Outside before.holes) same well.outside }

placed_well : (kept : List Slot) (region : Range) (before after : PartialPlan) (want : Want) (wants : List Want) (found : Option ℕ) → None ≡ kept_row kept region want → 0 < want.align → 0 < want.span
    → found ≡ lowest want.span want.align before.holes → at_place before want found ≡ Ok after → AreWell kept region before (want ∷ wants) → AreWell kept region after wants
placed_well kept region before after want wants None none aligns some is ok well = absurd cc
placed_well kept region before after want wants (Some start) none aligns some is ok well =
    let slot : Slot = slot_at want start in
    let taken : Range = slot_range slot in
    let place = lowest_fits want.span want.align start before.holes aligns is in
    let later : List Slot = kept_rows kept region wants in
    let apart : are_apart (before.rows ++ later) ≡ true = subst (λ (found : Option Slot). are_apart (before.rows ++ with_kept found later) ≡ true) (sym none) well.apart in
    let outside : Outside before.holes (before.rows ++ later) = subst (λ (found : Option Slot). Outside before.holes (before.rows ++ with_kept found later)) (sym none) well.outside in
    let same : before.rows ++ slot ∷ later ≡ (before.rows ++ slot ∷ []) ++ later = sym (append_assoc before.rows (slot ∷ []) later) in
    let fewer : Outside (without taken before.holes) (before.rows ++ later) = outside_fewer before.holes (without taken before.holes) (before.rows ++ later) (still_free taken before.holes) outside in
    let whole : record { rows = before.rows ++ slot ∷ []; holes = without taken before.holes } ≡ after = ok_same _ after ok in
    subst (λ (planned : PartialPlan). AreWell kept region planned wants) whole
    (record {
      apart = subst (λ (rows : List Slot). are_apart rows ≡ true) same (apart_with before.rows later slot apart (all_beside before.holes slot (before.rows ++ later) some place.1 outside));
      outside = subst (Outside (without taken before.holes)) same (outside_with (without taken before.holes) before.rows later slot fewer some (taken_not_free taken before.holes));
    })

step_well_by : (kept : List Slot) (region : Range) (before after : PartialPlan) (want : Want) (wants : List Want) (row : Option Slot) → row ≡ kept_row kept region want → 0 < want.align → 0 < want.span
    → kept_or_placed before want row ≡ Ok after → AreWell kept region before (want ∷ wants) → AreWell kept region after wants
unfolding placed
step_well_by kept region before after want wants (Some row) is aligns some ok well =
    subst (λ (planned : PartialPlan). AreWell kept region planned wants) (ok_same (with_row before row) after ok) (kept_well kept region before want wants row is well)
step_well_by kept region before after want wants None is aligns some ok well = placed_well kept region before after want wants (lowest want.span want.align before.holes) is aligns some refl ok well

step_well : (kept : List Slot) (region : Range) (before after : PartialPlan) (want : Want) (wants : List Want) → 0 < want.align → 0 < want.span → next kept region before want ≡ Ok after
    → AreWell kept region before (want ∷ wants) → AreWell kept region after wants
unfolding next
step_well kept region before after want wants aligns some ok well = step_well_by kept region before after want wants (kept_row kept region want) refl aligns some ok well

pub all_apart : (kept : List Slot) (region : Range) (wants : List Want) (before after : PartialPlan) → AreSome wants → run (next kept region) before wants ≡ Ok after → AreWell kept region before wants → are_apart after.rows ≡ true
unfolding run
all_apart kept region [] before after some ok well =
    subst (λ (rows : List Slot). are_apart rows ≡ true) (append-nil before.rows ∙ ap (λ (p : PartialPlan). p.rows) (ok_same before after ok)) well.apart
all_apart kept region (want ∷ wants) before after some ok well =
    let split = bind_ok (next kept region before want) (λ t. run (next kept region) t wants) after ok in
    all_apart kept region wants split.0 after some.2 split.2 (step_well kept region before split.0 want wants some.0 some.1 split.1 well)
