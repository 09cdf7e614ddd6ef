-- The rows that wants keep, one by one, and the plan with these rows alone.
use Rattle.std.proofs.Common.{◌≡◌, ◌≢◌, Bool, true, false, List, [], ◌∷◌, ◌++◌, Option, Some, None, Result, Ok, Err, refl, sym, ap, ◌∙◌, subst, inl, inr, append_assoc}
use Rattle.std.specs.Prelude.{fold, MatchOption, ⊤}
use Rattle.std.specs.Cmp.Lexicographic.{same_text}
use Rattle.std.specs.List.{list_all, AllByRecursion}
use Rattle.std.proofs.lemmas.Bool.{cases_Bool, and_parts, and_from}
use Rattle.std.proofs.lemmas.List.{append-nil}
use Rattle.pl_base.specs.Answers.{◌>>=◌}
use Rattle.pl_base.specs.Each.{run}
use Rattle.pl_base.proofs.FindLaws.{find_passes}
use Rattle.pl_elf.specs.declared.range.Range.{Range}
use Rattle.pl_slots.specs.declared.slot.Want.{Want}
use Rattle.pl_slots.specs.declared.slot.Slot.{Slot}
use Rattle.pl_slots.specs.declared.partial_plan.PartialPlan.{PartialPlan}
use Rattle.pl_slots.specs.declared.fault.PlanFault.{PlanFault}
use Rattle.pl_slots.specs.Apart.{is_beside, are_apart}
use Rattle.pl_slots.specs.Holes.{region_holes}
use Rattle.pl_slots.specs.Plan.{plan, next, kept_or_placed, kept_row, kept_holes, keeps, without_kept}
use Rattle.pl_slots.proofs.ApartLaws.{kept_rows, with_kept, kept_apart, beside_back, Differ, differ}
use Rattle.pl_share.specs.Disjoint.{with_disjoint_row, disjoint}
use Rattle.pl_share.specs.Laws.{ApartRowsGiveThePlan}

-- ---- a row for each want, or none

-- the rows that there are
abbrev pub rows_in : List (Option Slot) → List Slot
rows_in [] = []
rows_in (own ∷ owns) = with_kept own (rows_in owns)

-- each row is one that its want keeps
abbrev pub AreOwn : Range → List Want → List (Option Slot) → Type 0
AreOwn region [] [] = ⊤
AreOwn region (want ∷ wants) (own ∷ owns) = MatchOption own ⊤ (λ row. keeps region want row ≡ true) × AreOwn region wants owns
AreOwn region [] (own ∷ owns) = ⊥
AreOwn region (want ∷ wants) [] = ⊥

-- each want keeps this row of a cache
abbrev pub Keep : List Slot → Range → List Want → List (Option Slot) → Type 0
Keep rows region [] [] = ⊤
Keep rows region (want ∷ wants) (own ∷ owns) = (kept_row rows region want ≡ own) × Keep rows region wants owns
Keep rows region [] (own ∷ owns) = ⊥
Keep rows region (want ∷ wants) [] = ⊥

keeps_name : (region : Range) (want : Want) (row : Slot) → keeps region want row ≡ true → row.name ≡ want.name
unfolding keeps
keeps_name region want row is =
    let p1 = and_parts _ _ is in
    let p2 = and_parts _ _ p1.0 in
    let p3 = and_parts _ _ p2.0 in
    same_text row.name want.name (sym p3.0)

not_kept : (region : Range) (want : Want) (row : Slot) → row.name ≢ want.name → keeps region want row ≡ false
not_kept region want row other = elim (cases_Bool (keeps region want row)) [
  | inl is ↦ absurd (other (keeps_name region want row is))
  | inr none ↦ none
]

-- a want of another name looks past a row
past : (region : Range) (want other : Want) (own : Option Slot) (rows : List Slot) → MatchOption own ⊤ (λ row. keeps region other row ≡ true) → want.name ≢ other.name → kept_row (with_kept own rows) region want ≡ kept_row rows region want
unfolding kept_row
past region want other None rows is names = refl
past region want other (Some row) rows is names = rw (not_kept region want row (λ same. names (sym same ∙ keeps_name region other row is))) refl

none_past : (region : Range) (want : Want) (wants : List Want) (owns : List (Option Slot)) → AreOwn region wants owns → AllByRecursion (λ (other : Want). want.name ≢ other.name) wants → kept_row (rows_in owns) region want ≡ None
unfolding kept_row
none_past region want [] [] are names = refl
none_past region want (other ∷ wants) (own ∷ owns) are names = past region want other own (rows_in owns) are.0 names.0 ∙ none_past region want wants owns are.1 names.1
none_past region want [] (own ∷ owns) are names = absurd are
none_past region want (other ∷ wants) [] are names = absurd are

first_own : (region : Range) (want : Want) (own : Option Slot) (rows : List Slot) → MatchOption own ⊤ (λ row. keeps region want row ≡ true) → kept_row rows region want ≡ None → kept_row (with_kept own rows) region want ≡ own
unfolding kept_row
first_own region want None rows is none = none
first_own region want (Some row) rows is none = rw is refl

keep_past : (region : Range) (want : Want) (own : Option Slot) (rows : List Slot) (wants : List Want) (owns : List (Option Slot)) → MatchOption own ⊤ (λ row. keeps region want row ≡ true) → AllByRecursion (λ (other : Want). want.name ≢ other.name) wants
    → Keep rows region wants owns → Keep (with_kept own rows) region wants owns
keep_past region want own rows [] [] is names keep = tt
keep_past region want own rows (other ∷ wants) (o ∷ owns) is names keep = (past region other want own rows is (λ same. names.0 (sym same)) ∙ keep.0, keep_past region want own rows wants owns is names.1 keep.1)
keep_past region want own rows [] (o ∷ owns) is names keep = absurd keep
keep_past region want own rows (other ∷ wants) [] is names keep = absurd keep

-- of these rows alone each want keeps its own
pub own_keep : (region : Range) (wants : List Want) (owns : List (Option Slot)) → AreOwn region wants owns → Differ wants → Keep (rows_in owns) region wants owns
own_keep region [] [] are names = tt
own_keep region (want ∷ wants) (own ∷ owns) are names =
    (first_own region want own (rows_in owns) are.0 (none_past region want wants owns are.1 names.0), keep_past region want own (rows_in owns) wants owns are.0 names.0 (own_keep region wants owns are.1 names.1))
own_keep region [] (own ∷ owns) are names = absurd are
own_keep region (want ∷ wants) [] are names = absurd are

-- ---- what a cache has for each want

abbrev pub kept_each : List Slot → Range → List Want → List (Option Slot)
kept_each rows region [] = []
kept_each rows region (want ∷ wants) = kept_row rows region want ∷ kept_each rows region wants

pub found_own : (rows : List Slot) (region : Range) (want : Want) (found : Option Slot) → found ≡ kept_row rows region want → MatchOption found ⊤ (λ row. keeps region want row ≡ true)
unfolding kept_row
found_own rows region want None is = tt
found_own rows region want (Some row) is = find_passes (keeps region want) rows row (sym is)

each_own : (rows : List Slot) (region : Range) (wants : List Want) → AreOwn region wants (kept_each rows region wants)
each_own rows region [] = tt
each_own rows region (want ∷ wants) = (found_own rows region want (kept_row rows region want) refl, each_own rows region wants)

each_keep : (rows : List Slot) (region : Range) (wants : List Want) → Keep rows region wants (kept_each rows region wants)
each_keep rows region [] = tt
each_keep rows region (want ∷ wants) = (refl, each_keep rows region wants)

rows_each : (rows : List Slot) (region : Range) (wants : List Want) → rows_in (kept_each rows region wants) ≡ kept_rows rows region wants
rows_each rows region [] = refl
rows_each rows region (want ∷ wants) = ap (λ (more : List Slot). with_kept (kept_row rows region want) more) (rows_each rows region wants)

-- ---- two caches of which wants keep the same

holes_same : (one two : List Slot) (region : Range) (wants : List Want) (owns : List (Option Slot)) (holes : List Range) → Keep one region wants owns → Keep two region wants owns
    → fold (λ holes want. without_kept (kept_row one region want) holes) holes wants ≡ fold (λ holes want. without_kept (kept_row two region want) holes) holes wants
holes_same one two region [] [] holes k l = refl
holes_same one two region (want ∷ wants) (own ∷ owns) holes k l =
    ap (λ (found : Option Slot). fold (λ holes want. without_kept (kept_row one region want) holes) (without_kept found holes) wants) (k.0 ∙ sym l.0)
    ∙ holes_same one two region wants owns (without_kept (kept_row two region want) holes) k.1 l.1
holes_same one two region [] (own ∷ owns) holes k l = absurd k
holes_same one two region (want ∷ wants) [] holes k l = absurd k

pub bind_same : {A B E : Type 0} (r : Result A E) (f g : A → Result B E) → ((x : A) → f x ≡ g x) → (r >>= f) ≡ (r >>= g)
bind_same (Ok x) f g same = same x
bind_same (Err e) f g same = refl

run_same : (one two : List Slot) (region : Range) (wants : List Want) (owns : List (Option Slot)) (planned : PartialPlan) → Keep one region wants owns → Keep two region wants owns → run (next one region) planned wants ≡ run (next two region) planned wants
unfolding run next
run_same one two region [] [] planned k l = refl
run_same one two region (want ∷ wants) (own ∷ owns) planned k l =
    ap (λ (found : Option Slot). kept_or_placed planned want found >>= λ t. run (next one region) t wants) (k.0 ∙ sym l.0)
    ∙ bind_same (kept_or_placed planned want (kept_row two region want)) (λ t. run (next one region) t wants) (λ t. run (next two region) t wants) (λ t. run_same one two region wants owns t k.1 l.1)
run_same one two region [] (own ∷ owns) planned k l = absurd k
run_same one two region (want ∷ wants) [] planned k l = absurd k

plan_same : (one two : List Slot) (region : Range) (wants : List Want) (owns : List (Option Slot)) → Keep one region wants owns → Keep two region wants owns → plan one wants region ≡ plan two wants region
unfolding plan kept_holes
plan_same one two region wants owns k l =
    ap (λ (holes : List Range). run (next one region) (record { rows = []; holes = holes }) wants >>= λ planned. Ok planned.rows) (holes_same one two region wants owns (region_holes region) k l)
    ∙ ap (λ (r : Result PartialPlan PlanFault). r >>= λ planned. Ok planned.rows) (run_same one two region wants owns (record { rows = []; holes = kept_holes two region wants }) k l)

-- ---- the rows that are kept apart

all_at : (p : Slot → Bool) (xs ys : List Slot) (slot : Slot) → list_all p (xs ++ slot ∷ ys) ≡ true → p slot ≡ true
all_at p [] ys slot all = (and_parts (p slot) (list_all p ys) all).0
all_at p (x ∷ xs) ys slot all = all_at p xs ys slot (and_parts (p x) (list_all p (xs ++ slot ∷ ys)) all).1

-- one of slots that are apart is beside those before it
beside_front : (xs ys : List Slot) (slot : Slot) → are_apart (xs ++ slot ∷ ys) ≡ true → list_all (is_beside slot) xs ≡ true
beside_front [] ys slot apart = refl
beside_front (x ∷ xs) ys slot apart =
    let parts = and_parts (list_all (is_beside x) (xs ++ slot ∷ ys)) (are_apart (xs ++ slot ∷ ys)) apart in
    and_from (is_beside slot x) (list_all (is_beside slot) xs) (beside_back x slot (all_at (is_beside x) xs ys slot parts.0)) (beside_front xs ys slot parts.1)

abbrev all_with : List Slot → Range → List Slot → List Want → List Slot
all_with rows region kept wants = fold (λ kept want. with_disjoint_row kept (kept_row rows region want)) kept wants

one_apart : (rows : List Slot) (region : Range) (kept more : List Slot) (wants : List Want) (found : Option Slot) → are_apart (kept ++ with_kept found more) ≡ true
    → ((kept : List Slot) → are_apart (kept ++ more) ≡ true → all_with rows region kept wants ≡ kept ++ more) → all_with rows region (with_disjoint_row kept found) wants ≡ kept ++ with_kept found more
one_apart rows region kept more wants None apart rest = rest kept apart
one_apart rows region kept more wants (Some row) apart rest =
    rw (beside_front kept more row apart) (rest (kept ++ row ∷ []) (subst (λ (z : List Slot). are_apart z ≡ true) (sym (append_assoc kept (row ∷ []) more)) apart) ∙ append_assoc kept (row ∷ []) more)

all_apart : (rows : List Slot) (region : Range) (wants : List Want) (kept : List Slot) → are_apart (kept ++ kept_rows rows region wants) ≡ true → all_with rows region kept wants ≡ kept ++ kept_rows rows region wants
all_apart rows region [] kept apart = sym (append-nil kept)
all_apart rows region (want ∷ wants) kept apart = one_apart rows region kept (kept_rows rows region wants) wants (kept_row rows region want) apart (all_apart rows region wants)

pub plan_apart : ApartRowsGiveThePlan
unfolding disjoint
plan_apart rows wants region apart names =
    let differ' : Differ wants = differ wants names in
    let all : disjoint rows wants region ≡ kept_rows rows region wants = all_apart rows region wants [] (kept_apart rows region wants apart differ') in
    let keep : Keep (kept_rows rows region wants) region wants (kept_each rows region wants) =
    subst (λ (z : List Slot). Keep z region wants (kept_each rows region wants)) (rows_each rows region wants) (own_keep region wants (kept_each rows region wants) (each_own rows region wants) differ') in
    ap (λ (kept : List Slot). plan kept wants region) all ∙ plan_same (kept_rows rows region wants) rows region wants (kept_each rows region wants) keep (each_keep rows region wants)
