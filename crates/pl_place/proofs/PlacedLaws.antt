-- Places in turn: one want more, and what all places are.
use Rattle.std.proofs.Common.{◌≡◌, ℕ, ◌+◌, ◌≤◌, ◌<◌, true, false, ◌&&◌, List, [], ◌∷◌, ◌++◌, Option, Some, None, Result, Ok, Err, refl, sym, ◌∙◌, ap, subst, arith, length, drop, get_or, cond, append_assoc, append-nil, inl, inr}
use Rattle.std.specs.Prelude.{nat_le, nat_lt, min, max, IfOk, IfErr}
use Rattle.std.proofs.lemmas.Bool.{cases_Bool, leb-true, le-leb, ltb-true, and_parts, and_from, or_cases, or_left, or_right, false_from_ne_true, false≢true}
use Rattle.std.proofs.lemmas.List.{at_drop_more, at_drop_all}
use Rattle.std.proofs.lemmas.List.Folds.{list_any-append}
use Rattle.pl_base.proofs.TestLaws.{no_both}
use Rattle.pl_elf.specs.declared.range.Range.{Range}
use Rattle.pl_slots.specs.Holes.{hole, cut, without, is_free, spans_in, fits_at}
use Rattle.pl_elf.specs.Ranges.{has, range_from}
use Rattle.pl_slots.proofs.HoleLaws.{free_without}
use Rattle.pl_slots.proofs.ServeLaws.{fits_free}
use Rattle.pl_slots.specs.declared.slot.Want.{Want}
use Rattle.pl_place.specs.declared.fault.PlaceFault.{PlaceFault}
use Rattle.pl_place.specs.declared.fault.PlaceFault.TheVariants.{NoPlace, NoMemory}
use Rattle.pl_base.specs.Answers.{Answers, AnswersAs}
use Rattle.pl_place.specs.Policy.{Answering, Choice, Follows}
use Rattle.pl_place.specs.Left.{without_busy, left}
use Rattle.pl_place.specs.Placing.{Chose, chosen, is_memory, want_range, InTurn, ArePlacedInTurn, StopsAt, AllInHoles, AllFree, MissesAll, WantsAreApart, Because, IsFault}
use Rattle.pl_place.proofs.LeftLaws.{without_busy_some, free_left}

-- ---- one want more

-- some first wants have their places: what comes of the others, comes of all
pub record IsSoFar (post : Answering) (free : List Range) (wants : List Want) (holes : List Range) (rest : List Want) (starts : List ℕ) : Type 0 where
  pub places : (more : List ℕ) → InTurn post holes rest more → InTurn post free wants (starts ++ more)
  pub stops : (name : List ℕ) → StopsAt post holes rest name → StopsAt post free wants name

-- the want at i, as a loop reads it
at_want : (wants : List Want) (i : ℕ) (want : Want) → i < length wants → want ≡ get_or wants i want → drop i wants ≡ want ∷ drop (i + 1) wants
at_want wants i want lt is = at_drop_more (λ (xs : List Want). xs) wants i want lt ∙ rw (← is) refl

pub so_far_more : (post : Answering) (free : List Range) (wants : List Want) (holes : List Range) (i : ℕ) (want : Want) (range : Range) (starts : List ℕ)
    → i < length wants → want ≡ get_or wants i want → range ≡ want_range want range.start → range.start < range.end → Chose post holes want (Some range.start)
    → IsSoFar post free wants holes (drop i wants) starts → IsSoFar post free wants (without_busy holes range) (drop (i + 1) wants) (starts ++ range.start ∷ [])
so_far_more post free wants holes i want range starts lt is at some chose so_far =
    let here : IsSoFar post free wants holes (want ∷ drop (i + 1) wants) starts = subst (λ rest. IsSoFar post free wants holes rest starts) (at_want wants i want lt is) so_far in
    let left : without_busy holes range ≡ without (want_range want range.start) holes = without_busy_some holes range some ∙ ap (λ r. without r holes) at in
    subst (λ holes. IsSoFar post free wants holes (drop (i + 1) wants) (starts ++ range.start ∷ [])) (sym left) (record {
      places = λ more p. rw append_assoc (here.places (range.start ∷ more) (chose, p));
      stops = λ name p. here.stops name (inr (range.start, chose, p));
    })

pub so_far_stops : (post : Answering) (free : List Range) (wants : List Want) (holes : List Range) (i : ℕ) (want : Want) (starts : List ℕ)
    → i < length wants → want ≡ get_or wants i want → Chose post holes want None → IsSoFar post free wants holes (drop i wants) starts → StopsAt post free wants want.name
so_far_stops post free wants holes i want starts lt is chose so_far =
    let here : IsSoFar post free wants holes (want ∷ drop (i + 1) wants) starts = subst (λ rest. IsSoFar post free wants holes rest starts) (at_want wants i want lt is) so_far in
    here.stops want.name (inl (refl, chose))

pub so_far_ends : (post : Answering) (free : List Range) (wants : List Want) (holes : List Range) (i : ℕ) (starts : List ℕ) → length wants ≤ i → IsSoFar post free wants holes (drop i wants) starts → ArePlacedInTurn post free wants starts
so_far_ends post free wants holes i starts le so_far =
    let here : IsSoFar post free wants holes [] starts = subst (λ rest. IsSoFar post free wants holes rest starts) (at_drop_all (λ (xs : List Want). xs) wants i le) so_far in
    record { in_turn = subst (InTurn post free wants) (append-nil starts) (here.places [] tt) }

-- ---- what fits beside a range that is taken

fits_hole : (span start a b : ℕ) → fits_at (hole a b) span start ≡ true → (a ≤ start) × (start + span ≤ b)
unfolding hole
fits_hole span start a b fits = elim (cases_Bool (nat_lt a b)) [
  | inl some ↦
      let one : fits_at (record { start = a; end = b } ∷ []) span start ≡ true = subst (λ t. fits_at (cond t (record { start = a; end = b } ∷ []) []) span start ≡ true) some fits in
      elim (or_cases (nat_le a start && nat_le (start + span) b) false one) [
        | inl here ↦
            let parts = and_parts (nat_le a start) (nat_le (start + span) b) here in
            (leb-true a start parts.0, leb-true (start + span) b parts.1)
        | inr never ↦ absurd (false≢true never)
      ]
  | inr none ↦ absurd (false≢true (subst (λ t. fits_at (cond t (record { start = a; end = b } ∷ []) []) span start ≡ true) none fits))
]

fits_cut : (span start : ℕ) (taken free : Range) → fits_at (cut taken free) span start ≡ true → spans_in start span free ≡ true
unfolding cut
fits_cut span start taken free fits =
    let low : List Range = hole free.start (min free.end taken.start) in
    let high : List Range = hole (max free.start taken.end) free.end in
    elim (or_cases (fits_at low span start) (fits_at high span start) (sym (list_any-append (spans_in start span) low high) ∙ fits)) [
      | inl below ↦
          let parts = fits_hole span start free.start (min free.end taken.start) below in
          and_from _ _ (le-leb free.start start parts.0) (le-leb (start + span) free.end (omega (arith, parts.1)))
      | inr above ↦
          let parts = fits_hole span start (max free.start taken.end) free.end above in
          and_from _ _ (le-leb free.start start (omega (arith, parts.0))) (le-leb (start + span) free.end parts.1)
    ]

fits_wider : (span start : ℕ) (taken : Range) (holes : List Range) → fits_at (without taken holes) span start ≡ true → fits_at holes span start ≡ true
unfolding without
fits_wider span start taken [] fits = absurd (false≢true fits)
fits_wider span start taken (free ∷ holes) fits =
    elim (or_cases (fits_at (cut taken free) span start) (fits_at (without taken holes) span start) (sym (list_any-append (spans_in start span) (cut taken free) (without taken holes)) ∙ fits)) [
      | inl first ↦ or_left (spans_in start span free) (fits_at holes span start) (fits_cut span start taken free first)
      | inr later ↦ or_right (spans_in start span free) (fits_at holes span start) (fits_wider span start taken holes later)
    ]

all_wider : (taken : Range) (holes : List Range) (wants : List Want) (starts : List ℕ) → AllInHoles (without taken holes) wants starts → AllInHoles holes wants starts
all_wider taken holes [] [] all = tt
all_wider taken holes (want ∷ wants) (start ∷ starts) all = ((all.0.0, fits_wider want.span start taken holes all.0.1), all_wider taken holes wants starts all.1)
all_wider taken holes [] (start ∷ starts) all = all
all_wider taken holes (want ∷ wants) [] all = all

-- each place fits
placed_fit : (post : Answering) (holes : List Range) (wants : List Want) (starts : List ℕ) → InTurn post holes wants starts → AllInHoles holes wants starts
placed_fit post holes [] [] placed = tt
placed_fit post holes (want ∷ wants) (start ∷ starts) placed =
    (placed.0.1, all_wider (want_range want start) holes wants starts (placed_fit post (without (want_range want start) holes) wants starts placed.1))
placed_fit post holes [] (start ∷ starts) placed = placed
placed_fit post holes (want ∷ wants) [] placed = placed

pub all_fit : (post : Answering) (holes : List Range) (wants : List Want) (starts : List ℕ) → ArePlacedInTurn post holes wants starts → AllInHoles holes wants starts
all_fit post holes wants starts placed = placed_fit post holes wants starts placed.in_turn

-- the addresses of what fits are free
fit_is_free : (address span start : ℕ) (holes : List Range) → fits_at holes span start ≡ true → has address (range_from start span) ≡ true → is_free address holes ≡ true
fit_is_free address span start holes fits within =
    let parts = and_parts (nat_le start address) (nat_lt address (start + span)) within in
    fits_free holes span start address fits (leb-true start address parts.0) (ltb-true address (start + span) parts.1)

misses : (taken : Range) (holes : List Range) (wants : List Want) (starts : List ℕ) → AllInHoles (without taken holes) wants starts → MissesAll taken wants starts
misses taken holes [] starts all = tt
misses taken holes (want ∷ wants) [] all = tt
misses taken holes (want ∷ wants) (start ∷ starts) all = (
  λ address hit. false_from_ne_true (has address (want_range want start)) (λ there.
      no_both (is_free address holes) (has address taken) (sym (free_without address taken holes) ∙ fit_is_free address want.span start (without taken holes) all.0.1 there) hit),
  misses taken holes wants starts all.1,
)

-- what fits beside busy ranges is in the region and in none of them
pub fit_free : (region : Range) (busy : List Range) (wants : List Want) (starts : List ℕ) → AllInHoles (left region busy) wants starts → AllFree region busy wants starts
fit_free region busy [] starts all = tt
fit_free region busy (want ∷ wants) [] all = tt
fit_free region busy (want ∷ wants) (start ∷ starts) all = (
  λ address within. sym (free_left address region busy) ∙ fit_is_free address want.span start (left region busy) all.0.1 within,
  fit_free region busy wants starts all.1,
)

-- no two places share an address
placed_apart : (post : Answering) (holes : List Range) (wants : List Want) (starts : List ℕ) → InTurn post holes wants starts → WantsAreApart wants starts
placed_apart post holes [] starts placed = tt
placed_apart post holes (want ∷ wants) [] placed = tt
placed_apart post holes (want ∷ wants) (start ∷ starts) placed = (
  misses (want_range want start) holes wants starts (placed_fit post (without (want_range want start) holes) wants starts placed.1),
  placed_apart post (without (want_range want start) holes) wants starts placed.1,
)

pub all_apart : (post : Answering) (holes : List Range) (wants : List Want) (starts : List ℕ) → ArePlacedInTurn post holes wants starts → WantsAreApart wants starts
all_apart post holes wants starts placed = placed_apart post holes wants starts placed.in_turn

-- ---- a policy that follows a function

told : (post : Answering) (choose : Choice) → Follows post choose → (holes : List Range) (want : Want) (answer : Option ℕ) → Chose post holes want answer → choose holes want.span want.align ≡ answer
told post choose follows holes want answer chose =
    let call = chose.0 in
    sym (follows call.0 want.span want.align answer call.2 ∙ ap (λ hs. choose hs want.span want.align) call.1)

in_turn_chosen : (post : Answering) (choose : Choice) → Follows post choose → (holes : List Range) (wants : List Want) (starts : List ℕ) → InTurn post holes wants starts → chosen choose holes wants ≡ Ok starts
unfolding chosen
in_turn_chosen post choose follows holes [] [] placed = refl
in_turn_chosen post choose follows holes [] (start ∷ starts) placed = absurd placed
in_turn_chosen post choose follows holes (want ∷ wants) [] placed = absurd placed
in_turn_chosen post choose follows holes (want ∷ wants) (start ∷ starts) placed =
    let here = told post choose follows holes want (Some start) placed.0 in
    let rest = in_turn_chosen post choose follows (without (want_range want start) holes) wants starts placed.1 in
    rw (here, rest) refl

pub stops_chosen : (post : Answering) (choose : Choice) → Follows post choose → (holes : List Range) (wants : List Want) (name : List ℕ) → StopsAt post holes wants name → chosen choose holes wants ≡ Err (NoPlace name)
unfolding chosen
stops_chosen post choose follows holes [] name stops = absurd stops
stops_chosen post choose follows holes (want ∷ wants) name (inl here) =
    let none = told post choose follows holes want None here.1 in
    rw (none, here.0) refl
stops_chosen post choose follows holes (want ∷ wants) name (inr later) =
    let here = told post choose follows holes want (Some later.0) later.1 in
    let rest = stops_chosen post choose follows (without (want_range want later.0) holes) wants name later.2 in
    rw (here, rest) refl

-- the places, and why there are none, are those of the function
pub all_chosen : (post : Answering) (choose : Choice) (holes : List Range) (wants : List Want) (starts : List ℕ) → Follows post choose → ArePlacedInTurn post holes wants starts → chosen choose holes wants ≡ Ok starts
all_chosen post choose holes wants starts follows placed = in_turn_chosen post choose follows holes wants starts placed.in_turn

fault_chosen : (post : Answering) (choose : Choice) (holes : List Range) (wants : List Want) (fault : PlaceFault) → Follows post choose → IsFault post holes wants fault → Answers is_memory (Err fault) (chosen choose holes wants)
fault_chosen post choose holes wants (NoPlace name) follows is = stops_chosen post choose follows holes wants name is.because
fault_chosen post choose holes wants NoMemory follows is = tt

pub answers_chosen : {X : Type 0} (view : X → List ℕ) (post : Answering) (choose : Choice) (holes : List Range) (wants : List Want) (r : Result X PlaceFault) → Follows post choose
    → IfOk r (λ x. ArePlacedInTurn post holes wants (view x)) → IfErr r (IsFault post holes wants) → AnswersAs view is_memory r (chosen choose holes wants)
answers_chosen view post choose holes wants (Ok x) follows placed fault = all_chosen post choose holes wants (view x) follows placed
answers_chosen view post choose holes wants (Err e) follows placed fault = fault_chosen post choose holes wants e follows fault
