-- The tables stand one after the other.
use Rattle.std.proofs.Common.{◌≡◌, ℕ, ◌+◌, ◌-◌, ◌%◌, ◌≤◌, ◌<◌, List, [], ◌∷◌, ◌++◌, length, replicate, Result, Ok, Err, refl, sym, ap, subst, ◌∙◌, append_assoc, length-append, take, arith, inl, inr}
use Rattle.std.specs.Prelude.{nat_lt, ◌==◌}
use Rattle.std.proofs.lemmas.Bool.{cases_Bool}
use Rattle.std.proofs.lemmas.Bool.Decides.{nat_tests}
use Rattle.std.proofs.lemmas.List.{append-nil, length-replicate}
use Rattle.pl_base.specs.Each.{run}
use Rattle.pl_base.specs.Sums.{round_up}
use Rattle.pl_base.proofs.AnswerLaws.{ok_same, bind_ok}
use Rattle.pl_base.proofs.SumLaws.{round_up-at_least, round_up-multiple}
use Rattle.std.proofs.Math.Seq.{drop-append_seam}
use Rattle.pl_base.proofs.WindowLaws.{part_front, part_all}
use Rattle.pl_build.specs.declared.checks.Fault.{Fault}
use Rattle.pl_build.specs.declared.layout.Tables.{Tables}
use Rattle.pl_build.specs.declared.layout_plan.LayoutPlan.{LayoutPlan}
use Rattle.pl_build.specs.declared.roles.PlacedSection.{PlacedSection}
use Rattle.pl_build.specs.declared.roles.Role.{Role}
use Rattle.pl_build.specs.Layout.{contents, filled_to, aligned, place_at, table_added, end_of, in_limit, role_added, no_tables, tables, too_large}
use Rattle.law_demo.specs.Standing.{Stands, AreStanding, AreLaid}
use Rattle.law_demo.specs.Files.{TablesStand}

-- ---- bytes behind

stands_front : (p : LayoutPlan) (xs ys : List ℕ) (from : ℕ) (before : List PlacedSection) (place : PlacedSection) → Stands p xs from before place → Stands p (xs ++ ys) from before place
stands_front p xs ys from before place s = record {
  after = s.after;
  some = s.some;
  aligned = s.aligned;
  address = s.address;
  within = omega (arith, s.within, length-append xs ys);
  holds = part_front place.offset place.size xs ys s.within ∙ s.holds;
}

pub standing_front : (p : LayoutPlan) (xs ys : List ℕ) (from : ℕ) (before places : List PlacedSection) → AreStanding p xs from before places → AreStanding p (xs ++ ys) from before places
standing_front p xs ys from before [] h = tt
standing_front p xs ys from before (place ∷ places) h = (stands_front p xs ys from before place h.0, standing_front p xs ys (place.offset + place.size) (before ++ place ∷ []) places h.1)

-- ---- one table more

-- where the last of the tables ends
abbrev pub last_end : ℕ → List PlacedSection → ℕ
last_end from [] = from
last_end from (place ∷ places) = last_end (place.offset + place.size) places

pub ends_within : (p : LayoutPlan) (xs : List ℕ) (from : ℕ) (before places : List PlacedSection) → from ≤ length xs → AreStanding p xs from before places → last_end from places ≤ length xs
ends_within p xs from before [] le h = le
ends_within p xs from before (place ∷ places) le h = ends_within p xs (place.offset + place.size) (before ++ place ∷ []) places h.0.within h.1

standing_more : (p : LayoutPlan) (xs : List ℕ) (from : ℕ) (before places : List PlacedSection) (place : PlacedSection) → AreStanding p xs from before places → Stands p xs (last_end from places) (before ++ places) place → AreStanding p xs from before (places ++ place ∷ [])
standing_more p xs from before [] place h s = (subst (λ (b : List PlacedSection). Stands p xs from b place) (append-nil before) s, tt)
standing_more p xs from before (first ∷ places) place h s =
    (h.0, standing_more p xs (first.offset + first.size) (before ++ first ∷ []) places place h.1 (subst (λ (b : List PlacedSection). Stands p xs (last_end (first.offset + first.size) places) b place) (sym (append_assoc before (first ∷ []) places)) s))

-- contents behind zeros up to the next multiple of the alignment
table_stands : (p : LayoutPlan) (xs content : List ℕ) (from : ℕ) (before : List PlacedSection) (role : Role) → from ≤ length xs → length xs % 8 ≡ 0 → 0 < length content → content ≡ contents p before role → Stands p (xs ++ content) from before (place_at p role (length xs) (length content))
unfolding place_at
table_stands p xs content from before role le multiple some is = record {
  after = le;
  some = some;
  aligned = multiple;
  address = refl;
  within = omega (arith, length-append xs content);
  holds = ap (take (length content)) (drop-append_seam xs content) ∙ part_all content ∙ is;
}

-- zeros behind them change nothing
aligned_standing : (p : LayoutPlan) (front bytes : List ℕ) (places : List PlacedSection) → AreStanding p (front ++ bytes) 1024 [] places → AreStanding p (front ++ aligned bytes) 1024 [] places
unfolding aligned filled_to
aligned_standing p front bytes places h =
    let zeros : List ℕ = replicate (round_up (length bytes) 8 - length bytes) 0 in
    subst (λ (xs : List ℕ). AreStanding p xs 1024 [] places) (append_assoc front bytes zeros) (standing_front p (front ++ bytes) zeros 1024 [] places h)

aligned_length : (xs : List ℕ) → length (aligned xs) ≡ round_up (length xs) 8
unfolding aligned filled_to
aligned_length xs =
    let le = round_up-at_least (length xs) 8 (omega arith) in
    omega (arith, length-append xs (replicate (round_up (length xs) 8 - length xs) 0), length-replicate {A = ℕ} (round_up (length xs) 8 - length xs) 0, le)

added : (p : LayoutPlan) (front : List ℕ) (t : Tables) (role : Role) → length front ≡ 1024 → AreLaid p front t → 0 < length (contents p t.places role) → AreStanding p (front ++ (table_added p t role (contents p t.places role)).bytes) 1024 [] (table_added p t role (contents p t.places role)).places
unfolding table_added
added p front t role size laid some =
    let content : List ℕ = contents p t.places role in
    let whole : List ℕ = front ++ aligned t.bytes in
    let long : length whole ≡ 1024 + length (aligned t.bytes) = length-append front (aligned t.bytes) ∙ ap (λ (n : ℕ). n + length (aligned t.bytes)) size in
    let even : length whole % 8 ≡ 0 = even_length (long ∙ ap (λ (n : ℕ). 1024 + n) (aligned_length t.bytes)) in
    let old : AreStanding p (whole ++ content) 1024 [] t.places = standing_front p whole content 1024 [] t.places (aligned_standing p front t.bytes t.places laid.standing) in
    let far : last_end 1024 t.places ≤ length whole = ends_within p whole 1024 [] t.places (omega (arith, long)) (aligned_standing p front t.bytes t.places laid.standing) in
    let new : Stands p (whole ++ content) (last_end 1024 t.places) t.places (place_at p role (length whole) (length content)) = table_stands p whole content (last_end 1024 t.places) t.places role far even some refl in
    let new_at : Stands p (whole ++ content) (last_end 1024 t.places) t.places (place_at p role (1024 + length (aligned t.bytes)) (length content)) = subst (λ (n : ℕ). Stands p (whole ++ content) (last_end 1024 t.places) t.places (place_at p role n (length content))) long new in
    subst (λ (xs : List ℕ). AreStanding p xs 1024 [] (t.places ++ place_at p role (1024 + length (aligned t.bytes)) (length content) ∷ [])) (append_assoc front (aligned t.bytes) content) (standing_more p (whole ++ content) 1024 [] t.places (place_at p role (1024 + length (aligned t.bytes)) (length content)) old new_at)
  where
    even_length : length (front ++ aligned t.bytes) ≡ 1024 + round_up (length t.bytes) 8 → length (front ++ aligned t.bytes) % 8 ≡ 0
    even_length e = omega (arith, e, round_up-multiple (length t.bytes) 8)

pub in_limit_ok : (t u : Tables) → in_limit t ≡ Ok u → (t ≡ u) × (end_of t ≤ 1048576)
in_limit_ok t u e = elim (cases_Bool (nat_lt 1048576 (end_of t))) [
  | inl over ↦ let no : ◌≡◌ {A = Result Tables Fault} (Err too_large) (Ok u) = rw over at e in cc
  | inr fits ↦ (ok_same t u (rw fits at e), grind (arith, nat_tests))
]

role_laid : (p : LayoutPlan) (front : List ℕ) (t u : Tables) (role : Role) → length front ≡ 1024 → AreLaid p front t → role_added p t role ≡ Ok u → AreLaid p front u
unfolding role_added
role_laid p front t u role size laid e = elim (cases_Bool (length (contents p t.places role) == 0)) [
  | inl none ↦ subst (λ (v : Tables). AreLaid p front v) (ok_same t u (rw none at e)) laid
  | inr some ↦
      let done = in_limit_ok (table_added p t role (contents p t.places role)) u (rw some at e) in
      subst (λ (v : Tables). AreLaid p front v) done.0 (record { standing = added p front t role size laid (grind (arith, nat_tests)); fits = done.1 })
]

run_laid : (p : LayoutPlan) (front : List ℕ) (roles : List Role) (t u : Tables) → length front ≡ 1024 → AreLaid p front t → run (role_added p) t roles ≡ Ok u → AreLaid p front u
unfolding run
run_laid p front [] t u size laid e = subst (λ (v : Tables). AreLaid p front v) (ok_same t u e) laid
run_laid p front (role ∷ roles) t u size laid e =
    let step = bind_ok (role_added p t role) (λ (v : Tables). run (role_added p) v roles) u e in
    run_laid p front roles step.0 u size (role_laid p front t step.0 role size laid step.1) step.2

pub tables_laid : TablesStand
unfolding tables
tables_laid p t front size e = run_laid p front p.roles no_tables t size (record { standing = tt; fits = omega arith }) e
