-- What is known of a plan: each row serves its want, and no two rows share an address.
use Rattle.std.proofs.Common.{◌≡◌, ◌≢◌, ◌<◌, true, List, [], Result, Ok, Err, sym, ◌∙◌, subst}
use Rattle.std.specs.Prelude.{IfOk, All, AllPairs}
use Rattle.pl_base.specs.Answers.{Answers}
use Rattle.pl_base.specs.Each.{run}
use Rattle.pl_base.proofs.AnswerLaws.{bind_ok, ok_same}
use Rattle.pl_elf.specs.declared.range.Range.{Range}
use Rattle.pl_slots.specs.declared.slot.Want.{Want}
use Rattle.pl_slots.specs.declared.slot.Slot.{Slot}
use Rattle.pl_slots.specs.declared.partial_plan.PartialPlan.{PartialPlan}
use Rattle.pl_slots.specs.declared.fault.PlanFault.{PlanFault}
use Rattle.pl_slots.specs.Apart.{are_apart}
use Rattle.pl_slots.specs.Holes.{region_holes}
use Rattle.pl_slots.specs.Plan.{plan, next, kept_holes, is_memory, AllServe}
use Rattle.pl_slots.proofs.ServeLaws.{AreSome, are_some, all_serve, holes_in_region}
use Rattle.pl_slots.proofs.ApartLaws.{differ, kept_apart, kept_outside, all_apart}

abbrev start : List Slot → List Want → Range → PartialPlan
start kept wants region = record { rows = []; holes = kept_holes kept region wants }

serves : (kept : List Slot) (wants : List Want) (region : Range) (rows : List Slot) → AreSome wants → plan kept wants region ≡ Ok rows → AllServe kept region wants rows
unfolding plan
serves kept wants region rows some ok =
    let split = bind_ok (run (next kept region) (start kept wants region) wants) (λ planned. Ok planned.rows) rows ok in
    let all = all_serve kept region wants (start kept wants region) split.0 some (holes_in_region kept region wants) split.1 in
    subst (AllServe kept region wants) (sym all.all ∙ ok_same split.0.rows rows split.2) all.serve

is_apart : (kept : List Slot) (wants : List Want) (region : Range) (rows : List Slot) → AreSome wants → are_apart kept ≡ true → AllPairs (λ a b. a.name ≢ b.name) wants → plan kept wants region ≡ Ok rows → are_apart rows ≡ true
unfolding plan kept_holes
is_apart kept wants region rows some apart names ok =
    let split = bind_ok (run (next kept region) (start kept wants region) wants) (λ planned. Ok planned.rows) rows ok in
    subst (λ (rows : List Slot). are_apart rows ≡ true) (ok_same split.0.rows rows split.2)
    (all_apart kept region wants (start kept wants region) split.0 some split.1 (record { apart = kept_apart kept region wants apart (differ wants names); outside = kept_outside kept region wants (region_holes region) some }))

pub rows_serve : (kept : List Slot) (wants : List Want) (region : Range) (result : Result (List Slot) PlanFault) → All (λ want. 0 < want.align) wants → Answers is_memory result (plan kept wants region)
    → IfOk result (λ rows. All (λ want. 0 < want.span) wants → AllServe kept region wants rows)
rows_serve kept wants region (Ok rows) aligns ok = λ spans. serves kept wants region rows (are_some wants aligns spans) ok
rows_serve kept wants region (Err e) aligns ok = tt

pub rows_apart : (kept : List Slot) (wants : List Want) (region : Range) (result : Result (List Slot) PlanFault) → All (λ want. 0 < want.align) wants → Answers is_memory result (plan kept wants region)
    → IfOk result (λ rows. All (λ want. 0 < want.span) wants → AllPairs (λ a b. a.name ≢ b.name) wants → are_apart kept ≡ true → are_apart rows ≡ true)
rows_apart kept wants region (Ok rows) aligns ok = λ spans names apart. is_apart kept wants region rows (are_some wants aligns spans) apart names ok
rows_apart kept wants region (Err e) aligns ok = tt
