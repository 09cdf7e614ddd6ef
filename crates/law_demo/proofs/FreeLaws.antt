-- The slots of libraries lie in the region of a run, so a program's file that keeps off the region keeps off them.
use Rattle.std.proofs.Common.{◌≡◌, ℕ, ◌+◌, ◌≤◌, true, List, [], ◌∷◌, ◌++◌, None, Ok, refl, ap, ◌∙◌, arith, append-nil}
use Rattle.std.specs.Prelude.{◌||◌, nat_le}
use Rattle.std.specs.FinMap.{get}
use Rattle.std.specs.List.{All, list_all}
use Rattle.std.proofs.lemmas.Bool.{and_from, and_parts, leb-true}
use Rattle.std.proofs.lemmas.Bool.Decides.{nat_tests}
use Rattle.std.proofs.lemmas.List.Elements.{All-head, All-tail}
use Rattle.pl_batch.specs.All.{asked_of}
use Rattle.pl_batch.specs.Folder.{named}
use Rattle.pl_change.specs.Folder.{valid_names}
use Rattle.pl_cli.specs.Files.{valid_file}
use Rattle.pl_cone.specs.Plans.{slot_of}
use Rattle.pl_conflict.specs.Complete.{file_at}
use Rattle.pl_conflict.specs.Format.{format, slot_at}
use Rattle.pl_elf.specs.Kinds.{is_library}
use Rattle.pl_elf.specs.Ranges.{range_from}
use Rattle.pl_elf.specs.declared.range.Range.{Range}
use Rattle.law_folder.specs.All.{HasNext}
use Rattle.law_folder.proofs.NextLemmas.{gives_next}
use Rattle.law_folder.proofs.PlanLemmas.{are_names}
use Rattle.law_folder.proofs.WantLemmas.{candidate_slot, slot_start}
use Rattle.pl_journal.specs.Meaning.{applied}
use Rattle.pl_cone.specs.Plans.{is_candidate, planned}
use Rattle.pl_cone.specs.Skipped.{skip_causes}
use Rattle.pl_loader.specs.Places.{kept_free, misses}
use Rattle.pl_object.specs.declared.object.Object.{Object}
use Rattle.pl_cone.specs.declared.planning.Asked.{Asked}
use Rattle.pl_cone.specs.Plans.{RunPlan}
use Rattle.pl_rewrite.specs.Changes.{from_scratch, numbers}
use Rattle.pl_rewrite.specs.Laws.{AreNames}
use Rattle.pl_rewrite.proofs.SoundLaws.{next_is_from_scratch}
use Rattle.pl_scope.specs.Members.{has, names}
use Rattle.pl_scope.specs.Walk.{Walked}
use Rattle.pl_scope.proofs.NameLaws.{has_head, has_tail}
use Rattle.pl_slots.specs.Plan.{lies_in}
use Rattle.pl_slots.specs.declared.slot.Slot.{Slot}
use Rattle.law_sound.specs.Plan as sound
use Rattle.law_sound.specs.Rule.{Files, objects}
use Rattle.law_demo.specs.Clear.{are_clear, has_free_slots, is_clear, loaded_by}
use Rattle.law_demo.specs.Fast.{FilesOffTheRegionAreClear}
use Rattle.law_demo.proofs.RunLaws.{IsWalkAfter, after_next, walk_after}
use Rattle.law_folder.proofs.SetLemmas.{HasLibrary, HasObject}

-- ---- what lies in a region misses what misses it

part_misses : (low high start span from to : ℕ) → low ≤ start → start + span ≤ high → (nat_le high from || nat_le to low || nat_le to from) ≡ true → (nat_le (start + span) from || nat_le to start || nat_le to from) ≡ true
part_misses low high start span from to above below off = grind (arith, nat_tests)

within_misses : (region : Range) (slot : Slot) (span : ℕ) (rs : List Range) → lies_in region slot ≡ true → span ≤ slot.span → list_all (misses region) rs ≡ true → list_all (misses (range_from slot.start span)) rs ≡ true
unfolding lies_in
within_misses region slot span [] lies less off = refl
within_misses region slot span (r ∷ rs) lies less off =
    let in_it = and_parts (nat_le region.start slot.start) (nat_le (slot.start + slot.span) region.end) lies in
    let above = leb-true region.start slot.start in_it.0 in
    let below = leb-true (slot.start + slot.span) region.end in_it.1 in
    let q = and_parts (misses region r) (list_all (misses region) rs) off in
    and_from (misses (range_from slot.start span) r) (list_all (misses (range_from slot.start span)) rs)
    (part_misses region.start region.end slot.start span r.start r.end above (omega (arith, below, less)) q.0) (within_misses region slot span rs lies less q.1)

-- ---- the libraries of a program

module _ (old view : Files) (ns : List (List ℕ)) (a : Asked) (p : RunPlan) (named_all : AreNames old ns) (plan_is : planned old ns a ≡ Ok p) where
  clear_each : (taken : List Range) (ms : Walked) (plan_of : sound.Plan) → All (HasObject skip_causes old plan_of) ms → All (HasLibrary skip_causes old plan_of) ms → ((m : List ℕ) → has (names ms) m ≡ true → is_candidate old a.region m ≡ true)
      → ((m : List ℕ) (o : Object) → has (names ms) m ≡ true → objects (format skip_causes) old m ≡ Ok o → is_library o.kind ≡ true → slot_at skip_causes view m ≡ slot_of p.slots m)
      → list_all (misses a.region) taken ≡ true → list_all (is_clear skip_causes view taken) ms ≡ true
  clear_each taken [] plan_of have libraries candidate bears off = refl
  clear_each taken (m ∷ ms) plan_of have libraries candidate bears off =
      let at = All-head (HasObject skip_causes old plan_of) m ms have in
      let library = All-head (HasLibrary skip_causes old plan_of) m ms libraries in
      let here = has_head m.0 (names ms) in
      let s = candidate_slot old ns a p m.0 m.1 named_all plan_is (candidate m.0 here) at library in
      let start : slot_at skip_causes view m.0 ≡ s.slot.start = bears m.0 m.1 here at library ∙ slot_start p.slots m.0 s.slot s.found in
      let first : is_clear skip_causes view taken m ≡ true = ap (λ (n : ℕ). list_all (misses (range_from n m.1.span)) taken) start ∙ within_misses a.region s.slot m.1.span taken s.within s.large off in
      and_from (is_clear skip_causes view taken m) (list_all (is_clear skip_causes view taken) ms) first
      (clear_each taken ms plan_of (All-tail (HasObject skip_causes old plan_of) m ms have) (All-tail (HasLibrary skip_causes old plan_of) m ms libraries) (λ k there. candidate k (has_tail m.0 k (names ms) there))
      (λ k o there. bears k o (has_tail m.0 k (names ms) there)) off)

pub off_is_clear : FilesOffTheRegionAreClear
unfolding has_free_slots
off_is_clear files after p rows name keeps changes are marked program off =
    let h : HasNext files p (applied rows (get files)) = gives_next files p rows changes in
    let is : (n : List ℕ) → valid_file after n ≡ from_scratch (named files) p.region h.plan n = λ n. after_next files after p rows h are n ∙ next_is_from_scratch (named files) p.region h.plan keeps n in
    let w : IsWalkAfter (named files) (valid_file after) p.region h.plan is name marked program = walk_after (named files) (valid_file after) p.region h.plan is name marked program in
    let off_all : list_all (misses p.region) (loaded_by (file_at (valid_file after) name) ++ kept_free None) ≡ true = ap (list_all (misses p.region)) (append-nil (loaded_by (file_at (valid_file after) name))) ∙ off in
    ap (are_clear skip_causes (valid_file after) (loaded_by (file_at (valid_file after) name) ++ kept_free None)) w.walks
    ∙ clear_each (named files) (valid_file after) (valid_names files) (asked_of p h.cached) h.plan (are_names files) h.is_planned (loaded_by (file_at (valid_file after) name) ++ kept_free None) w.rest (numbers (named files) p.region h.plan)
    w.have w.libraries w.candidates w.slots off_all
