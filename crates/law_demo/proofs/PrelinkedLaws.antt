-- A run that prelinks everything prelinks each program that is a candidate, whose original is short and whose scope has few relocations.
use Rattle.std.proofs.Common.{◌≡◌, ℕ, ◌^◌, ◌≤◌, true, false, List, map, length, Some, Ok, sym, ap, subst, ◌∙◌, arith}
use Rattle.std.specs.FinMap.{get, keys}
use Rattle.std.proofs.lemmas.Option.{same_Some}
use Rattle.pl_base.specs.Bytes.{IsBytes}
use Rattle.pl_base.specs.Files as base
use Rattle.pl_batch.specs.All.{asked_of}
use Rattle.pl_batch.specs.Folder.{named}
use Rattle.pl_change.specs.Folder.{valid_names}
use Rattle.pl_change.specs.Names.{are_many}
use Rattle.pl_batch.specs.declared.prelinking.Prelinking.{Prelinking}
use Rattle.pl_cache.specs.Spelling.{is_cache}
use Rattle.pl_cache.specs.declared.cache.Cache.{Cache}
use Rattle.pl_conflict.specs.Format.{format}
use Rattle.pl_conflict.specs.Prelinked.{Firm, objects_of}
use Rattle.pl_elf.specs.declared.kind.Kind.TheVariants.{Program}
use Rattle.law_folder.specs.Candidates.{HasPlan}
use Rattle.law_folder.specs.Causes.{IsAsked}
use Rattle.law_folder.proofs.BesideLemmas as beside
use Rattle.law_folder.proofs.CandidateLemmas.{IsProgramWalk, program_stored, program_walk}
use Rattle.law_folder.proofs.ProgramLemmas.{firms_of}
use Rattle.law_folder.proofs.SetLemmas.{firm_for}
use Rattle.pl_cone.specs.Plans.{is_candidate, planned}
use Rattle.pl_cone.specs.Skipped.{skip_causes}
use Rattle.pl_object.specs.declared.object.Object.{Object}
use Rattle.pl_cone.specs.Plans.{RunPlan}
use Rattle.pl_rewrite.proofs.ProgramLaws.{stored_small}
use Rattle.pl_rewrite.specs.Changes.{numbers}
use Rattle.pl_scope.specs.Scope as scope
use Rattle.pl_scope.specs.Walk.{Walked}
use Rattle.pl_slots.specs.Apart.{are_apart}
use Rattle.law_sound.specs.Plan.{Plan, planned_in}
use Rattle.law_sound.specs.Rule.{Files, objects, original_at, walk_in}
use Rattle.law_demo.proofs.LengthLaws.{relocations_in}
use Rattle.law_demo.proofs.LinkedLaws.{IsMadeOf, program_made}

-- a run over files that are bytes, whose slots share no address
pub record IsRun (files : base.Files) (p : Prelinking) (cached : Cache) (made : RunPlan) : Type 0 where
  pub bytes : (n file : List ℕ) → get files n ≡ Some file → IsBytes file
  pub asked : IsAsked p
  pub few : are_many (keys files) ≡ false
  pub spelled : is_cache cached ≡ true
  pub is_planned : planned (named files) (valid_names files) (asked_of p cached) ≡ Ok made
  pub apart : are_apart made.slots ≡ true

-- of a run that gives each library addresses of its own no two slots share one
pub slots_apart : (files : base.Files) (p : Prelinking) (cached : Cache) (made : RunPlan) → p.share ≡ false → planned (named files) (valid_names files) (asked_of p cached) ≡ Ok made → are_apart made.slots ≡ true
slots_apart files p cached made alone is_planned = beside.slots_apart files p cached made alone is_planned

module _ (files : base.Files) (p : Prelinking) (cached : Cache) (made : RunPlan) (run : IsRun files p cached made) where
  abbrev old : Files
  old = named files

  abbrev plan : Plan
  plan = numbers old p.region made

  has_plan : HasPlan files p made
  has_plan = record { bytes = run.bytes; asked = run.asked; cached = cached; spelled = run.spelled; is = run.is_planned }

  pub program_planned : (n : List ℕ) (o : Object) → objects (format skip_causes) old n ≡ Ok o → o.kind ≡ Program → is_candidate old p.region n ≡ true → length (original_at (format skip_causes) (old n)) ≤ 2 ^ 24
      → ((ws : Walked) → walk_in (format skip_causes) old n ≡ Ok ws → relocations_in (scope.objects ws) ≤ 2 ^ 20) → (file : List ℕ) × (planned_in (format skip_causes) old plan n ≡ Some file)
  program_planned n o at kind candidate short rows =
      let w : IsProgramWalk files p made has_plan n o = program_walk files p made has_plan n o at kind candidate in
      let r : Firm = firm_for skip_causes old plan (n, o) in
      let rs : List Firm = map (firm_for skip_causes old plan) w.rest in
      let count : relocations_in (objects_of (firms_of skip_causes old plan (n, o) w.rest)) ≤ 2 ^ 20 = subst (λ (os : List Object). relocations_in os ≤ 2 ^ 20) (sym w.objects_are) (rows w.walked w.walks) in
      let m : IsMadeOf r rs = program_made r rs w.filed.are w.program w.filed.set w.link count in
      let same : m.file ≡ w.filed.file = same_Some m.file w.filed.file (sym m.made ∙ w.filed.made) in
      let small : length w.filed.file ≤ 268435456 = omega (arith, ap (λ (xs : List ℕ). length xs) same, m.short, short) in
      (w.filed.file, program_stored files p made has_plan n o w ∙ sym (stored_small w.filed.file small))
