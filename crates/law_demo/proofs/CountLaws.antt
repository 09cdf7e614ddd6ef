-- The objects of a walk among files that recipes describe have few relocations.
use Rattle.std.proofs.Common.{◌≡◌, ℕ, ◌*◌, ◌^◌, ◌≤◌, Bool, true, List, [], ◌∷◌, length, map, filter, get_or, Some, Ok, refl, sym, ap, subst, ◌∙◌, arith, inl, inr}
use Rattle.std.specs.Prelude.{◌⊎◌}
use Rattle.std.specs.List.{All}
use Rattle.std.proofs.lemmas.Bool.{cases_Bool}
use Rattle.std.proofs.lemmas.List.{length-append, length-map}
use Rattle.std.proofs.lemmas.List.Elements.{All-head, All-tail}
use Rattle.std.proofs.lemmas.Option.{same_Some, slice_get-get_or}
use Rattle.pl_base.proofs.AnswerLaws.{ok_same}
use Rattle.pl_cone.specs.declared.skip.Skip.{Skip}
use Rattle.pl_conflict.specs.Format.{format}
use Rattle.pl_elf.specs.declared.range.Range.{Range}
use Rattle.pl_cone.specs.Skipped.{skip_causes}
use Rattle.pl_object.specs.Reads.{object, reads}
use Rattle.pl_object.specs.declared.object.Object.{Object}
use Rattle.pl_object.specs.declared.reloc.Reloc.{Reloc}
use Rattle.pl_build.specs.declared.kind.FileKind.{FileKind}
use Rattle.pl_build.specs.declared.kind.FileKind.TheVariants.{Library, Program}
use Rattle.pl_build.specs.declared.layout.Tables.{Tables}
use Rattle.pl_build.specs.declared.line.Relocation.{Relocation}
use Rattle.pl_build.specs.declared.layout_plan.LayoutPlan.{LayoutPlan}
use Rattle.pl_build.specs.declared.recipe.Recipe.{Recipe}
use Rattle.pl_build.specs.declared.roles.PlacedSection.{PlacedSection}
use Rattle.pl_build.specs.LayoutPlan.{is_jump_slot, is_other, plan_of}
use Rattle.pl_build.specs.Relocations.{rela_of}
use Rattle.law_demo.specs.Accepted.{planned_layout, planned_object}
use Rattle.law_demo.specs.Relocs.{planned_relocs, planned_symbols, read_as}
use Rattle.law_demo.specs.Rows.{reloc_of}
use Rattle.law_demo.specs.Shape.{before_dynamic}
use Rattle.law_demo.proofs.AcceptedLaws.{plain_accepted}
use Rattle.law_demo.proofs.RelocLaws.{plan_relocations}
use Rattle.law_demo.specs.Candidates.{AreLibraries, HasFile, IsKnownFile, IsLibraryFile, IsProgramFile}
use Rattle.law_demo.specs.Closed.{AreClosed, IsRoot, WalksWithin}
use Rattle.law_demo.proofs.CandidateLaws.{files_known}
use Rattle.law_demo.proofs.ClosedLaws.{roots_walk}
use Rattle.pl_scope.specs.Members.{has, names}
use Rattle.pl_scope.specs.Scope as scope
use Rattle.pl_scope.specs.Walk.{Walked}
use Rattle.pl_scope.proofs.NameLaws.{has_head, has_tail}
use Rattle.pl_scope.proofs.StepLaws.{walk_short}
use Rattle.pl_scope.proofs.WalkedLaws.{limit_is, member_file}
use Rattle.law_sound.specs.Rule.{Files, Format, objects, walk_in}
use Rattle.law_demo.proofs.LengthLaws.{relocations_in}

-- ---- of a recipe

filter_short : {X : Type 0} (q : X → Bool) (xs : List X) → length (filter q xs) ≤ length xs
filter_short q [] = omega arith
filter_short q (x ∷ xs) = let rest = filter_short q xs in elim (cases_Bool (q x)) [
  | inl hit ↦ rw hit (omega (arith, rest))
  | inr miss ↦ rw miss (omega (arith, rest))
]

read_long : (p : LayoutPlan) (rs : List Relocation) → length (read_as p rs) ≡ length rs
unfolding read_as
read_long p rs = length-map (map (rela_of p) rs) (reloc_of (planned_symbols p)) ∙ length-map rs (rela_of p)

planned_few : (p : LayoutPlan) → length (planned_relocs p) ≤ 2 * length p.relocations
unfolding planned_relocs
planned_few p =
    omega (
      arith,
      length-append (read_as p (filter is_other p.relocations)) (read_as p (filter is_jump_slot p.relocations)),
      read_long p (filter is_other p.relocations),
      read_long p (filter is_jump_slot p.relocations),
      filter_short is_other p.relocations,
      filter_short is_jump_slot p.relocations,
    )

object_relocs : (r : Recipe) (t : Tables) (before : List PlacedSection) → (planned_object r t before).relocations ≡ planned_relocs (plan_of r)
unfolding planned_object object planned_layout
object_relocs r t before = refl

abbrev IsFew : Object → Type 0
IsFew o = length o.relocations ≤ 1024

described_few : (r : Recipe) (t : Tables) (before : List PlacedSection) → length r.relocations ≤ 512 → IsFew (planned_object r t before)
described_few r t before few = omega (arith, ap (λ (rs : List Reloc). length rs) (object_relocs r t before), planned_few (plan_of r), ap (λ (rs : List Relocation). length rs) (plan_relocations r), few)

-- ---- of files

module _ (files : Files) (all : List (List ℕ)) where
  abbrev f : Format Skip
  f = format skip_causes

  file_few : (kind : FileKind) (m : List ℕ) (r : Recipe) (o : Object) → (kind ≡ Library) ⊎ (kind ≡ Program) → HasFile files all kind m r → objects f files m ≡ Ok o → IsFew o
  file_few kind m r o which h at =
      let k = files_known files all kind m r which h in
      let a = plain_accepted r h.bytes h.describing.plain h.describing.modest h.made in
      let bytes : k.bytes ≡ h.bytes = same_Some k.bytes h.bytes (sym k.file ∙ h.there) in
      let first : k.object ≡ o = ok_same k.object o (sym k.there ∙ at) in
      let same : k.object ≡ planned_object r a.0 (before_dynamic r a.2.extents) = ok_same k.object (planned_object r a.0 (before_dynamic r a.2.extents)) (sym k.accepted ∙ (ap reads bytes ∙ a.2.reads)) in
      subst IsFew (sym same ∙ first) (described_few r a.0 (before_dynamic r a.2.extents) h.describing.bounded.relocations)

  closed : AreLibraries files all → AreClosed (objects f files) all
  closed libraries = record {
    few = libraries.few;
    each = λ m there.
        let l : IsLibraryFile files all m = libraries.each m there in
        let k = files_known files all Library m l.recipe (inl refl) l.file in
        record { object = k.object; file = k.there; kind = k.same_kind; needs = λ x t. l.file.needs x (subst (λ (ns : List (List ℕ)). has ns x ≡ true) k.needed t) };
  }

  all_few : (ms : Walked) → All (λ p. objects f files p.0 ≡ Ok p.1) ms → ((m : List ℕ) (o : Object) → has (names ms) m ≡ true → objects f files m ≡ Ok o → IsFew o) → relocations_in (scope.objects ms) ≤ 1024 * length ms
  all_few [] have each = omega arith
  all_few (p ∷ ms) have each =
      let first = each p.0 p.1 (has_head p.0 (names ms)) (All-head (λ (q : List ℕ × Object). objects f files q.0 ≡ Ok q.1) p ms have) in
      let rest = all_few ms (All-tail (λ (q : List ℕ × Object). objects f files q.0 ≡ Ok q.1) p ms have) (λ m o there at. each m o (has_tail p.0 m (names ms) there) at) in
      omega (arith, first, rest)

  pub walk_count : (region : Range) (n : List ℕ) → AreLibraries files all → IsProgramFile files all region n → (ws : Walked) → walk_in f files n ≡ Ok ws → relocations_in (scope.objects ws) ≤ 2 ^ 20
  walk_count region n libraries program ws walks =
      let k = files_known files all Program n program.recipe (inr refl) program.file in
      let root : IsRoot (objects f files) all n k.object = record { file = k.there; linked = inr k.same_kind; needs = λ x t. program.file.needs x (subst (λ (ns : List (List ℕ)). has ns x ≡ true) k.needed t) } in
      let w : WalksWithin skip_causes.walk (objects f files) all n = roots_walk skip_causes.walk (objects f files) all n k.object (closed libraries) root in
      let same : w.walked ≡ ws = ok_same w.walked ws (sym w.walks ∙ walks) in
      let have : All (λ p. objects f files p.0 ≡ Ok p.1) ws = λ i d lt. member_file skip_causes.walk (objects f files) n ws walks i (get_or ws i d) (slice_get-get_or ws i d lt) in
      let each : (m : List ℕ) (o : Object) → has (names ws) m ≡ true → objects f files m ≡ Ok o → IsFew o = λ m o there at. elim (w.within m (subst (λ (vs : Walked). has (names vs) m ≡ true) (sym same) there)) [
        | inl own ↦ file_few Program n program.recipe o (inr refl) program.file (ap (objects f files) (sym own) ∙ at)
        | inr other ↦ let l : IsLibraryFile files all m = libraries.each m other in file_few Library m l.recipe o (inl refl) l.file at
      ] in
      omega (arith, all_few ws have each, walk_short skip_causes.walk (objects f files) n ws walks, length-map ws (λ (p : List ℕ × Object). p.0), limit_is)
