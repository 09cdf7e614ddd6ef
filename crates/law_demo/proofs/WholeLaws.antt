-- The file of a plain and modest recipe, whole: its headers, the names of its sections and its dynamic table.
use Rattle.std.proofs.Common.{◌≡◌, ℕ, List, Ok, sym, subst, ◌∙◌}
use Rattle.pl_base.proofs.AnswerLaws.{ok_same}
use Rattle.pl_elf.specs.Clauses.{names}
use Rattle.pl_object.specs.Reads.{dynamic}
use Rattle.pl_build.specs.declared.layout.Tables.{Tables}
use Rattle.pl_build.specs.declared.layout_plan.LayoutPlan.{LayoutPlan}
use Rattle.pl_build.specs.declared.recipe.Recipe.{Recipe}
use Rattle.pl_build.specs.declared.roles.PlacedSection.{PlacedSection}
use Rattle.pl_build.specs.File.{made}
use Rattle.pl_build.specs.Layout.{tables}
use Rattle.pl_build.specs.LayoutPlan.{plan_of}
use Rattle.law_demo.specs.Accepted.{planned_dynamic}
use Rattle.law_demo.specs.Modest.{IsModest}
use Rattle.law_demo.specs.Plain.{IsPlain}
use Rattle.law_demo.specs.Planned.{IsHeaded, planned_header, planned_segments}
use Rattle.law_demo.specs.Shape.{before_dynamic}
use Rattle.law_demo.proofs.AcceptedLaws.{dynamic_ok, held_by_name}
use Rattle.law_demo.proofs.FileLaws.{made_is, names_of}
use Rattle.law_demo.proofs.HeadLaws.{heads_are_read}
use Rattle.law_demo.proofs.HeadedLaws.{names_are}
use Rattle.law_demo.proofs.PlacedLaws.{are_taken}
use Rattle.law_demo.proofs.ShapeLaws.{IsPlaced, placed}

pub record IsWholeFile (r : Recipe) (bytes : List ℕ) (t : Tables) : Type 0 where
  pub headed : IsHeaded (plan_of r) t bytes
  pub names : names bytes (planned_header (plan_of r) t) ≡ (names_of (plan_of r)).bytes
  pub before : List PlacedSection
  pub dynamic : dynamic bytes (planned_segments (plan_of r) t) ≡ Ok (planned_dynamic (plan_of r) before)

pub whole_file : (r : Recipe) (bytes : List ℕ) → IsPlain r → IsModest r → made (plan_of r) ≡ Ok bytes → (t : Tables) × (tables (plan_of r) ≡ Ok t) × IsWholeFile r bytes t
whole_file r bytes plain modest made_so =
    let p : LayoutPlan = plan_of r in
    let file = made_is p bytes made_so in
    let t : Tables = file.0 in
    let headed_at = heads_are_read r bytes plain made_so in
    let placed_at = placed r bytes plain made_so in
    let headed : IsHeaded p t bytes = subst (λ (u : Tables). IsHeaded p u bytes) (ok_same headed_at.0 t (sym headed_at.1 ∙ file.1)) headed_at.2 in
    let here : IsPlaced r bytes t = subst (λ (u : Tables). IsPlaced r bytes u) (ok_same placed_at.0 t (sym placed_at.1 ∙ file.1)) placed_at.2 in
    let named = names_are r t plain file.1 (subst (λ (xs : List ℕ). IsHeaded p t xs) file.2 headed) in (
      t,
      file.1,
      record {
        headed = headed;
        names = subst (λ (xs : List ℕ). names xs (planned_header p t) ≡ (names_of p).bytes) (sym file.2) named;
        before = before_dynamic r here.shape.extents;
        dynamic = dynamic_ok r bytes t here.shape.extents plain here.fits here.shape.is (are_taken r bytes t plain file.1 here).good (held_by_name r bytes t here);
      },
    )
