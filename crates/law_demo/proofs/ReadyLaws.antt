-- Each program that a run can prelink is prelinked after it, and its file keeps off the region of the slots.
use Rattle.std.proofs.Common.{◌≡◌, ℕ, ◌+◌, ◌^◌, ◌≤◌, Bool, true, false, List, length, Option, Some, None, Ok, refl, sym, ap, subst, ◌∙◌}
use Rattle.std.specs.Prelude.{if◌then◌else◌}
use Rattle.std.specs.List.{All}
use Rattle.std.specs.Option.{is_some, option_map, option_or}
use Rattle.pl_base.specs.Files as base
use Rattle.pl_base.proofs.AnswerLaws.{ok_same}
use Rattle.pl_batch.specs.Folder.{named}
use Rattle.pl_batch.specs.declared.prelinking.Prelinking.{Prelinking}
use Rattle.pl_cache.specs.declared.cache.Cache.{Cache}
use Rattle.pl_cone.specs.declared.skip.Skip.{Skip}
use Rattle.pl_conflict.specs.Complete.{bytes_of, file_at}
use Rattle.pl_conflict.specs.Format.{format, mark_in, mark_of, read_original}
use Rattle.pl_conflict.proofs.FormatLaws.{format_kept}
use Rattle.pl_elf.specs.Headers.{loads}
use Rattle.pl_elf.specs.Kinds.{is_library}
use Rattle.pl_elf.specs.declared.kind.Kind.TheVariants.{Program}
use Rattle.pl_elf.specs.declared.range.Range.{Range}
use Rattle.pl_form.specs.Files.{marked_in, original_or_file, original_in}
use Rattle.pl_form.specs.Marks.{IsFormOf}
use Rattle.pl_form.specs.declared.file.Marked.{Marked}
use Rattle.pl_form.proofs.FilesLaws.{nothing_else_is_read}
use Rattle.pl_cone.specs.Fits.{fit_in}
use Rattle.pl_cone.specs.Skipped.{skip_causes}
use Rattle.pl_object.specs.Reads.{reads}
use Rattle.pl_object.specs.declared.object.Object.{Object}
use Rattle.pl_cone.specs.Plans.{RunPlan}
use Rattle.pl_rewrite.specs.Changes.{from_scratch, numbers}
use Rattle.pl_rewrite.proofs.FormLaws.{IsOriginal, original_is}
use Rattle.pl_scope.specs.Scope as scope
use Rattle.pl_scope.specs.Walk.{Walked}
use Rattle.law_sound.specs.Plan.{Plan, is_candidate, planned_in}
use Rattle.law_sound.specs.Rule.{Files, Format, Mark, is_marked, mark_at, object_at, objects, original_at, walk_in}
use Rattle.law_sound.proofs.PlanLaws.{planned_is, planned_object}
use Rattle.law_demo.specs.Clear.{IsProgram, keeps_off}
use Rattle.law_demo.proofs.PrelinkedLaws.{IsRun, program_planned}
use Rattle.law_demo.proofs.LengthLaws.{relocations_in}
use Rattle.law_demo.proofs.LowLaws.{low_off}

made_by : (candidate : Bool) (planned old : Option (List ℕ)) (file : List ℕ) → candidate ≡ true → planned ≡ Some file → option_or (if candidate then planned else None) old ≡ Some file
made_by candidate planned old file on is = rw (on, is) refl

original_is_of : (file : List ℕ) (m : Marked) → marked_in file ≡ Some m → original_in file ≡ m.original
unfolding original_in
original_is_of file m e = ap (original_or_file file) e

-- a marked file whose original's object lies low keeps off a region that lies high
off_by : (region : Range) (low : ℕ) (file : List ℕ) (o : Object) (k : Mark) (found : Option Marked) → marked_in file ≡ found → option_map mark_of found ≡ Some k → reads (original_in file) ≡ Ok o → is_library o.kind ≡ false
    → All (λ s. s.vaddr + s.memsz ≤ low) (loads o.segments) → low + 2 ^ 33 ≤ region.start → keeps_off region file ≡ true
off_by region low file o k None e marked read program ends le = absurd cc
off_by region low file o k (Some m) e marked read program ends le =
    let form : IsFormOf file m = nothing_else_is_read file m e in
    let same : o ≡ m.object = ok_same o m.object (sym read ∙ (ap reads (original_is_of file m e) ∙ form.firm.accepted)) in
    low_off file m region low form (ap (λ (x : Object). is_library x.kind) (sym same) ∙ program) (subst (λ (x : Object). All (λ s. s.vaddr + s.memsz ≤ low) (loads x.segments)) same ends) le

mark_is : (file : List ℕ) (k : Mark) → mark_in file ≡ Some k → option_map mark_of (marked_in file) ≡ Some k
unfolding mark_in
mark_is file k e = e

-- of files after a run: prelinked, a program, and off the region
pub record IsReadyAt (view : Files) (region : Range) (n : List ℕ) : Type 0 where
  pub prelinked : is_marked (format skip_causes) view n ≡ true
  pub program : IsProgram skip_causes view n
  pub off : keeps_off region (file_at view n) ≡ true

pub ready_after : (files : base.Files) (p : Prelinking) (cached : Cache) (made : RunPlan) → IsRun files p cached made → (view : Files) → ((m : List ℕ) → view m ≡ from_scratch (named files) p.region made m) → (n : List ℕ) (o : Object)
    → objects (format skip_causes) (named files) n ≡ Ok o → o.kind ≡ Program → is_candidate (format skip_causes) (fit_in p.region) (named files) n ≡ true → length (original_at (format skip_causes) (named files n)) ≤ 2 ^ 24
    → ((ws : Walked) → walk_in (format skip_causes) (named files) n ≡ Ok ws → relocations_in (scope.objects ws) ≤ 2 ^ 20)
    → (low : ℕ) → All (λ s. s.vaddr + s.memsz ≤ low) (loads o.segments) → low + 2 ^ 33 ≤ p.region.start → IsReadyAt view p.region n
ready_after files p cached made run view after n o at kind candidate short rows low ends le =
    let f : Format Skip = format skip_causes in
    let old : Files = named files in
    let planned : Plan = numbers old p.region made in
    let done = program_planned files p cached made run n o at kind candidate short rows in
    let file : List ℕ = done.0 in
    let there : view n ≡ Some file = after n ∙ made_by (is_candidate f (fit_in p.region) old n) (planned_in f old planned n) (option_map f.original (old n)) file candidate done.1 in
    let q = planned_is f (format_kept skip_causes) old planned n file done.1 in
    let same : objects f old n ≡ objects f view n = planned_object f old view planned n file q there in
    let program : is_library o.kind ≡ false = ap is_library kind in
    let read : read_original skip_causes n (original_in file) ≡ Ok o = sym (ap (object_at f n) there) ∙ (sym same ∙ at) in
    let own : IsOriginal (original_in file) o = original_is n (original_in file) o read in
    record {
      prelinked = ap (λ (g : Option (List ℕ)). is_some (mark_at f g)) there ∙ ap (λ (k : Option Mark). is_some k) q.mark;
      program = λ x is. ap (λ (y : Object). is_library y.kind) (ok_same x o (sym is ∙ (sym same ∙ at))) ∙ program;
      off = ap (λ (g : Option (List ℕ)). keeps_off p.region (bytes_of g)) there ∙ off_by p.region low file o _ (marked_in file) refl (mark_is file _ q.mark) own.reads program ends le;
    }
