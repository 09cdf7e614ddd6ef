-- The file of a name after a run.
use Rattle.std.proofs.Common.{◌≡◌, ℕ, Bool, true, false, List, None, ap}
use Rattle.std.specs.Prelude.{if◌then◌else◌}
use Rattle.std.specs.Option.{option_map, option_or}
use Rattle.pl_conflict.specs.Format.{format}
use Rattle.pl_cone.specs.Plans.{RunPlan, is_candidate, is_current}
use Rattle.pl_cone.specs.Skipped.{skip_causes}
use Rattle.pl_elf.specs.declared.range.Range.{Range}
use Rattle.pl_form.specs.Files.{original_in}
use Rattle.law_sound.specs.Plan.{planned_in}
use Rattle.law_sound.specs.Rule.{Files}
use Rattle.pl_rewrite.specs.Changes as changes
use Rattle.pl_rewrite.specs.Changes.{from_scratch, next}

pub next_on : (files : Files) (region : Range) (p : RunPlan) (n : List ℕ) → is_current files region p.slots n ≡ true → next files region p n ≡ files n
unfolding next
next_on files region p n on = ap (λ (b : Bool). if b then files n else from_scratch files region p n) on

pub next_off : (files : Files) (region : Range) (p : RunPlan) (n : List ℕ) → is_current files region p.slots n ≡ false → next files region p n ≡ from_scratch files region p n
unfolding next
next_off files region p n off = ap (λ (b : Bool). if b then files n else from_scratch files region p n) off

pub scratch_by : (files : Files) (region : Range) (p : RunPlan) (n : List ℕ) (b : Bool) → is_candidate files region n ≡ b
    → from_scratch files region p n ≡ option_or (if b then changes.prelinked files region p n else None) (option_map original_in (files n))
unfolding changes.prelinked
scratch_by files region p n b is = ap (λ (c : Bool). option_or (if c then planned_in (format skip_causes) files (changes.numbers files region p) n else None) (option_map original_in (files n))) is
