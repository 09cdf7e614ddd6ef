-- A position-independent program fixed where a policy places it.
use Rattle.std.specs.Prelude.{◌≡◌, ◌<◌, ◌^◌, ℕ, ⊤, length, List, Option, Some, None, if◌then◌else◌}
use Rattle.pl_elf.specs.declared.range.Range.{Range}
use Rattle.pl_form.specs.Files.{marked_in}
use Rattle.pl_object.specs.declared.object.Object.{Object}
use Rattle.pl_pie.specs.Fix.{MayBeFixed, fits, fixed_bytes, unfixed}
use Rattle.pl_pie.specs.Pie.{pie}
use Rattle.pl_pie.specs.declared.constants.TheConstants.{REGION_START, REGION_END}
use Rattle.pl_place.specs.Policy.{Answered, Answering, Choice, MayAnswer}
use Rattle.pl_slots.specs.Holes.{region_holes}
use Rattle.pl_pie.specs.declared.placing.Placing.{Placing}
use Rattle.pl_pie.specs.declared.placing.Placing.TheVariants.{NotPie, NoPlace, Fixed}

-- the addresses at which such programs are fixed
abbrev pub pie_region : Range
pie_region = record { start = REGION_START; end = REGION_END }

-- nothing in them is busy
abbrev pub pie_holes : List Range
pie_holes = region_holes pie_region

-- ---- a policy's answer

-- what a policy is asked for a program in the whole region, and its answer
pub record Asked : Type 0 where
  pub span : ℕ
  pub align : ℕ
  pub answer : Option ℕ

-- the policy answered so, as it may; or nothing was asked
abbrev pub WasAsked : Answering → Option Asked → Type 0
WasAsked post None = ⊤
WasAsked post (Some a) = Answered post pie_holes a.span a.align a.answer × MayAnswer pie_holes a.span a.align a.answer

-- a function answers so too
abbrev pub AnswersSo : Option Asked → Choice → Type 0
AnswersSo None choose = ⊤
AnswersSo (Some a) choose = choose pie_holes a.span a.align ≡ a.answer

-- what holds by a policy that is asked at most once, whether it follows a function or none: it holds of each function that answers as the policy did
pub record HoldsBy (post : Answering) (P : Choice → Type 0) : Type 0 where
  pub asked : Option Asked
  pub was : WasAsked post asked
  pub holds : (choose : Choice) → AnswersSo asked choose → P choose

-- ---- fixing

-- the program at a policy's answer; an address at which it does not fit is no answer
abbrev pub fixed_at : List ℕ → Object → Option ℕ → Placing
fixed_at bytes o None = NoPlace
fixed_at bytes o (Some at) = if fits o at then Fixed at (fixed_bytes at o bytes) else NoPlace

-- the policy is asked for the whole region
abbrev pub placed_by : Choice → List ℕ → Option Object → Placing
placed_by choose bytes None = NotPie
placed_by choose bytes (Some o) = fixed_at bytes o (choose pie_holes o.span o.align)

-- what a policy makes of a file
unfoldable pub placed : Choice → List ℕ → Placing
placed choose bytes = placed_by choose bytes (pie bytes)

-- a program that is fixed has fewer than 2^32 bytes
abbrev pub IsSmall : Placing → Type 0
IsSmall NotPie = ⊤
IsSmall NoPlace = ⊤
IsSmall (Fixed at bytes) = length bytes < 2 ^ 32

-- ---- laws

-- no file that `fix` makes is a prelinked one, wherever it takes the program;
abbrev pub MadeFilesAreBare : Type 0
MadeFilesAreBare = (bytes : List ℕ) (o : Object) (at : ℕ) → pie bytes ≡ Some o → MayBeFixed o at → marked_in (fixed_bytes at o bytes) ≡ None

-- so none that is fixed where a policy places it,
abbrev pub FixedFilesAreBare : Type 0
FixedFilesAreBare = (choose : Choice) (bytes file : List ℕ) (at : ℕ) → placed choose bytes ≡ Fixed at file → marked_in file ≡ None

-- and none that is loosened
abbrev pub LoosenedFilesAreBare : Type 0
LoosenedFilesAreBare = (file bytes : List ℕ) → unfixed file ≡ Some bytes → marked_in bytes ≡ None
