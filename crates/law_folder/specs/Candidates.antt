-- A name that may be prelinked is prelinked: a run that prelinks everything has a file for each candidate, unless it is a program whose file would be longer than a folder stores.
use Rattle.std.specs.Prelude.{◌≡◌, ◌<◌, ℕ, true, List, map, length, Some, None, Ok}
use Rattle.std.specs.FinMap.{get}
use Rattle.pl_base.specs.Bytes.{IsBytes}
use Rattle.pl_base.specs.Files.{Files}
use Rattle.pl_batch.specs.All.{asked_of}
use Rattle.pl_batch.specs.Folder.{named}
use Rattle.pl_change.specs.Folder.{valid_names}
use Rattle.pl_batch.specs.declared.prelinking.Prelinking.{Prelinking}
use Rattle.pl_cache.specs.Spelling.{is_cache}
use Rattle.pl_cache.specs.declared.cache.Cache.{Cache}
use Rattle.pl_conflict.specs.Format.{format}
use Rattle.pl_conflict.specs.Prelinked.{Firm, all_firm, are_set, program_file}
use Rattle.pl_elf.specs.declared.kind.Kind.TheVariants.{Program}
use Rattle.pl_elf.specs.declared.range.Range.{Range}
use Rattle.pl_form.specs.declared.constants.TheConstants.{STORED}
use Rattle.pl_rewrite.specs.Plans.{is_candidate, planned}
use Rattle.pl_rewrite.specs.Skipped.{skip_causes}
use Rattle.pl_object.specs.declared.object.Object.{Object}
use Rattle.pl_rewrite.specs.Plans.{RunPlan}
use Rattle.pl_rewrite.specs.Changes.{next, numbers, prelinked}
use Rattle.pl_rewrite.specs.Reports.{marked_at}
use Rattle.pl_scope.specs.Members.{names}
use Rattle.pl_scope.specs.Walk.{Walked}
use Rattle.law_sound.specs.Plan.{planned_member}
use Rattle.law_sound.specs.Rule as sound
use Rattle.law_sound.specs.Rule.{Member, objects, walk_in}
use Rattle.law_folder.specs.Causes.{IsAsked}

-- a run plans this over files that are bytes, by a cache that has a spelling; slots may be shared or not
pub record HasPlan (files : Files) (p : Prelinking) (plan : RunPlan) : Type 0 where
  pub bytes : (n file : List ℕ) → get files n ≡ Some file → IsBytes file
  pub asked : IsAsked p
  pub cached : Cache
  pub spelled : is_cache cached ≡ true
  pub is : planned (named files) (valid_names files) (asked_of p cached) ≡ Ok plan

-- the members of a walk, each with its original, and with the slot and stamp that are planned for it
abbrev pub members_by : sound.Files → Range → RunPlan → Walked → List Member
members_by files region plan walked = map (planned_member (format skip_causes) files (numbers files region plan)) (names walked)

-- A name is a program's, each step of the definition of its file has a value, and the file is longer than a folder stores.
pub record IsTooLong (files : sound.Files) (region : Range) (plan : RunPlan) (n : List ℕ) : Type 0 where
  pub object : Object
  pub at : objects (format skip_causes) files n ≡ Ok object
  pub program : object.kind ≡ Program
  pub walked : Walked
  pub walks : walk_in (format skip_causes) files n ≡ Ok walked
  pub firms : List Firm
  pub firm : all_firm (members_by files region plan walked) ≡ Some firms
  pub set : are_set firms ≡ true
  pub file : List ℕ
  pub made : program_file firms ≡ Some file
  pub long : STORED < length file

-- only such a candidate has no prelinked file,
abbrev pub CandidatesArePrelinked : Type 0
CandidatesArePrelinked =
    (files : Files) (p : Prelinking) (plan : RunPlan) → HasPlan files p plan → (n : List ℕ) → is_candidate (named files) p.region n ≡ true → prelinked (named files) p.region plan n ≡ None → IsTooLong (named files) p.region plan n

-- and after the run every other candidate's file bears a mark
abbrev pub CandidatesAreMarked : Type 0
CandidatesAreMarked =
    (files : Files) (p : Prelinking) (plan : RunPlan) → HasPlan files p plan → (n : List ℕ) → is_candidate (named files) p.region n ≡ true → marked_at (next (named files) p.region plan n) ≡ None → IsTooLong (named files) p.region plan n
