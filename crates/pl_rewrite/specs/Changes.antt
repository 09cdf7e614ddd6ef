-- What a run that prelinks everything makes of the files of a folder, as the rows of a journal. A file whose bytes would not change has no row.
use Rattle.std.specs.Prelude.{ℕ, Bool, false, ◌&&◌, List, Option, Some, None, is_some, if◌then◌else◌}
use Rattle.std.specs.List.{filter_map, list_any}
use Rattle.std.specs.Str.{bytes_eq}
use Rattle.pl_cache.specs.declared.cache.Cache.{Cache}
use Rattle.pl_cone.specs.Plans.{slot_of}
use Rattle.pl_conflict.specs.Format.{format}
use Rattle.pl_elf.specs.declared.range.Range.{Range}
use Rattle.pl_journal.specs.declared.change.Change.{Change}
use Rattle.pl_journal.specs.declared.change.Change.TheVariants.{Put}
use Rattle.pl_cone.specs.Fits.{fit_in}
use Rattle.pl_cone.specs.Plans.{is_current, is_stale}
use Rattle.pl_cone.specs.Skipped.{skip_causes}
use Rattle.pl_cone.specs.Plans.{RunPlan}
use Rattle.law_sound.specs.Plan.{Plan, all, plan_of, planned_in}
use Rattle.law_sound.specs.Rule.{Files}

-- ---- the files

-- the planned slots, with the old stamps of current names and the run's stamp for the others
abbrev pub numbers : Files → Range → RunPlan → Plan
numbers files region p = plan_of (format skip_causes) (fit_in region) files (slot_of p.slots) p.stamp

-- a name's file, prelinked with these
unfoldable pub prelinked : Files → Range → RunPlan → List ℕ → Option (List ℕ)
prelinked files region p n = planned_in (format skip_causes) files (numbers files region p) n

-- all files from scratch: a candidate's is prelinked where that is possible, and any other is its original
abbrev pub from_scratch : Files → Range → RunPlan → Files
from_scratch files region p = all (format skip_causes) (fit_in region) files (slot_of p.slots) p.stamp

-- a name's file after the run: a current one stays, and any other is made from scratch
unfoldable pub next : Files → Range → RunPlan → List ℕ → Option (List ℕ)
next files region p n = if is_current files region p.slots n then files n else from_scratch files region p n

-- ---- the rows

-- a file has these bytes
abbrev pub is_file : Option (List ℕ) → List ℕ → Bool
is_file None bytes = false
is_file (Some file) bytes = bytes_eq file bytes

-- the row that gives a name a file in place of its old one; none where the bytes are the same
abbrev pub put : Option (List ℕ) → List ℕ → Option (List ℕ) → Option Change
put old n None = None
put old n (Some bytes) = if is_file old bytes then None else Some (Put n bytes)

abbrev pub change : Files → Range → RunPlan → List ℕ → Option Change
change files region p n = put (files n) n (next files region p n)

-- a row for each of these names whose file changes, in their order
unfoldable pub changes : Files → List (List ℕ) → Range → RunPlan → List Change
changes files ns region p = filter_map (change files region p) ns

-- ---- the cache

-- a stale name gets the run's stamp where it can be prelinked
abbrev pub is_given : Files → Range → RunPlan → List ℕ → Bool
is_given files region p n = is_stale files region p.slots n && is_some (prelinked files region p n)

-- the planned slots; the last stamp is the run's where a name gets it, and else stays
unfoldable pub next_cache : Files → List (List ℕ) → Range → ℕ → RunPlan → Cache
next_cache files ns region last p = record { last = if list_any (is_given files region p) ns then p.stamp else last; rows = p.slots }
