-- What a run plans over the files of a folder.
use Rattle.std.specs.Prelude.{ℕ, Err, find, ◌+◌, Bool, not, ◌&&◌, ◌==◌, List, map, filter, fold, max, length, Option, Some, None, Result, Ok, if◌then◌else◌}
use Rattle.std.specs.List.{filter_map, position}
use Rattle.std.specs.Str.{bytes_eq}
use Rattle.pl_base.specs.Answers.{◌>>=◌, because, unless}
use Rattle.pl_cone.specs.declared.skip.ConeFault.{ConeFault}
use Rattle.pl_cone.specs.declared.skip.ConeFault.TheVariants.{StampsSpent}
use Rattle.pl_cone.specs.declared.skip.Skip.{Skip}
use Rattle.pl_cone.specs.declared.currency.TheConstants.{LAST_STAMP}
use Rattle.pl_elf.specs.Kinds.{is_library}
use Rattle.pl_object.specs.declared.object.Object.{Object}
use Rattle.pl_conflict.specs.Format.{format}
use Rattle.pl_elf.specs.declared.range.Range.{Range}
use Rattle.pl_cone.specs.Faulted.{of_cone, of_plan}
use Rattle.pl_cone.specs.declared.planning.Asked.{Asked}
use Rattle.pl_cone.specs.declared.skip.PlanningFault.{PlanningFault}
use Rattle.pl_share.specs.Disjoint.{disjoint}
use Rattle.pl_share.specs.Shared.{plan_shared}
use Rattle.pl_slots.specs.Plan.{plan}
use Rattle.pl_slots.specs.declared.slot.Slot.{Slot}
use Rattle.pl_slots.specs.declared.slot.Want.{Want}
use Rattle.law_sound.specs.Plan as sound
use Rattle.law_sound.specs.Rule.{Files, Mark, mark_at, members, objects, stamp_of}
use Rattle.pl_cone.specs.Fits.{fit_in}
use Rattle.pl_cone.specs.Skipped.{skip_causes, skip_of}

-- ---- what is planned

-- how a name stands: the first cause why it is not prelinked, or none where it may be
pub record Standing : Type 0 where
  pub name : List ℕ
  pub cause : Option Skip

-- what a run plans: how each name stands, the slots of the libraries that may be prelinked, the stale names, and the stamp that they get
pub record RunPlan : Type 0 where
  pub standings : List Standing
  pub slots : List Slot
  pub stale : List (List ℕ)
  pub stamp : ℕ

-- ---- names among others

abbrev pub start_of : Option Slot → ℕ
start_of None = 0
start_of (Some slot) = slot.start

-- the planned slot of a name, 0 where it has none
unfoldable pub slot_of : List Slot → List ℕ → ℕ
slot_of slots n = start_of (find (λ s. bytes_eq s.name n) slots)

abbrev pub cause_of : Result (Unit {0}) Skip → Option Skip
cause_of (Ok u) = None
cause_of (Err cause) = Some cause

abbrev pub want_of : List ℕ → Result Object Skip → Option Want
want_of n (Ok o) = if is_library o.kind then Some (record { name = n; span = o.span; align = o.align }) else None
want_of n (Err cause) = None

-- the position of a name among the wants; a program has none
abbrev pub position_of : List Want → List ℕ → Option ℕ
position_of wants n = position (λ w. bytes_eq w.name n) wants

-- the stamp of a run at a moment: past the greatest so far
unfoldable pub stamp_after : ℕ → ℕ → Result ℕ ConeFault
stamp_after greatest now = unless (greatest == LAST_STAMP) (StampsSpent greatest) (Ok (max now (greatest + 1)))

-- ---- who may be prelinked

abbrev pub is_candidate : Files → Range → List ℕ → Bool
is_candidate files region n = sound.is_candidate (format skip_causes) (fit_in region) files n

abbrev pub candidates : Files → Range → List (List ℕ) → List (List ℕ)
candidates files region ns = filter (is_candidate files region) ns

abbrev pub standing : Files → Range → List ℕ → Standing
standing files region n = record { name = n; cause = cause_of (skip_of files region n) }

-- each name, with the first cause why it is not prelinked
abbrev pub standings : Files → Range → List (List ℕ) → List Standing
standings files region ns = map (standing files region) ns

-- ---- where the libraries go

-- the libraries among names, in their order
abbrev pub wants : Files → List (List ℕ) → List Want
wants files ns = filter_map (λ n. want_of n (objects (format skip_causes) files n)) ns

-- for each of these names the positions of its walk's libraries among the wants
abbrev pub walks : Files → List Want → List (List ℕ) → List (List ℕ)
walks files ws ns = map (λ n. filter_map (position_of ws) (members (format skip_causes) files n)) ns

-- the slots of the libraries among names. Where they may share addresses, those may overlap that no walk of these names holds together; else no two overlap
unfoldable pub slots_of : Files → Asked → List (List ℕ) → List Want → Result (List Slot) PlanningFault
slots_of files a ns ws = because of_plan (
    if a.share then plan_shared a.rows.now ws (walks files ws ns) a.region
    else plan (disjoint a.rows.now ws a.region) ws a.region)

abbrev pub slots_by : Files → Asked → List (List ℕ) → Result (List Slot) PlanningFault
slots_by files a ns = slots_of files a ns (wants files ns)

-- the slots of the candidates that are libraries
abbrev pub slots : Files → List (List ℕ) → Asked → Result (List Slot) PlanningFault
slots files ns a = slots_by files a (candidates files a.region ns)

-- ---- the stale names, and their stamp

abbrev pub is_current : Files → Range → List Slot → List ℕ → Bool
is_current files region rows n = sound.is_current (format skip_causes) (fit_in region) files (slot_of rows) n

-- a candidate that is not current
abbrev pub is_stale : Files → Range → List Slot → List ℕ → Bool
is_stale files region rows n = is_candidate files region n && not (is_current files region rows n)

abbrev pub stale : Files → Range → List Slot → List (List ℕ) → List (List ℕ)
stale files region rows ns = filter (is_stale files region rows) ns

-- the greatest of a mark's own stamp and those in its list
abbrev pub greatest_of : Option Mark → ℕ
greatest_of None = 0
greatest_of (Some k) = fold (λ most r. max most r.stamp) k.stamp k.list

-- the greatest of a first stamp and those of all marks and of their lists
unfoldable pub greatest : Files → ℕ → List (List ℕ) → ℕ
greatest files last ns = fold (λ most n. max most (greatest_of (mark_at (format skip_causes) (files n)))) last ns

-- the stamp of a run's stale names, past all of them; the last one so far where none is stale
unfoldable pub stamp_for : Files → List (List ℕ) → Asked → List (List ℕ) → Result ℕ PlanningFault
stamp_for files ns a stale =
    if length stale == 0 then Ok a.last
    else because of_cone (stamp_after (greatest files a.last ns) a.moment)

-- ---- the whole

-- what a run plans for the names of a folder, or its first cause
unfoldable pub planned : Files → List (List ℕ) → Asked → Result RunPlan PlanningFault
planned files ns a =
    slots files ns a >>= λ rows.
    stamp_for files ns a (stale files a.region rows ns) >>= λ stamp.
    Ok (record { standings = standings files a.region ns; slots = rows; stale = stale files a.region rows ns; stamp = stamp })

-- the stamp of a name's library after a run: the run's where the name is stale, and else its old one; 0 of what is no library
unfoldable pub next_stamp : Files → Range → List Slot → ℕ → List ℕ → ℕ
next_stamp files region rows stamp n =
    if sound.is_library_at (objects (format skip_causes) files n)
    then if is_stale files region rows n then stamp else stamp_of (mark_at (format skip_causes) (files n))
    else 0
