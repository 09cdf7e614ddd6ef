-- A run that prelinks everything.
use Rattle.std.specs.Prelude.{◌≡◌, ℕ, ◌≤◌, Bool, true, false, not, ◌&&◌, ◌||◌, nat_eq, List, map, Option, Some, None, Result, Ok, Err, if◌then◌else◌}
use Rattle.std.specs.List.{All, list_all}
use Rattle.std.specs.Option.{option_or, option_map}
use Rattle.pl_object.specs.declared.object.Object.{Object}
use Rattle.pl_elf.specs.declared.kind.Kind.{Kind}
use Rattle.pl_elf.specs.declared.kind.Kind.TheVariants.{Program, Library, Static}
use Rattle.pl_elf.specs.Kinds.{is_library}
use Rattle.pl_scope.specs.Walk.{Walked}
use Rattle.pl_scope.specs.Members.{names}
use Rattle.law_sound.specs.Rule.{Mark, Member, Format, Files, mark_at, original_at, version_of, slot_of, stamp_of, objects, walk_in, members, matches, of_walk}

-- ---- candidates and current names

-- what a run asks of originals: that one has no form fault, and that those of a program's walk, in order, link
pub record Fit : Type 0 where
  pub is_sound : List ℕ → Bool
  pub links : List (List ℕ) → Bool

abbrev pub is_library_at : {E : Type 0} → Result Object E → Bool
is_library_at (Ok o) = is_library o.kind
is_library_at (Err e) = false

-- what the originals of a walk have to be besides: those of a program link
abbrev pub links_as : Fit → Kind → List (List ℕ) → Bool
links_as fit Program originals = fit.links originals
links_as fit Library originals = true
links_as fit Static originals = false

abbrev pub fits : {E : Type 0} → Format E → Fit → Files → Result Object E → Result Walked E → Bool
fits f fit files (Ok o) (Ok walked) =
    list_all (λ m. fit.is_sound (original_at f (files m))) (names walked)
    && links_as fit o.kind (map (λ m. original_at f (files m)) (names walked))
fits f fit files (Ok o) (Err e) = false
fits f fit files (Err c) walked = false

-- a program or library whose walk has no refusal, no member of which has a form fault, and, for a program, whose members link
abbrev pub is_candidate : {E : Type 0} → Format E → Fit → Files → List ℕ → Bool
is_candidate f fit files n = fits f fit files (objects f files n) (walk_in f files n)

-- a library stands at its planned slot
abbrev pub at_slot : {E : Type 0} → Format E → Files → (List ℕ → ℕ) → List ℕ → Bool
at_slot f files slots n = not (is_library_at (objects f files n)) || nat_eq (slot_of (mark_at f (files n))) (slots n)

-- a file has a mark as they are made now
abbrev pub is_present : {E : Type 0} → Format E → Files → List ℕ → Bool
is_present f files n = nat_eq (version_of (mark_at f (files n))) f.version

-- a name matches, with a mark as they are made now, and at its planned slot if it is a library
abbrev pub is_held : {E : Type 0} → Format E → Files → (List ℕ → ℕ) → List ℕ → Bool
is_held f files slots n = matches f files n && (is_present f files n && at_slot f files slots n)

-- a candidate that matches, and it and each library of its walk match with marks as they are made now, at their planned slots
abbrev pub is_current : {E : Type 0} → Format E → Fit → Files → (List ℕ → ℕ) → List ℕ → Bool
is_current f fit files slots n = is_candidate f fit files n && (matches f files n && list_all (is_held f files slots) (members f files n))

-- ---- all files after the run

-- slots and stamps that the names get
pub record Plan : Type 0 where
  pub slot : List ℕ → ℕ
  pub stamp : List ℕ → ℕ

-- the planned slots; the old stamp for a current name, and the run's for every other
abbrev pub plan_of : {E : Type 0} → Format E → Fit → Files → (List ℕ → ℕ) → ℕ → Plan
plan_of f fit files slots stamp = record { slot = slots; stamp = λ n. if is_current f fit files slots n then stamp_of (mark_at f (files n)) else stamp }

-- a library's number; a program has 0
abbrev pub for_library : {E : Type 0} → Result Object E → ℕ → ℕ
for_library object number = if is_library_at object then number else 0

abbrev pub planned_member : {E : Type 0} → Format E → Files → Plan → List ℕ → Member
planned_member f files plan n = record { name = n; original = original_at f (files n); version = f.version; slot = for_library (objects f files n) (plan.slot n); stamp = for_library (objects f files n) (plan.stamp n) }

-- a name's file, prelinked for the originals, the planned slots and stamps
abbrev pub planned_in : {E : Type 0} → Format E → Files → Plan → List ℕ → Option (List ℕ)
planned_in f files plan n = of_walk f (planned_member f files plan) (walk_in f files n)

-- a candidate's file is prelinked by the plan where that is possible, and every other file is its original
abbrev pub all : {E : Type 0} → Format E → Fit → Files → (List ℕ → ℕ) → ℕ → Files
all f fit files slots stamp n =
    option_or (if is_candidate f fit files n then planned_in f files (plan_of f fit files slots stamp) n else None) (option_map f.original (files n))

-- no stamp and no list row of a folder is past a stamp
pub record IsBounded {E : Type 0} (f : Format E) (files : Files) (last : ℕ) : Type 0 where
  pub stamps : (n file : List ℕ) (k : Mark) → files n ≡ Some file → f.mark file ≡ Some k → k.stamp ≤ last
  pub lists : (n file : List ℕ) (k : Mark) → files n ≡ Some file → f.mark file ≡ Some k → All (λ r. r.stamp ≤ last) k.list
