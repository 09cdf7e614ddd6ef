-- The names that a run prelinks: programs and libraries whose walk has no refusal, no member of which has a form fault, and, for a program, which link.
use Rattle.std.specs.Prelude.{ℕ, List, [], ◌∷◌, map, length, replicate, Option, Result, Ok, if◌then◌else◌}
use Rattle.pl_base.specs.Answers.{◌>>=◌, because, unless, unless_found}
use Rattle.pl_base.specs.Each.{run}
use Rattle.pl_elf.specs.Kinds.{is_program, is_static}
use Rattle.pl_elf.specs.declared.kind.Kind.{Kind}
use Rattle.pl_elf.specs.declared.kind.Kind.TheVariants.{Static}
use Rattle.pl_object.specs.declared.object.Object.{Object}
use Rattle.pl_scope.specs.Members.{names}
use Rattle.pl_scope.specs.Scope.{objects}
use Rattle.pl_scope.specs.Walk.{Walked, walk}
use Rattle.pl_tls.specs.Layout.{offsets}
use Rattle.pl_tls.specs.declared.block.Block.{Block}
use Rattle.pl_tls.specs.declared.module.Module.{Module}
use Rattle.pl_value.specs.LinkNames.{named_fault}
use Rattle.pl_value.specs.Meanings.{meanings}
use Rattle.pl_value.specs.declared.fault.LinkFault.{LinkFault}
use Rattle.pl_cone.specs.Skips.{of_walk, of_tls}
use Rattle.pl_cone.specs.declared.skip.Skip.{Skip}
use Rattle.pl_cone.specs.declared.skip.Skip.TheVariants as skips

-- ---- kinds

-- what the first object of a walk is
abbrev pub kind_of : Walked → Kind
kind_of [] = Static
kind_of (m ∷ ms) = m.1.kind

-- ---- forms

-- the number of a name's form fault, if it has one, is what `faults` tells. A member has none
abbrev pub formed : (List ℕ → Option ℕ) → List ℕ → Result (Unit {0}) Skip
formed faults n = unless_found (faults n) (skips.Form n) (Ok tt)

-- no member has one, or the first that has
unfoldable pub all_formed : (List ℕ → Option ℕ) → List (List ℕ) → Result (Unit {0}) Skip
all_formed faults ns = run (λ u n. formed faults n) tt ns

-- ---- links

abbrev pub blocks : Walked → List (Option Block)
blocks walked = map (λ o. o.tls) (objects walked)

-- a link refusal, by names
abbrev pub of_link : Walked → LinkFault → Skip
of_link walked fault = skips.Link (named_fault walked fault)

-- a place for each member. No link refusal asks where a member is loaded
abbrev pub zeros : Walked → List ℕ
zeros walked = replicate (length walked) 0

-- each relocation has a value, or the first link refusal
unfoldable pub resolved : Walked → List Module → Result (Unit {0}) Skip
resolved walked modules = because (of_link walked) (meanings (objects walked) (zeros walked) modules) >>= λ gs. Ok tt

-- the members link
unfoldable pub check_links : Walked → Result (Unit {0}) Skip
check_links walked = because of_tls (offsets (blocks walked)) >>= λ modules. resolved walked modules

-- ---- the whole

-- what is asked of a name's walk: it begins with a program or library, each member has a form, and those of a program link
unfoldable pub fit : (List ℕ → Option ℕ) → List ℕ → Walked → Result (Unit {0}) Skip
fit faults n walked =
    unless (is_static (kind_of walked)) (skips.Static n)
    (all_formed faults (names walked) >>= λ _. if is_program (kind_of walked) then check_links walked else Ok tt)

-- that a name may be prelinked, or the first cause why it may not, by the objects and the form faults of names
abbrev pub prelinkable_by : (List ℕ → Result Object Skip) → (List ℕ → Option ℕ) → List ℕ → Result (Unit {0}) Skip
prelinkable_by objects faults n = walk of_walk objects n >>= fit faults n
