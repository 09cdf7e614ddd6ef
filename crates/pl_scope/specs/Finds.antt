-- Which symbol a reference finds in a scope (gABI chapter 5, "Shared Object Dependencies" and DT_SYMBOLIC; chapter 4, "Symbol Table"; x86-64 psABI, "Relocation" on R_X86_64_COPY).
use Rattle.std.specs.Prelude.{ℕ, ◌-◌, Bool, not, ◌&&◌, ◌||◌, ◌==◌, nat_lt, List, [], ◌∷◌, length, Option, Some, None, slice_get, if◌then◌else◌}
use Rattle.std.specs.Option.{option_map, option_or, option_and_then}
use Rattle.std.specs.List.{range_with_len}
use Rattle.pl_sym.specs.Symbol.{is_undefined, is_local}
use Rattle.pl_sym.specs.declared.constants.TheConstants.{STV_DEFAULT}
use Rattle.pl_sym.specs.declared.symbol.Symbol.{Symbol}
use Rattle.pl_sym.specs.declared.class.Class.{Class}
use Rattle.pl_sym.specs.declared.class.Class.TheVariants.{Jump, Other}
use Rattle.pl_ver.specs.Fields.{index_of}
use Rattle.pl_ver.specs.declared.constants.TheConstants.{VER_NDX_GLOBAL}
use Rattle.pl_object.specs.SymbolClauses.{version_name}
use Rattle.pl_elf.specs.declared.constants.TheConstants.{R_X86_64_COPY, R_X86_64_JUMP_SLOT}
use Rattle.pl_object.specs.declared.object.Object.{Object}
use Rattle.pl_scope.specs.Matching.{matching}
use Rattle.pl_scope.specs.declared.reference.Reference.{Reference}
use Rattle.pl_scope.specs.Scope.{objects}
use Rattle.pl_scope.specs.Walk.{Walked}
use Rattle.pl_scope.specs.declared.found.Found.{Found}
use Rattle.pl_scope.specs.declared.wanted.Wanted.{Wanted}

-- ---- the search

abbrev pub found_in : ℕ → Option ℕ → Option Found
found_in member None = None
found_in member (Some symbol) = Some (record { member = member; symbol = symbol })

abbrev pub of_object : List ℕ → Class → Option (List ℕ) → ℕ → Option Object → Option Found
of_object name class version member None = None
of_object name class version member (Some o) = found_in member (matching o name class version)

-- the matching definer of one member
unfoldable pub in_member : List Object → List ℕ → Class → Option (List ℕ) → ℕ → Option Found
in_member objects name class version member = of_object name class version member (slice_get objects member)

-- the matching definer of one member, of what is wanted
abbrev pub in_member_for : Walked → Wanted → ℕ → Option Found
in_member_for scope w member = in_member (objects scope) w.name.now w.class (option_map (λ x. x.now) w.version) member

-- that of the first of these members that has one
unfoldable pub first_in : List Object → List ℕ → Class → Option (List ℕ) → List ℕ → Option Found
first_in objects name class version [] = None
first_in objects name class version (member ∷ members) =
    option_or (in_member objects name class version member) (first_in objects name class version members)

-- ---- what a reference asks for

-- the reference's own symbol
abbrev pub own_symbol : List Object → Reference → Option Symbol
own_symbol objects r = option_and_then (λ o. slice_get o.symbols r.symbol) (slice_get objects r.member)

-- a local symbol, or a defined one that is not visible in the default way
unfoldable pub binds_itself : Symbol → Bool
binds_itself s = is_local s || (not (s.visibility == STV_DEFAULT) && not (is_undefined s))

unfoldable pub class_of : ℕ → Class
class_of kind = if kind == R_X86_64_JUMP_SLOT then Jump else Other

-- the version that a symbol asks for, where its index stands for one
unfoldable pub version_wanted : Object → Symbol → Option (List ℕ)
version_wanted o s = if nat_lt VER_NDX_GLOBAL (index_of s.version) then version_name o.versions s.version else None

-- the members from one on
abbrev pub from_member : ℕ → ℕ → List ℕ
from_member start count = range_with_len start (count - start)

-- the members that are searched: all in order, for a symbolic object's own references that object before them; for a copy all but the first, which is the program
abbrev pub searched : Object → Reference → ℕ → List ℕ
searched o r count =
    if r.kind == R_X86_64_COPY then from_member 1 count
    else (if o.symbolic then r.member ∷ from_member 0 count else from_member 0 count)

-- the matching definer of the first member from one on that has one
abbrev pub first_match : Walked → Wanted → ℕ → Option Found
first_match members wanted start =
    first_in (objects members) wanted.name.now wanted.class (option_map (λ x. x.now) wanted.version) (from_member start (length members))

unfoldable pub found_for : List Object → Reference → Object → Symbol → Option Found
found_for objects r o s =
    first_in objects s.name (class_of r.kind) (version_wanted o s) (searched o r (length objects))

abbrev pub of_symbol : List Object → Reference → Object → Option Symbol → Option Found
of_symbol objects r o None = None
of_symbol objects r o (Some s) =
    if binds_itself s then Some (record { member = r.member; symbol = r.symbol }) else found_for objects r o s

abbrev pub of_member : List Object → Reference → Option Object → Option Found
of_member objects r None = None
of_member objects r (Some o) = of_symbol objects r o (slice_get o.symbols r.symbol)

-- the definer that a reference finds
unfoldable pub finds : List Object → Reference → Option Found
finds objects r = of_member objects r (slice_get objects r.member)
