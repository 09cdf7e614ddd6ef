-- The walk of a name: a list that begins with it, to which each object in turn appends the names that it needs, each name once (gABI chapter 5, "Shared Object Dependencies"). That nothing needs a program, and the limit, are this project's profile.
use Rattle.std.specs.Prelude.{◌≡◌, ◌≤◌, ℕ, zero, suc, ◌+◌, ◌-◌, Bool, true, false, not, ◌&&◌, ◌||◌, nat_lt, nat_le, List, [], ◌∷◌, ◌++◌, length, find, Option, Some, None, Result, Ok, slice_get, if◌then◌else◌}
use Rattle.std.specs.List.{list_any}
use Rattle.std.specs.Option.{ok_or}
use Rattle.std.specs.Str.{bytes_eq}
use Rattle.pl_base.specs.Answers.{◌>>=◌, because, unless, unless_found}
use Rattle.pl_base.specs.Each.{run, with_front}
use Rattle.pl_object.specs.declared.object.Object.{Object}
use Rattle.pl_elf.specs.Kinds.{is_program, is_library}
use Rattle.pl_scope.specs.Walking.{Walking, wants}
use Rattle.pl_scope.specs.declared.constants.TheConstants.{MAX_MEMBERS}
use Rattle.pl_scope.specs.declared.fault.WalkFault.{WalkFault}
use Rattle.pl_scope.specs.declared.fault.WalkFault.TheVariants.{NeededIsProgram, TooMany, NotThere, NoMemory}

abbrev pub is_memory : WalkFault → Bool
is_memory NoMemory = true
is_memory (NeededIsProgram _) = false
is_memory (TooMany _) = false
is_memory (NotThere _) = false

-- names with their objects, in order
abbrev pub Walked : Type 0
Walked = List (List ℕ × Object)

-- ---- one object more

-- a name at the end, where it is new
unfoldable pub added : List (List ℕ) → List ℕ → Result (List (List ℕ)) WalkFault
added names n =
    if list_any (λ m. bytes_eq m n) names then Ok names
    else unless (nat_le MAX_MEMBERS (length names)) (TooMany n) (Ok (names ++ n ∷ []))

-- names that were no more than a walk may have are still no more
abbrev pub StayFew : List (List ℕ) → List (List ℕ) → Type 0
StayFew old new = length old ≤ MAX_MEMBERS → length new ≤ MAX_MEMBERS

-- the first name, where it is a program's
abbrev pub program_name : Walking → Option (List ℕ)
program_name w = if w.program then slice_get w.names 0 else None

abbrev pub needed_program : Option (List ℕ) → List (List ℕ) → Option (List ℕ)
needed_program None needed = None
needed_program (Some program) needed = find (λ n. bytes_eq n program) needed

-- an object after the first is a library, and does not need the first, where that is a program
unfoldable pub checked : Walking → List ℕ → Object → Result (Unit {0}) WalkFault
checked w n o =
    unless (nat_lt 0 w.given && not (is_library o.kind)) (NeededIsProgram n)
    (unless_found (needed_program (program_name w) o.needed) NeededIsProgram (Ok tt))

abbrev pub next : Walking → Object → List (List ℕ) → Walking
next w o names = record { names = names; given = w.given + 1; program = w.program || is_program o.kind }

-- the wanted name, n, is given its object, whose needed names are appended in table order
unfoldable pub entered : Walking → List ℕ → Object → Result Walking WalkFault
entered w n o = checked w n o >>= λ _. run added w.names o.needed >>= λ names. Ok (next w o names)

abbrev pub of_wanted : Walking → Object → Option (List ℕ) → Result Walking WalkFault
of_wanted w o None = Ok w
of_wanted w o (Some n) = entered w n o

-- the same, where the name is the one that the walk wants
abbrev pub give : Walking → Object → Result Walking WalkFault
give w o = of_wanted w o (wants w)

-- ---- all objects. A name's object, or why it has none, is what `files` tells; a fault of the walk itself is told by `fault`

-- the next step at the wanted name
abbrev pub at_wanted : {E : Type 0} → Option (List ℕ) → (List ℕ → Result Walked E) → Result Walked E
at_wanted None step = Ok []
at_wanted (Some n) step = step n

-- the wanted name with its object, and those that follow it. `most` bounds their number; a walk has no more
unfoldable pub at_most : {E : Type 0} → (WalkFault → E) → (List ℕ → Result Object E) → ℕ → Walking → Result Walked E
at_most fault files zero w = Ok []
at_most fault files (suc most) w =
    at_wanted (wants w) (λ n. files n >>= λ o. because fault (entered w n o) >>= λ v. at_most fault files most v >>= λ rest. Ok ((n, o) ∷ rest))

-- what is still to come of a walk
unfoldable pub remaining : {E : Type 0} → (WalkFault → E) → (List ℕ → Result Object E) → Walking → Result Walked E
remaining fault files w = at_most fault files (MAX_MEMBERS - w.given) w

-- nothing but the name, whose object was not given yet
abbrev pub begun : List ℕ → Walking
begun name = record { names = name ∷ []; given = 0; program = false }

-- the names of the walk with their objects, or the first refusal
unfoldable pub walk : {E : Type 0} → (WalkFault → E) → (List ℕ → Result Object E) → List ℕ → Result Walked E
walk fault files name = remaining fault files (begun name)

-- what was walked so far, and what is still to come, are the walk of a name
abbrev pub IsUnderWay : {E : Type 0} → (WalkFault → E) → (List ℕ → Result Object E) → List ℕ → Walked → Walking → Type 0
IsUnderWay fault files name walked w = with_front walked (remaining fault files w) ≡ walk fault files name

-- ---- over objects by name

-- a fault stands for itself
abbrev pub itself : {E : Type 0} → E → E
itself fault = fault

-- whatever objects the names have, the whole walk of this name is still to come
abbrev pub BeginsEveryWalk : List ℕ → Walking → Type 0
BeginsEveryWalk name w = (files : List ℕ → Result Object WalkFault) → IsUnderWay itself files name [] w

-- whatever objects the names have, what was walked so far is the whole walk
abbrev pub EndsEveryWalk : Walking → Type 0
EndsEveryWalk w = (files : List ℕ → Result Object WalkFault) (name : List ℕ) (walked : Walked) → IsUnderWay itself files name walked w → walk itself files name ≡ Ok walked

-- whatever objects the names have, this one the wanted name, the walk goes on with one member more
abbrev pub ContinuesEveryWalk : Walking → Object → Walking → Type 0
ContinuesEveryWalk w o next =
    (files : List ℕ → Result Object WalkFault) (name : List ℕ) (walked : Walked) (wanted : List ℕ) → wants w ≡ Some wanted → files wanted ≡ Ok o
    → IsUnderWay itself files name walked w → IsUnderWay itself files name (walked ++ (wanted, o) ∷ []) next

-- the object of a name, or that there is none
abbrev pub object_of : (List ℕ → Option Object) → List ℕ → Result Object WalkFault
object_of objects n = ok_or (objects n) (NotThere n)

-- the walk of a name over the objects that have names
abbrev pub walk_over : (List ℕ → Option Object) → List ℕ → Result Walked WalkFault
walk_over objects name = walk itself (object_of objects) name
