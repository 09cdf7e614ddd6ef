-- Answers of look-ups that are kept, one place a member and symbol, for the class of relocations that asked last.
use Rattle.std.specs.Prelude.{◌≡◌, ◌<◌, ℕ, Bool, not, ◌&&◌, ◌==◌, List, length, replicate, Option, Some, None, IsSome, slice_get, if◌then◌else◌}
use Rattle.std.specs.Option.{ForSome, option_and_then}
use Rattle.pl_elf.specs.declared.constants.TheConstants.{R_X86_64_COPY, R_X86_64_JUMP_SLOT}
use Rattle.pl_object.specs.declared.object.Object.{Object}
use Rattle.pl_scope.specs.Finds.{finds}
use Rattle.pl_scope.specs.Folder.{IsWay}
use Rattle.pl_scope.specs.ScopeIndex.{IsIndex}
use Rattle.pl_scope.specs.declared.answers.Answer.{Answer}
use Rattle.pl_scope.specs.declared.answers.Answer.TheVariants.{Unasked, Nothing, There}
use Rattle.pl_scope.specs.declared.answers.AskedBy.{AskedBy}
use Rattle.pl_scope.specs.declared.answers.AskedBy.TheVariants.{Jump, Copy, Other}
use Rattle.pl_scope.specs.ShortIndex.{IsShortIndex}
use Rattle.pl_scope.specs.declared.kept.KeptIndex.{KeptIndex}
use Rattle.pl_scope.specs.declared.kept.KeptIndex.TheVariants as indexes
use Rattle.pl_scope.specs.declared.found.Found.{Found}
use Rattle.pl_scope.specs.declared.lookup.Way.{Way}

-- nothing was asked yet
abbrev pub unasked : Answer
unasked = Unasked

-- the class of a kind of relocation
unfoldable pub class_of : ℕ → AskedBy
class_of kind = if kind == R_X86_64_JUMP_SLOT then Jump else (if kind == R_X86_64_COPY then Copy else Other)

-- whether a kind of relocation is of a class
unfoldable pub has_kind : AskedBy → ℕ → Bool
has_kind Jump kind = kind == R_X86_64_JUMP_SLOT
has_kind Copy kind = kind == R_X86_64_COPY
has_kind Other kind = not (kind == R_X86_64_JUMP_SLOT) && not (kind == R_X86_64_COPY)

-- what a kind of relocation found
abbrev pub answer_for : ℕ → Option Found → Answer
answer_for kind None = Nothing (class_of kind)
answer_for kind (Some found) = There (class_of kind) found

-- what is kept for a kind of relocation, if one of its class asked last
unfoldable pub answer_of : Answer → ℕ → Option (Option Found)
answer_of Unasked kind = None
answer_of (Nothing class) kind = if has_kind class kind then Some None else None
answer_of (There class found) kind = if has_kind class kind then Some (Some found) else None

-- the place of a member's symbol
abbrev pub place : List (List Answer) → ℕ → ℕ → Option Answer
place rows m s = option_and_then (λ row. slice_get row s) (slice_get rows m)

-- every answer that is kept there is the definition's
abbrev pub AreRight : List Object → ℕ → ℕ → Answer → Type 0
AreRight objects m s a = (kind : ℕ) → ForSome (answer_of a kind) (λ found. found ≡ finds objects (record { member = m; symbol = s; kind = kind }))

-- there is a place for each symbol of each object, and every answer that is kept is the definition's
pub record IsKept (objects : List Object) (rows : List (List Answer)) : Type 0 where
  pub there : (m s : ℕ) (o : Object) → slice_get objects m ≡ Some o → s < length o.symbols → IsSome (place rows m s)
  pub right : (m s : ℕ) (a : Answer) → place rows m s ≡ Some a → AreRight objects m s a

-- the places of an object of which nothing was asked yet
abbrev pub unasked_row : Object → List Answer
unasked_row o = replicate (length o.symbols) unasked

-- the definers of all members
abbrev pub IsKeptIndex : List Object → KeptIndex → Type 0
IsKeptIndex objects (indexes.Short index) = IsShortIndex objects index
IsKeptIndex objects (indexes.Lists index) = IsIndex objects index

-- a way to search objects whose definers an index has
abbrev pub IsWayBy : KeptIndex → Way → Type 0
IsWayBy index way = (objects : List Object) → IsKeptIndex objects index → IsWay objects way

-- beside the answers, the definers of all members
pub record IsKeeping (objects : List Object) (definers : KeptIndex) (answers : List (List Answer)) : Type 0 where
  pub index : IsKeptIndex objects definers
  pub rows : IsKept objects answers
