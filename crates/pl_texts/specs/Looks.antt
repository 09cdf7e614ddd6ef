-- The names whose files the walk of a name looks at, one after the other.
use Rattle.std.specs.Prelude.{ℕ, zero, suc, List, [], ◌∷◌, count_by, Option, Some, None, Result, Ok, Err}
use Rattle.pl_base.specs.Answers.{◌>>=◌, because}
use Rattle.pl_base.specs.Names.{is_valid_name}
use Rattle.pl_object.specs.declared.object.Object.{Object}
use Rattle.pl_scope.specs.Walk as walk
use Rattle.pl_scope.specs.Walking.{Walking, wants}
use Rattle.pl_scope.specs.declared.constants.TheConstants.{MAX_MEMBERS}
use Rattle.pl_loader.specs.Walk.{walk_fault}
use Rattle.pl_texts.specs.declared.cause.Cause.{Cause}
use Rattle.pl_texts.specs.declared.cause.Cause.TheVariants as causes

-- the object of a name, or why it has none
abbrev pub ObjectOf : Type 0
ObjectOf = List ℕ → Result Object Cause

-- the walk after the wanted name, n, was given its object, or the cause why it was not
abbrev pub stepped : ObjectOf → Walking → List ℕ → Result Walking Cause
stepped object w n = object n >>= λ o. because (walk_fault causes.Load) (walk.entered w n o)

abbrev pub names_from : Option (List ℕ) → (List ℕ → List (List ℕ)) → List (List ℕ)
names_from None rest = []
names_from (Some n) rest = n ∷ rest n

abbrev pub unless_refused : Result Walking Cause → (Walking → List (List ℕ)) → List (List ℕ)
unless_refused (Ok w) rest = rest w
unless_refused (Err cause) rest = []

-- the wanted name and those that follow it, up to the first whose file is not there or refused. `most` bounds their number; a walk has no more
unfoldable pub looks_from : ObjectOf → ℕ → Walking → List (List ℕ)
looks_from object zero w = []
looks_from object (suc most) w = names_from (wants w) (λ n. unless_refused (stepped object w n) (looks_from object most))

-- all names whose files the walk of a name looks at
unfoldable pub looks : ObjectOf → List ℕ → List (List ℕ)
looks object name = looks_from object MAX_MEMBERS (walk.begun name)

-- how many files are taken: no other name than a valid one has a file
abbrev pub takes : ObjectOf → List ℕ → ℕ
takes object name = count_by is_valid_name (looks object name)
