-- How far a walk over needed names has come.
use Rattle.std.specs.Prelude.{ℕ, ◌≤◌, Bool, List, length, Option, slice_get}
use Rattle.pl_scope.specs.declared.constants.TheConstants.{MAX_MEMBERS}

-- the names so far, in order; how many of them were given their objects; and whether one of these objects is a program
pub record Walking : Type 0 where
  pub names : List (List ℕ)
  pub given : ℕ
  pub program : Bool

-- the name whose object comes next; none where every name was given its object
abbrev pub wants : Walking → Option (List ℕ)
wants w = slice_get w.names w.given

-- what holds however far a walk has come
pub record IsWalking (w : Walking) : Type 0 where
  pub within : w.given ≤ length w.names
  pub few : length w.names ≤ MAX_MEMBERS
