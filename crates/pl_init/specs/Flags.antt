-- Tables of flags, as the code keeps them.
use Rattle.std.specs.Prelude.{◌≡◌, ℕ, ◌+◌, ◌*◌, ◌<◌, ◌≤◌, Bool, false, not, ◌&&◌, ◌||◌, List, length, slice_index_or}
use Rattle.std.specs.List.{All, list_all, range_with_len}
use Rattle.pl_scope.specs.declared.constants.TheConstants.{MAX_MEMBERS}
use Rattle.pl_init.specs.declared.relation.ReachRow.{ReachRow}
use Rattle.pl_init.specs.Right.{reaches}
use Rattle.pl_init.specs.Lawful.{precedes}

-- a flag for each member, set where a test holds
pub record AreFlags (flags : List Bool) (test : ℕ → Bool) : Type 0 where
  pub long : length flags ≡ MAX_MEMBERS
  pub each : (k : ℕ) → k < MAX_MEMBERS → slice_index_or flags k false ≡ test k

-- a flag for each two members, set where a row leads from the first to the second
pub record IsTable (cells : List Bool) (rows : List ReachRow) : Type 0 where
  pub long : length cells ≡ MAX_MEMBERS * MAX_MEMBERS
  pub each : (i j : ℕ) → i < MAX_MEMBERS → j < MAX_MEMBERS → slice_index_or cells (i * MAX_MEMBERS + j) false ≡ reaches rows i j

-- few members, whose needs are members
pub record IsGraph (graph : List (List ℕ)) : Type 0 where
  pub few : length graph ≤ MAX_MEMBERS
  pub numbers : All (λ needs. All (λ k. k < length graph) needs) graph

-- all of the members, so many, that have to come before one are flagged
abbrev pub is_flagged_ready : List ReachRow → ℕ → List Bool → ℕ → Bool
is_flagged_ready rows count flags m = list_all (λ k. slice_index_or flags k false || not (precedes rows k m)) (range_with_len 0 count)

-- a member that is not flagged is ready
abbrev pub is_flagged_next : List ReachRow → ℕ → List Bool → ℕ → Bool
is_flagged_next rows count flags m = not (slice_index_or flags m false) && is_flagged_ready rows count flags m
