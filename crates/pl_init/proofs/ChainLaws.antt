-- Chains of needed members, by numbers.
use Rattle.std.proofs.Common.{◌≡◌, ℕ, true, List}
use Rattle.pl_init.specs.Graph.{needs, has_number}

-- a chain of one or more needed members
pub data Chain (graph : List (List ℕ)) (i : ℕ) : ℕ → Type 0 where
  Edge : (j : ℕ) → has_number (needs graph i) j ≡ true → Chain graph i j
  Next : (j k : ℕ) → Chain graph i j → has_number (needs graph j) k ≡ true → Chain graph i k

-- one chain after another
pub joined : (graph : List (List ℕ)) (i j k : ℕ) → Chain graph i j → Chain graph j k → Chain graph i k
joined graph i j k front (Edge _ e) = Next j k front e
joined graph i j k front (Next m _ back e) = Next m k (joined graph i j m front back) e
