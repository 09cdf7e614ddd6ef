-- The place of a key among entries in the order of their keys.
use Rattle.std.specs.Prelude.{◌≡◌, ◌≤◌, ℕ, true, false, nat_lt, List, length}
use Rattle.std.specs.List.{AllWithin}
use Rattle.std.specs.List.Sorted.{IsPartitionPoint}
use Rattle.pl_scope.specs.declared.entries.Entry.{Entry}

-- the entries before a place have lower keys than a number
pub record IsBehind (es : List Entry) (key place : ℕ) : Type 0 where
  pub bound : place ≤ length es
  pub lower : AllWithin (λ e. nat_lt e.key key ≡ true) es 0 place

-- the place of the first entry whose key is not lower than a number
pub record IsFirst (es : List Entry) (key place : ℕ) : Type 0 where
  pub bound : place ≤ length es
  pub point : IsPartitionPoint (λ e. nat_lt e.key key ≡ true) (λ e. nat_lt e.key key ≡ false) es place
