use Rattle.std.proofs.Common.{◌≡◌, ℕ, length, get_or, Option, None}
use Rattle.pl_object.proofs.version_places.no_places.Given as goal

abbrev pub invariant-loop-index : goal.invariant-loop-index
invariant-loop-index l = (length l.places.items ≡ l._index) × ((k : ℕ) → ◌≡◌ {A = Option ℕ} (get_or l.places.items k None) None)
