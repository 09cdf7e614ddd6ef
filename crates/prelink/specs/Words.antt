-- The words that a run is given.
use Rattle.std.specs.Prelude.{List, [], drop, Result, Ok, Err}
use Rattle.std.specs.Vec.Iter.{into_iter_items}
use Rattle.std.specs.declared.vec.IntoIter.{IntoIter}

-- the words after the first, by the answer of the system; none where it gave an error
abbrev pub after_first : {X A E : Type 0} → Result (IntoIter X A) E → List X
after_first (Ok words) = drop 1 (into_iter_items words)
after_first (Err error) = []
