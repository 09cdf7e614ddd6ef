use Rattle.std.proofs.Common.{◌≡◌, map}
use Rattle.std.specs.List.{list_all}
use Rattle.clap.specs.Words.{found_of, ids_left, rows_of}
use Rattle.pl_words.specs.Found.{has_no_other, is_allowed}
use Rattle.pl_words.proofs.found.has_no_other.Given as goal

abbrev pub invariant-loop-name : goal.invariant-loop-name
invariant-loop-name l =
    list_all (is_allowed (map (λ s. s.now) l.must) (map (λ s. s.now) l.may) (rows_of (found_of l.matches))) (ids_left l.name-iterator)
    ≡ has_no_other (map (λ s. s.now) l.must) (map (λ s. s.now) l.may) (rows_of (found_of l.matches))
