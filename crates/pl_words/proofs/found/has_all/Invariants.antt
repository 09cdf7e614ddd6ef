use Rattle.std.proofs.Common.{◌≡◌, drop, map}
use Rattle.std.specs.List.{list_all}
use Rattle.clap.specs.Words.{found_of, rows_of}
use Rattle.pl_words.specs.Found.{is_given}
use Rattle.pl_words.proofs.found.has_all.Given as goal

abbrev pub invariant-loop-name : goal.invariant-loop-name
invariant-loop-name l =
    list_all (is_given (rows_of (found_of l.matches))) (map (λ s. s.now) (drop l.name-index l.names))
    ≡ list_all (is_given (rows_of (found_of l.matches))) (map (λ s. s.now) l.names)
