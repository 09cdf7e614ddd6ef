use Rattle.std.proofs.Common.{◌≡◌, ◌++◌, true}
use Rattle.std.specs.List.{list_all}
use Rattle.pl_base.specs.Names.{is_valid_name}
use Rattle.pl_script.specs.Grammar as spec
use Rattle.pl_script.proofs.lines.valid_words.Given as goal

abbrev pub invariant-loop-piece : goal.invariant-loop-piece
invariant-loop-piece l = record {
  whole : l.words.items ++ l.piece-iterator ≡ spec.words_of l.fn.line;
  valid : list_all is_valid_name l.words.items ≡ true;
}
