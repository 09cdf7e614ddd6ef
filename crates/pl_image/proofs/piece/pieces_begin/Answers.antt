use Rattle.std.proofs.Common.{◌∙◌, sym, ◌<◌, length, arith}
use Rattle.std.proofs.lemmas.Bool.{eqb-false}
use Rattle.pl_image.proofs.PieceLemmas.{before_first, piece_limit}
use Rattle.pl_image.proofs.piece.pieces_begin.Goals as goal

pub returns-clause-limit : goal.returns-clause-limit
returns-clause-limit c =
    let some : 0 < length c.args.pieces.now = omega (arith, eqb-false (length c.args.pieces.now) 0 (sym c.is_empty.ensures ∙ c.if-is_empty.false)) in
    omega (arith, c.first_word.ensures, piece_limit c.args.pieces.now 0 c.index-pieces-0.result c.requires some c.index-pieces-0.is)

pub returns-clause-before : goal.returns-clause-before
returns-clause-before c = λ a less. before_first c.args.pieces.now c.index-pieces-0.result a c.requires c.index-pieces-0.is (omega (arith, less, c.first_word.ensures))
