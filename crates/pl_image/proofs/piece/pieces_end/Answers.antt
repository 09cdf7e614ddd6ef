use Rattle.std.proofs.Common.{◌∙◌, sym, ◌+◌, ◌-◌, ◌*◌, ◌/◌, ◌<◌, ◌≤◌, length, subst, arith}
use Rattle.std.proofs.lemmas.Bool.{eqb-false}
use Rattle.pl_base.specs.Memory.{Piece}
use Rattle.pl_image.proofs.PieceLemmas.{piece_limit, past_last}
use Rattle.pl_image.proofs.piece.pieces_end.Goals as goal

pub end-requires : goal.end-requires
end-requires c =
    let some : 0 < length c.args.pieces.now = omega (arith, eqb-false (length c.args.pieces.now) 0 (sym c.is_empty.ensures ∙ c.if-is_empty.false)) in
    piece_limit c.args.pieces.now (length c.args.pieces.now - 1) c.index-pieces-pieces.result c.requires (omega arith) c.index-pieces-pieces.is

pub returns-clause-past : goal.returns-clause-past
returns-clause-past c = λ a past.
    let some : 0 < length c.args.pieces.now = omega (arith, eqb-false (length c.args.pieces.now) 0 (sym c.is_empty.ensures ∙ c.if-is_empty.false)) in
    let last : c.index-pieces-pieces.result.start + c.index-pieces-pieces.result.size ≤ 8 * ((c.end.result + 7) / 8) = omega (arith, c.end.ensures.value) in
    past_last c.args.pieces.now c.index-pieces-pieces.result ((c.end.result + 7) / 8) a c.requires some (subst (λ (p : Piece). p.start + p.size ≤ 8 * ((c.end.result + 7) / 8)) c.index-pieces-pieces.is last) past
