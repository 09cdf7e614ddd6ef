use Rattle.std.proofs.Common.{arith, refl, sym, ap, ◌∙◌}
use Rattle.std.specs.Option.{option_copied}
use Rattle.pl_image.proofs.PlainLemmas.{plain_of}
use Rattle.pl_image.proofs.image.Image.plain_word.Goals as goal

pub returns-in-Some : goal.returns-in-Some
returns-in-Some c =
    plain_of c.args.self.now c.args.pieces.now c.in-Some.piece.now c.args.touching.now c.args.number c.stored_word.result c.requires.own c.requires.touching (omega arith) (c.if-not-is_shown.ensures refl)
    (sym c.piece_at.ensures ∙ ap option_copied c.in-Some.is) c.stored_word.ensures.whole c.stored_word.ensures.value
