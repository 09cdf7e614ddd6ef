use Rattle.std.proofs.Common.{◌∙◌, sym, ap, ℕ, cond}
use Rattle.std.specs.Prelude.{fold}
use Rattle.std.specs.Option.{option_copied}
use Rattle.pl_image.specs.Image.{any_masked}
use Rattle.pl_image.specs.Index.{laid}
use Rattle.pl_image.proofs.ByteLemmas.{own_missed, own_found}
use Rattle.pl_image.proofs.image.Image.own_byte.Goals as goal

pub returns-in-None : goal.returns-in-None
returns-in-None c = sym (own_missed c.args.self.now c.args.pieces.now c.requires.own c.args.address (sym c.piece_at.ensures ∙ ap option_copied c.in-None.is))

pub returns-in-Some : goal.returns-in-Some
returns-in-Some c =
    c.shown.ensures
    ∙ ap (λ (b : ℕ). cond (any_masked c.args.self.now.objects c.args.address) 0 (fold (laid c.args.address) b c.args.self.now.patches)) c.byte_at.ensures
    ∙ sym (own_found c.args.self.now c.args.pieces.now c.requires.own c.args.address c.in-Some.piece.now (sym c.piece_at.ensures ∙ ap option_copied c.in-Some.is))
