use Rattle.std.proofs.Common.{◌∙◌, sym, ap, Some, ℕ}
use Rattle.std.specs.Option.{option_copied}
use Rattle.pl_image.proofs.ByteLemmas.{object_hit, object_miss, objects_past}
use Rattle.pl_image.proofs.image.loaded_byte.Goals as goal

pub returns-in-Some : goal.returns-in-Some
returns-in-Some c =
    ap (λ (b : ℕ). Some b) c.byte_at.ensures
    ∙ sym (object_hit c.args.objects.now c.loop-object.object-index c.object-item.result c.as_slice.result.now c.args.address c.loop-object-test.true c.object-item.is c.as_slice.ensures c.in-Some.piece.now (sym c.piece_at.ensures ∙ ap option_copied c.in-Some.is))
    ∙ c.loop-object.invariant

pub loop-object-preserved : goal.loop-object-preserved
loop-object-preserved c =
    sym (object_miss c.args.objects.now c.loop-object.object-index c.object-item.result c.as_slice.result.now c.args.address c.loop-object-test.true c.object-item.is c.as_slice.ensures (sym c.piece_at.ensures ∙ ap option_copied c.in_default.is))
    ∙ c.loop-object.invariant

pub returns : goal.returns
returns c = sym (objects_past c.args.objects.now c.loop-object.object-index c.args.address c.loop-object-test.false) ∙ c.loop-object.invariant
