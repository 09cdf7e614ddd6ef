use Rattle.std.proofs.Common.{◌≡◌, ℕ, Bool, [], ◌∷◌, ◌++◌, Option, Some, None, ap, ◌∙◌, arith}
use Rattle.std.specs.Prelude.{is_some}
use Rattle.std.specs.Bool.{then_some}
use Rattle.pl_slots.specs.declared.slot.Want.{Want}
use Rattle.pl_cone.specs.Slots.{is_there, position_if}
use Rattle.pl_cone.proofs.planning.add_want.Goals as goal

position_by : (want : Option Want) (some : Bool) (position : Option ℕ) (count before : ℕ) → some ≡ is_some want → position ≡ then_some some count → count ≡ before → position ≡ position_if (is_there want) before
position_by None some position count before is same size = same ∙ ap (λ (b : Bool). then_some b count) is
position_by (Some want) some position count before is same size = same ∙ (ap (λ (b : Bool). then_some b count) is ∙ ap (λ (n : ℕ). Some n) size)

pub returns : goal.returns
returns c = (
  c.in_ok-push_some.ensures.ok,
  c.in_ok-push.ensures.items ∙ ap (λ (p : Option ℕ). c.args.wanting.now.positions.items ++ p ∷ []) (position_by c.args.want _ _ _ _ c.is_some.ensures c.then_some-position.ensures (omega arith)),
)
