use Rattle.std.proofs.Common.{◌∙◌, ℕ, List, false, ◌||◌, refl, ap, arith}
use Rattle.std.specs.Prelude.{slice_index_or}
use Rattle.std.proofs.lemmas.List.{take_all}
use Rattle.pl_share.specs.Together.{are_together}
use Rattle.pl_share.proofs.FlagLaws.{first_flags, walk_more}
use Rattle.pl_share.proofs.together.flag_together.Goals as goal

pub loop-walk-init : goal.loop-walk-init
loop-walk-init c = record { long = refl; each = λ j lt. first_flags (slice_index_or c.args.flags.now j false) c.args.want j }

pub loop-walk-preserved : goal.loop-walk-preserved
loop-walk-preserved c = record {
  long = c.flag_with.ensures.long ∙ c.loop-walk.invariant.long;
  each = λ j lt. walk_more c.args.walks.now c.loop-walk.walk-index c.args.want j c.as_slice.result.now c.walk-item.result (slice_index_or c.args.flags.now j false) _ _ c.loop-walk-test.true c.as_slice.ensures c.walk-item.is (c.loop-walk.invariant.each j lt) (c.flag_with.ensures.each j (omega (arith, lt, c.loop-walk.invariant.long)));
}

pub returns-clause-each : goal.returns-clause-each
returns-clause-each c j lt =
    c.loop-walk.invariant.each j lt ∙ ap (λ (z : List (List ℕ)). slice_index_or c.args.flags.now j false || are_together z c.args.want j) (take_all c.loop-walk.walk-index c.args.walks.now (omega arith))
