use Rattle.std.proofs.Common.{subst}
use Rattle.std.proofs.lemmas.Result.{IfOk-weaker}
use Rattle.pl_base.specs.Answers.{AnswersAs}
use Rattle.pl_place.specs.Placing.{AllInHoles, chosen, is_memory}
use Rattle.pl_place.proofs.PlacedLaws.{all_fit, all_apart, answers_chosen, fit_free}
use Rattle.pl_place.proofs.placing.place_all.Goals as goal

pub returns-clause-fit : goal.returns-clause-fit
returns-clause-fit g c =
    IfOk-weaker c.placed.result _ _ (λ starts placed. subst (λ holes. AllInHoles holes c.args.wants.now starts.items) c.in_ok-left.ensures.value (all_fit _ c.in_ok-left.field-0 c.args.wants.now starts.items placed)) c.placed.ensures.places

pub returns-clause-free : goal.returns-clause-free
returns-clause-free g c = IfOk-weaker c.placed.result _ _ (λ starts fit. fit_free c.args.region c.args.busy.now c.args.wants.now starts.items fit) (returns-clause-fit g c)

pub returns-clause-apart : goal.returns-clause-apart
returns-clause-apart g c = IfOk-weaker c.placed.result _ _ (λ starts placed. all_apart _ c.in_ok-left.field-0 c.args.wants.now starts.items placed) c.placed.ensures.places

pub returns-clause-exact : goal.returns-clause-exact
returns-clause-exact g c = λ choose follows.
    subst (λ holes. AnswersAs (λ starts. starts.items) is_memory c.placed.result (chosen choose holes c.args.wants.now)) c.in_ok-left.ensures.value
    (answers_chosen (λ starts. starts.items) _ choose c.in_ok-left.field-0 c.args.wants.now c.placed.result follows c.placed.ensures.places c.placed.ensures.fault)
