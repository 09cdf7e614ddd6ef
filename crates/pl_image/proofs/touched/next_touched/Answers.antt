use Rattle.std.proofs.Common.{◌^◌, arith}
use Rattle.std.proofs.lemmas.Bool.{ltb-false}
use Rattle.std.specs.Prelude.{◌==◌}
use Rattle.std.proofs.lemmas.Bool.Decides.{nat_tests}
use Rattle.std.proofs.lemmas.List.Folds.{list_any_at}
use Rattle.pl_image.proofs.TouchLemmas.{none_touched}
use Rattle.pl_image.proofs.touched.next_touched.Goals as goal

pub returns-then-index-touched-clause-within : goal.returns-then-index-touched-clause-within
returns-then-index-touched-clause-within c =
    let first = ltb-false _ _ (c.before_by-index.ensures.point.1 c.before_by-index.result (record { number = 0; patch = 0 }) (omega arith) c.if-index-touched.true) in
    (omega (arith, first, c.min.ensures, c.requires.limit), omega (arith, c.min.ensures))

pub returns-then-index-touched-clause-none : goal.returns-then-index-touched-clause-none
returns-then-index-touched-clause-none c = λ n low high.
    none_touched c.args.touched.now c.args.from c.min.result c.before_by-index.result n (record { number = 0; patch = 0 }) c.requires.rising c.before_by-index.ensures.point (λ lt. omega (arith, c.min.ensures)) low high

pub returns-else-index-touched-clause-none : goal.returns-else-index-touched-clause-none
returns-else-index-touched-clause-none c = λ n low high.
    none_touched c.args.touched.now c.args.from (2 ^ 44) c.before_by-index.result n (record { number = 0; patch = 0 }) c.requires.rising c.before_by-index.ensures.point (λ lt. absurd (omega (arith, c.if-index-touched.false))) low high

pub returns-then-index-touched-clause-found : goal.returns-then-index-touched-clause-found
returns-then-index-touched-clause-found c = λ lt.
    list_any_at (λ t. t.number == c.min.result) c.args.touched.now c.before_by-index.result (record { number = 0; patch = 0 }) (omega (arith, c.if-index-touched.true)) (grind (arith, nat_tests, lt, c.min.ensures))
