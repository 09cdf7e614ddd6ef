use Rattle.std.proofs.Common.{ℕ, ◌+◌, List, sym, subst, ◌∙◌, arith}
use Rattle.std.proofs.lemmas.Result.{err_from_is_err_and}
use Rattle.pl_cone.specs.Needs.{entered}
use Rattle.pl_cone.specs.Table.{IsWalkAt, walk_at}
use Rattle.pl_cone.proofs.NeedLaws.{files_few}
use Rattle.pl_cone.proofs.UnderLaws.{under_begins, under_ends, under_more, under_stops, walk_at_is}
use Rattle.pl_cone.proofs.WalkingLaws.{answers_err, ready_after}
use Rattle.pl_cone.proofs.walking.NumberWalk.walk_of.Goals as goal

pub begin-requires-clause-row : goal.begin-requires-clause-row
begin-requires-clause-row c = let few = files_few c.args.needs.now c.requires.folder.needs in omega (arith, few, c.requires.row)

pub loop-index-init : goal.loop-index-init
loop-index-init c = under_begins c.args.needs.now c.args.row c.begin.new.self c.in_ok-begin.ensures.begun.walking c.in_ok-begin.ensures.begun.walk c.in_ok-begin.ensures.begun.numbers

pub enter-requires : goal.enter-requires
enter-requires c = record { needs = c.requires.folder.needs; walking = c.loop-index.invariant.walking }

pub returns-in_err-enter-clause-err : goal.returns-in_err-enter-clause-err
returns-in_err-enter-clause-err c =
    let n = c.args.needs.now in
    let i = c.loop-index.index in
    let w = c.loop-index.self in
    let p = err_from_is_err_and c.from_residual-in_err-enter.result c.from_residual-in_err-enter.ensures.1 in
    rw (p.1, p.2)
    (answers_err _ (entered n i w) (walk_at n.files.now c.args.row) (λ refused. walk_at_is n c.requires.folder.needs c.args.row c.requires.row ∙ under_stops n c.requires.folder c.args.row i w c.loop-index.invariant c.loop-index-test.true _ refused)
    c.in_err-enter.ensures.state)

pub loop-index-preserved : goal.loop-index-preserved
loop-index-preserved c =
    under_more c.args.needs.now c.requires.folder c.args.row c.loop-index.index c.loop-index.self c.loop-index.invariant c.loop-index-test.true c.enter.new.self c.in_ok-enter.ensures.more c.in_ok-enter.ensures.walking c.in_ok-enter.ensures.state

pub returns-in_err-enter-clause-walking : goal.returns-in_err-enter-clause-walking
returns-in_err-enter-clause-walking c = ready_after c.args.needs.now (c.args.row + 1) c.enter.new.self c.in_err-enter.ensures.walking (c.in_err-enter.ensures.more.walk ∙ c.loop-index.invariant.walk)

pub returns-in_err-rows-clause-walking : goal.returns-in_err-rows-clause-walking
returns-in_err-rows-clause-walking c = ready_after c.args.needs.now (c.args.row + 1) _ c.loop-index.invariant.walking c.loop-index.invariant.walk

pub returns-clause-walking : goal.returns-clause-walking
returns-clause-walking c = ready_after c.args.needs.now (c.args.row + 1) _ c.loop-index.invariant.walking c.loop-index.invariant.walk

pub returns-clause-ok : goal.returns-clause-ok
returns-clause-ok c =
    let n = c.args.needs.now in
    subst (λ (rows : List ℕ). IsWalkAt n.files.now c.args.row rows) (sym (c.from_vec.ensures ∙ (c.in_ok-rows.ensures.items ∙ c.deref.ensures.value)))
    (under_ends n c.requires.folder.needs c.args.row c.loop-index.index c.loop-index.self c.requires.row c.loop-index-test.false c.loop-index.invariant)
