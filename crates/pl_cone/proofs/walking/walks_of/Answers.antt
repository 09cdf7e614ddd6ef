use Rattle.std.proofs.Common.{◌≡◌, ℕ, List, length, subst, arith, rules}
use Rattle.std.specs.Borrow.{Bor}
use Rattle.std.specs.Prelude.{IfErr, IfOk, Err}
use Rattle.std.proofs.lemmas.List.{length-map}
use Rattle.pl_base.specs.Answers.{Answers}
use Rattle.pl_cone.specs.Needs.{all_names}
use Rattle.pl_cone.specs.Skips.{skip_is_memory}
use Rattle.pl_cone.specs.Table.{IsWalkAt, walk_at}
use Rattle.pl_cone.specs.declared.taken.Taken.{Taken}
use Rattle.pl_cone.proofs.ColumnLaws.{first_more}
use Rattle.pl_cone.proofs.NeedLaws.{files_small}
use Rattle.pl_cone.proofs.WalkingLaws.{none_ready}
use Rattle.pl_cone.proofs.walking.walks_of.Goals as goal

pub loop-row-init : goal.loop-row-init
loop-row-init c =
    let names = c.in_ok-needs.needs.names in
    let same : c.len.result ≡ length (all_names c.in_ok-needs.needs) = omega (arith, length-map names.items (λ (x : Bor (List ℕ)). x.now), c.len.ensures, names.ok) in
    record { ready = none_ready c.in_ok-needs.needs _ c.len.result same (c.in_ok-from_elem.ensures.items_if_clones_equal (λ y e. e)); walks = search rules }

pub overflow_cast-row : goal.overflow_cast-row
overflow_cast-row c = let small = files_small c.in_ok-needs.needs c.in_ok-needs.ensures.needs c.args.files.now c.in_ok-needs.ensures.files in omega (arith, small, c.loop-row-test.true)

pub loop-row-preserved : goal.loop-row-preserved
loop-row-preserved c =
    let r = c.walk_of-walk.result in
    record {
      ready = c.walk_of-walk.ensures.walking;
      walks = first_more c.args.files.now c.loop-row.row r c.loop-row.walks c.add_walk.new.walks
          (subst (λ (ts : List Taken). IfOk r (IsWalkAt ts c.loop-row.row)) c.in_ok-needs.ensures.files c.walk_of-walk.ensures.ok)
          (subst (λ (ts : List Taken). IfErr r (λ skip. Answers skip_is_memory (Err skip) (walk_at ts c.loop-row.row))) c.in_ok-needs.ensures.files c.walk_of-walk.ensures.err) c.in_ok-add_walk.ensures c.loop-row.invariant.walks;
    }
