use Rattle.std.proofs.Common.{◌≡◌, List, Option, map, ap, ◌∙◌}
use Rattle.std.specs.Borrow.{Bor}
use Rattle.std.specs.Option.{option_map}
use Rattle.std.proofs.lemmas.List.{take_all}
use Rattle.pl_object.specs.declared.object.Object.{Object}
use Rattle.pl_cone.specs.Table.{folder_objects}
use Rattle.pl_cone.proofs.table.index_of.Goals as goal

pub returns : goal.returns
returns c =
    let told : map (option_map (λ (o : Bor Object). o.now)) c.deref.result.now ≡ folder_objects c.args.files.now =
    ap (λ (os : List (Option (Bor Object))). map (option_map (λ (o : Bor Object). o.now)) os) c.deref.ensures.value ∙ (c.loop-taken.invariant ∙ ap folder_objects (take_all c.loop-taken.taken-index c.args.files.now c.loop-taken-test.false)) in
    rw told at c.of.ensures
