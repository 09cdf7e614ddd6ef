use Rattle.std.proofs.Common.{length, rules, refl}
use Rattle.std.proofs.lemmas.List.{length_push}
use Rattle.std.proofs.lemmas.Slice.Zip.{zip_turn, zip_end}
use Rattle.pl_loader.proofs.BoundsLaws.{at_turn, placed_more, placed_done}
use Rattle.pl_loader.proofs.bounds.all_placed.Goals as goal

pub placed-requires : goal.placed-requires
placed-requires c =
    let t = zip_turn c.args.files.now c.args.places.now c.loop-file.yielded c.into_iter-file-iterator.result c.loop-file.file-iterator c.next.new.self c.next.result (search rules) (search rules) c.loop-file.yielded_by (c.in-Some.file, c.in-Some.place) c.in-Some.is c.next.ensures.steps in
    at_turn c.args.files.now c.args.places.now (length c.loop-file.yielded) c.in-Some.file.now c.in-Some.place.now c.requires t.0 (t.2 c.in-Some.file.now) (t.3 c.in-Some.place.now)

pub loop-file-preserved : goal.loop-file-preserved
loop-file-preserved c =
    let t = zip_turn c.args.files.now c.args.places.now c.loop-file.yielded c.into_iter-file-iterator.result c.loop-file.file-iterator c.next.new.self c.next.result (search rules) (search rules) c.loop-file.yielded_by (c.in-Some.file, c.in-Some.place) c.in-Some.is c.next.ensures.steps in
    rw (length_push c.loop-file.yielded (c.in-Some.file, c.in-Some.place))
    (placed_more c.args.files.now c.args.places.now (length c.loop-file.yielded) c.in-Some.file.now c.in-Some.place.now c.loop-file.objects c.push.new.self t.0 t.1 (t.2 c.in-Some.file.now) (t.3 c.in-Some.place.now) c.loop-file.invariant (rw (c.in_ok-push.ensures.ok, c.in_ok-placed.ensures) refl))

pub returns : goal.returns
returns c =
    let count = zip_end c.args.files.now c.args.places.now c.loop-file.yielded c.into_iter-file-iterator.result c.loop-file.file-iterator c.next.new.self c.next.result (search rules) (search rules) c.loop-file.yielded_by c.in-None.is c.next.ensures.steps in
    placed_done c.args.files.now c.args.places.now (length c.loop-file.yielded) c.loop-file.objects count c.loop-file.invariant
