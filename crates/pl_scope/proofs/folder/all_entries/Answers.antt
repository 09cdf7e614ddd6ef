use Rattle.std.proofs.Common.{◌≡◌, ◌<◌, length, map, get_or, Option, sym, ap, ◌∙◌, arith}
use Rattle.std.specs.Borrow.{Bor}
use Rattle.std.specs.Option.{option_map}
use Rattle.std.proofs.lemmas.List.{length-map, get_or-map}
use Rattle.pl_object.specs.declared.object.Object.{Object}
use Rattle.pl_scope.proofs.FolderLaws.{all_more, all_done, hashes_are}
use Rattle.pl_scope.proofs.folder.all_entries.Goals as goal

abbrev seen : Option (Bor Object) → Option Object
seen o = option_map (λ x. x.now) o

pub loop-row-preserved : goal.loop-row-preserved
loop-row-preserved c =
    let objects = c.args.objects.now in
    let row = c.loop-row.row in
    let item = c.index-objects-row.result in
    let lt : row < length objects = c.loop-row-test.true in
    let at : get_or (map seen objects) row (seen item) ≡ seen item = get_or-map seen objects row item (seen item) lt ∙ ap seen (sym c.index-objects-row.is) in
    let long : row < length (map seen objects) = omega (arith, length-map objects seen, lt) in
    all_more (map seen objects) row (seen item) (seen item) c.loop-row.entries.items c.add_row.new.entries.items long at c.in_ok-add_row.ensures c.loop-row.invariant

pub returns : goal.returns
returns c =
    let objects = c.args.objects.now in
    let long : length (map seen objects) ≡ length objects = length-map objects seen in
    let all = all_done (map seen objects) c.loop-row.row c.loop-row.entries.items (omega (arith, long, c.loop-row-test.false)) c.loop-row.invariant in
    record { all = all; hashes = hashes_are (map seen objects) c.loop-row.entries.items all }
