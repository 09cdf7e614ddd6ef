use Rattle.std.proofs.Common.{◌≡◌, ◌<◌, Some, length, map, get_or, refl, sym, subst, arith}
use Rattle.std.specs.Prelude.{slice_get}
use Rattle.std.proofs.lemmas.List.{length-map}
use Rattle.std.proofs.lemmas.Option.{slice_get_read}
use Rattle.pl_scope.specs.Scope.{objects}
use Rattle.pl_scope.specs.Kept.{IsKept}
use Rattle.pl_scope.proofs.KeptLaws.{items_of, row_within, place_within, place_below, vec_at, vec_written, write_kept}
use Rattle.pl_scope.proofs.kept.keep.Goals as goal

pub bounds-rows-reference : goal.bounds-rows-reference
bounds-rows-reference c =
    let rows = c.args.rows.now in
    let r = c.args.reference in
    omega (arith, length-map rows items_of, row_within (objects c.args.scope.now) (map items_of rows) r.member r.symbol c.requires.kept c.requires.reference)

pub index_mut-requires : goal.index_mut-requires
index_mut-requires c =
    let below = place_below (objects c.args.scope.now) c.args.rows.now c.args.reference c.index-rows-reference.result c.requires.kept c.requires.reference c.index-rows-reference.is in
    rw (← c.index-rows-reference.is) below

pub returns : goal.returns
returns c =
    let rows = c.args.rows.now in
    let r = c.args.reference in
    let os = objects c.args.scope.now in
    let row = c.index-rows-reference.result in
    let old = c.index_mut.result.now in
    let lt : r.member < length rows = omega (arith, length-map rows items_of, row_within os (map items_of rows) r.member r.symbol c.requires.kept c.requires.reference) in
    let row_at = vec_at rows r.member row lt c.index-rows-reference.is in
    let within : r.symbol < length row.items = place_within os (map items_of rows) r.member r.symbol row.items c.requires.kept c.requires.reference row_at in
    let value : old ≡ get_or row.items r.symbol old = rw (← c.index-rows-reference.is) at c.index_mut.ensures.value in
    let answers_at : slice_get row.items r.symbol ≡ Some old = slice_get_read row.items (length row.items) r.symbol old refl within value in
    let kept = write_kept os (map items_of rows) r.member r.symbol r.kind row.items old c.args.found c.requires.kept (record { row_at = row_at; answers_at = answers_at }) c.requires.found in
    subst (IsKept os) (sym (vec_written rows r.member r.symbol row c.new.result _ c.index-rows-reference.is c.new.ensures)) kept
