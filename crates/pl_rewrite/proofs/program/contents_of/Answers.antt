use Rattle.std.proofs.Common.{◌<◌, List, Ok, length, ap, refl, subst, sym, arith, ◌∙◌}
use Rattle.std.proofs.lemmas.Option.{slice_get-get_or}
use Rattle.std.proofs.lemmas.Result.{err_from_is_err_and}
use Rattle.pl_cone.specs.Links.{objects_of}
use Rattle.pl_rewrite.specs.RemainingRows.{GivesFirst}
use Rattle.pl_rewrite.proofs.NumberedLaws.{row_within}
use Rattle.pl_rewrite.proofs.ProgramContentLaws.{can_list, contents_are, fillable_is, found_first, own_each, own_members, own_refused, some_members}
use Rattle.pl_rewrite.proofs.RowsLaws.{object_at}
use Rattle.pl_rewrite.proofs.program.contents_of.Goals as goal
use Rattle.pl_scope.proofs.MemberLaws.{length_objects}
use Rattle.pl_value.specs.Linked.{words}
use Rattle.pl_value.specs.declared.meaning.Meaning.{Meaning}

pub bounds-work-row : goal.bounds-work-row
bounds-work-row c = omega (arith, row_within c.args.work.now.numbered.now c.args.row c.requires.program.program.walk, c.requires.program.work.row_words.count)

pub own_meanings-requires-clause-linking : goal.own_meanings-requires-clause-linking
own_meanings-requires-clause-linking c = c.requires.linking.is

pub own_meanings-requires-clause-some : goal.own_meanings-requires-clause-some
own_meanings-requires-clause-some c =
    omega (arith, length_objects c.args.linking.now.scope.now, some_members c.args.work.now c.args.row c.args.linking.now c.requires.program.work c.requires.program.program c.requires.linking c.requires.program.set)

pub own_meanings-requires-clause-found : goal.own_meanings-requires-clause-found
own_meanings-requires-clause-found c =
    let all = c.args.work.now.row_words.now in
    let lt : c.args.row < length all = omega (arith, row_within c.args.work.now.numbered.now c.args.row c.requires.program.program.walk, c.requires.program.work.row_words.count) in
    let at = slice_get-get_or all c.args.row c.index-work-row.result lt in
    found_first c.args.work.now c.args.row c.args.linking.now c.requires.program.work c.requires.program.program c.requires.linking c.requires.program.set _ c.as_slice.result.now at c.as_slice.ensures

pub returns-in_err-meanings : goal.returns-in_err-meanings
returns-in_err-meanings c =
    let p = err_from_is_err_and c.from_residual.result c.from_residual.ensures.1 in
    let o = object_at (objects_of c.args.linking.now) 0 (some_members c.args.work.now c.args.row c.args.linking.now c.requires.program.work c.requires.program.program c.requires.linking c.requires.program.set) in
    rw (p.1, p.2) (own_refused c.args.work.now c.args.row c.args.linking.now c.requires.program.work c.requires.program.program c.requires.linking c.requires.program.set o.0 _ o.1 c.in_err-meanings.ensures)

pub remaining_rows-requires-clause-linking : goal.remaining_rows-requires-clause-linking
remaining_rows-requires-clause-linking c = c.requires.linking.is

pub remaining_rows-requires-clause-row_words : goal.remaining_rows-requires-clause-row_words
remaining_rows-requires-clause-row_words c =
    let gives = subst (λ (gs : List Meaning). GivesFirst c.args.linking.now (Ok gs)) (sym c.as_slice-own.ensures) c.in_ok-meanings.ensures in
    can_list c.args.work.now c.args.row c.args.linking.now c.requires.program.work c.requires.program.program c.requires.linking c.requires.program.set c.walk-walk.result.now c.as_slice-own.result.now c.walk-walk.ensures gives

pub returns-in_err-made : goal.returns-in_err-made
returns-in_err-made c =
    let p = err_from_is_err_and c.from_residual-in_err-made.result c.from_residual-in_err-made.ensures.1 in
    rw (p.1, p.2) c.in_err-made.ensures.refused

pub object-requires : goal.object-requires
object-requires c =
    omega (arith, length_objects c.args.linking.now.scope.now, some_members c.args.work.now c.args.row c.args.linking.now c.requires.program.work c.requires.program.program c.requires.linking c.requires.program.set)

pub program_fills-requires-clause-walk : goal.program_fills-requires-clause-walk
program_fills-requires-clause-walk c =
    fillable_is c.args.work.now c.args.row c.args.linking.now c.requires.program.work c.requires.program.program c.requires.linking c.requires.program.set c.args.work.now.numbered.now c.walk-walk.result.now refl c.walk-walk.ensures

pub program_fills-requires-clause-one_each : goal.program_fills-requires-clause-one_each
program_fills-requires-clause-one_each c =
    let gives = subst (λ (gs : List Meaning). GivesFirst c.args.linking.now (Ok gs)) (sym c.as_slice-own.ensures) c.in_ok-meanings.ensures in
    own_each c.args.work.now c.args.row c.args.linking.now c.requires.program.work c.requires.program.program c.requires.linking c.requires.program.set c.as_slice-own.result.now c.object.result.now c.object.ensures.object gives
    ∙ ap length (sym c.as_slice-relocs.ensures)

pub program_fills-requires-clause-members : goal.program_fills-requires-clause-members
program_fills-requires-clause-members c =
    let gives = subst (λ (gs : List Meaning). GivesFirst c.args.linking.now (Ok gs)) (sym c.as_slice-own.ensures) c.in_ok-meanings.ensures in
    own_members c.args.work.now c.args.row c.args.linking.now c.requires.program.work c.requires.program.program c.requires.linking c.requires.program.set c.walk-walk.result.now c.as_slice-own.result.now c.object.result.now c.walk-walk.ensures c.object.ensures.object gives

pub returns : goal.returns
returns c =
    let gives = subst (λ (gs : List Meaning). GivesFirst c.args.linking.now (Ok gs)) (sym c.as_slice-own.ensures) c.in_ok-meanings.ensures in
    let made = c.in_ok-fills.ensures in
    let patches = made.patches ∙ ap words c.deref.ensures.value in
    contents_are c.args.work.now c.args.row c.args.linking.now c.requires.program.work c.requires.program.program c.requires.linking c.requires.program.set _ made.filling c.walk-walk.result.now c.as_slice-own.result.now c.in_ok-made.made.near.items c.object.result.now (rw c.as_slice-relocs.ensures at made.fills) c.walk-walk.ensures made.numbered (made.rows ∙ c.walk-walk.ensures) patches gives
    c.in_ok-made.ensures.rows c.in_ok-made.ensures.near c.object.ensures.object
