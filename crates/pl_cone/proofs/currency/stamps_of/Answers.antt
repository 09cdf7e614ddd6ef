use Rattle.std.proofs.Common.{◌≡◌, ◌<◌, Bool, false, ℕ, List, length, Some, refl, sym, ap, ◌∙◌, Option, arith}
use Rattle.std.specs.Prelude.{slice_get}
use Rattle.std.proofs.lemmas.Option.{slice_get_read, slice_get-get_or}
use Rattle.pl_cone.specs.Currency.{is_set, next_stamp_of_file, stamp_at, stamp_in}
use Rattle.pl_cone.specs.declared.taken.Taken.{Taken}
use Rattle.pl_cone.proofs.NumberLaws.{column_more}
use Rattle.pl_cone.proofs.currency.stamps_of.Goals as goal

stamp_here : (ts : List Taken) (stale : List Bool) (stamp row : ℕ) (t : Taken) (b : Bool) → slice_get ts row ≡ Some t → slice_get stale row ≡ Some b → next_stamp_of_file t b stamp ≡ stamp_at ts stale stamp row
stamp_here ts stale stamp row t b at flag =
    sym (ap (λ (x : Option Taken). stamp_in x (is_set (slice_get stale row)) stamp) at ∙ ap (λ (x : Option Bool). next_stamp_of_file t (is_set x) stamp) flag)

pub loop-row-preserved : goal.loop-row-preserved
loop-row-preserved c =
    let lt : c.loop-row.row < length c.args.files.now = c.loop-row-test.true in
    let flagged : c.loop-row.row < length c.args.stale.now = omega arith in
    let at = slice_get_read c.args.files.now (length c.args.files.now) c.loop-row.row c.index-files-row.result refl lt c.index-files-row.is in
    let flag = slice_get-get_or c.args.stale.now c.loop-row.row false flagged in
    column_more (stamp_at c.args.files.now c.args.stale.now c.args.stamp) c.loop-row.row c.loop-row.stamps _ _ c.in_ok-push.ensures.ok (c.next_stamp_of_file.ensures ∙ stamp_here c.args.files.now c.args.stale.now c.args.stamp c.loop-row.row c.index-files-row.result _ at flag) c.loop-row.invariant
