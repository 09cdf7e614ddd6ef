use Rattle.std.proofs.Common.{◌≡◌, List, subst, ap, ◌∙◌}
use Rattle.std.specs.Prelude.{IfOk}
use Rattle.pl_base.specs.Windows.{Window}
use Rattle.pl_object.specs.PlaceClauses.{last_load}
use Rattle.pl_form.specs.Found.{zeros_from}
use Rattle.pl_form.specs.Loads.{spots_of}
use Rattle.pl_form.specs.Rows.{cut_by}
use Rattle.pl_form.proofs.SpotLaws.{places_are}
use Rattle.pl_form.proofs.found.spots_in.Goals as goal

pub returns-then-are_in : goal.returns-then-are_in
returns-then-are_in c =
    let ss = c.args.segments.now in
    let places = places_are ss c.args.sections.now c.args.tags.now c.args.bytes.now c.row_windows-windows.result c.rows_in.result c.row_windows-windows.ensures c.rows_in.ensures in
    subst (λ (ws : List Window). IfOk c.spots_by.result (λ spots. spots ≡ spots_of ss (zeros_from (last_load ss)) ws)) places c.spots_by.ensures

pub returns-in_ok-copy : goal.returns-in_ok-copy
returns-in_ok-copy c =
    let ss = c.args.segments.now in
    let windows = c.row_windows-windows.result in
    let cut = c.split_rows.ensures ∙ ap (cut_by windows) (c.deref.ensures.value ∙ c.in_ok-copy.ensures) in
    let places = places_are ss c.args.sections.now c.args.tags.now c.args.bytes.now windows c.split_rows.result c.row_windows-windows.ensures cut in
    subst (λ (ws : List Window). IfOk c.spots_by-else-are_in.result (λ spots. spots ≡ spots_of ss (zeros_from (last_load ss)) ws)) places c.spots_by-else-are_in.ensures
