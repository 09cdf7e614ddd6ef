use Rattle.std.proofs.Math.ListN.{drop_of_length-le}
use Rattle.std.proofs.Common.{◌≡◌, ℕ, List, Option, None, ap, drop, ◌+◌, ◌∙◌, subst}
use Rattle.std.specs.List.{filter_map}
use Rattle.std.specs.Prelude.{String, string_bytes}
use Rattle.std.specs.declared.alloc.Global.{Global}
use Rattle.pl_journal.specs.Lists.{texts}
use Rattle.pl_journal.proofs.RecoverLemmas.{names_from}
use Rattle.pl_journal.specs.declared.change.Change.{Change}
use Rattle.pl_change.specs.Looked.{IsPut, row_at}
use Rattle.pl_change.specs.Undo.{added}
use Rattle.pl_change.proofs.LookedLemmas.{InOrder, order_begins, order_ends, order_rest, taken_out}
use Rattle.pl_change.proofs.RowLemmas.{next_added}
use Rattle.pl_change.proofs.undoing.in_order.Goals as goal

pub loop-name-init : goal.loop-name-init
loop-name-init c = order_begins (texts c.args.names.now) c.args.looked c.new-rows.result c.requires c.new-rows.ensures

pub loop-name-preserved : goal.loop-name-preserved
loop-name-preserved c =
    let names = c.args.names.now in
    let all = texts names in
    let i = c.loop-name.name-index in
    let name = c.name-item.result in
    let n = string_bytes name in
    let rest = texts (drop (i + 1) names) in
    let old = c.loop-name.left in
    let new = c.take-row.new.self in
    let found = c.loop-name.rows in
    let so_far = subst (λ (l : List (List ℕ)). InOrder all l c.args.looked old found) (names_from names i name c.loop-name-test.true c.name-item.is) c.loop-name.invariant in
    let gone = subst (λ (m : List ℕ). IsPut old m None new) c.as_str.ensures.value c.take-row.ensures.gone in
    let taken = c.take-row.ensures.row ∙ ap (λ (m : List ℕ). row_at old m) c.as_str.ensures.value in
    record {
      apart = order_rest all c.args.looked old n rest found so_far;
      is = next_added found c.add.new.rows (row_at old n) (filter_map (row_at new) rest) (filter_map (row_at c.args.looked) all) (subst (λ (o : Option Change). c.add.new.rows ≡ added found o) taken c.in_ok-add.ensures) (taken_out all c.args.looked old n rest found so_far new gone);
    }

pub returns : goal.returns
returns c =
    let names = c.args.names.now in
    order_ends (texts names) c.args.looked c.loop-name.left c.loop-name.rows
    (subst (λ (l : List (List ℕ)). InOrder (texts names) l c.args.looked c.loop-name.left c.loop-name.rows) (ap (λ (l : List (String Global)). texts l) (drop_of_length-le names {i = c.loop-name.name-index} c.loop-name-test.false)) c.loop-name.invariant)
