use Rattle.std.proofs.Math.ListN.{drop_of_length-le}
use Rattle.std.proofs.Common.{ℕ, List, ap, drop, ◌+◌, subst}
use Rattle.std.specs.Prelude.{Ok, Err, String, string_bytes}
use Rattle.std.specs.declared.alloc.Global.{Global}
use Rattle.pl_journal.specs.Lists.{texts}
use Rattle.pl_journal.proofs.RecoverLemmas.{names_from}
use Rattle.pl_change.specs.Answers.{Finds}
use Rattle.pl_change.specs.Undo.{if_valid, rows_of}
use Rattle.pl_change.specs.declared.fault.BatchFault.TheVariants.{NoMemory}
use Rattle.pl_change.proofs.FindLemmas.{at_err}
use Rattle.pl_change.proofs.RowLemmas.{SoFar, begins, ends, goes_on, lacks_at, stops_at}
use Rattle.pl_change.proofs.UndoLemmas.{row, rows}
use Rattle.pl_change.proofs.undoing.undo_all.Goals as goal

pub loop-name-init : goal.loop-name-init
loop-name-init g c = begins if_valid (g.D.Folder.seen c.args.folder.now) (texts c.args.names.now) _ c.new-rows.ensures

pub returns-in_err-row : goal.returns-in_err-row
returns-in_err-row g c =
    let seen = g.D.Folder.seen in
    let a = seen c.args.folder.now in
    let b = seen c.loop-name.folder in
    let names = c.args.names.now in
    let i = c.loop-name.name-index in
    let name = c.name-item.result in
    let fault = c.in_err-row.field-0.0 in
    let here = subst (λ (l : List (List ℕ)). SoFar if_valid a b (texts names) l c.loop-name.rows) (names_from names i name c.loop-name-test.true c.name-item.is) c.loop-name.invariant in
    let found = subst (λ (n : List ℕ). Finds (if_valid b.files n) row (Err fault) b (seen c.undo_if_valid.new.folder)) c.as_str.ensures.value c.in_err-row.ensures in
    at_err (λ r. Finds (rows_of (if_valid a.files) (texts names)) rows r a (seen c.undo_if_valid.new.folder)) c.from_residual.result fault c.from_residual.ensures.1
    (stops_at if_valid a (texts names) (string_bytes name) (texts (drop (i + 1) names)) c.loop-name.rows here fault found)

pub returns-in_err-add : goal.returns-in_err-add
returns-in_err-add g c =
    let seen = g.D.Folder.seen in
    let a = seen c.args.folder.now in
    let b = seen c.loop-name.folder in
    let names = c.args.names.now in
    let i = c.loop-name.name-index in
    let name = c.name-item.result in
    let more = c.in_ok-row.row in
    let here = subst (λ (l : List (List ℕ)). SoFar if_valid a b (texts names) l c.loop-name.rows) (names_from names i name c.loop-name-test.true c.name-item.is) c.loop-name.invariant in
    let found = subst (λ (n : List ℕ). Finds (if_valid b.files n) row (Ok more) b (seen c.undo_if_valid.new.folder)) c.as_str.ensures.value c.in_ok-row.ensures in
    at_err (λ r. Finds (rows_of (if_valid a.files) (texts names)) rows r a (seen c.undo_if_valid.new.folder)) c.from_residual-in_err-add.result NoMemory c.from_residual-in_err-add.ensures.1
    (lacks_at if_valid a (texts names) (string_bytes name) (texts (drop (i + 1) names)) c.loop-name.rows here more found)

pub loop-name-preserved : goal.loop-name-preserved
loop-name-preserved g c =
    let seen = g.D.Folder.seen in
    let a = seen c.args.folder.now in
    let b = seen c.loop-name.folder in
    let names = c.args.names.now in
    let i = c.loop-name.name-index in
    let name = c.name-item.result in
    let more = c.in_ok-row.row in
    let here = subst (λ (l : List (List ℕ)). SoFar if_valid a b (texts names) l c.loop-name.rows) (names_from names i name c.loop-name-test.true c.name-item.is) c.loop-name.invariant in
    let found = subst (λ (n : List ℕ). Finds (if_valid b.files n) row (Ok more) b (seen c.undo_if_valid.new.folder)) c.as_str.ensures.value c.in_ok-row.ensures in
    goes_on if_valid a (texts names) (string_bytes name) (texts (drop (i + 1) names)) c.loop-name.rows here more found c.add.new.rows c.in_ok-add.ensures

pub returns : goal.returns
returns g c =
    let seen = g.D.Folder.seen in
    let a = seen c.args.folder.now in
    let names = c.args.names.now in
    ends if_valid a (texts names) c.loop-name.rows
    (subst (λ (l : List (List ℕ)). SoFar if_valid a (seen c.loop-name.folder) (texts names) l c.loop-name.rows) (ap (λ (l : List (String Global)). texts l) (drop_of_length-le names {i = c.loop-name.name-index} c.loop-name-test.false)) c.loop-name.invariant)
