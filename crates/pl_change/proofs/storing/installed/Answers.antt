use Rattle.std.proofs.Common.{◌≡◌, List, map, true, false, rules, sym, ◌∙◌, ap}
use Rattle.std.specs.Prelude.{String, string_bytes}
use Rattle.std.specs.declared.alloc.Global.{Global}
use Rattle.pl_base.specs.Names.{is_valid_name}
use Rattle.pl_base.proofs.NameLaws.{valid_length}
use Rattle.pl_change.specs.Answers.{Finds}
use Rattle.pl_change.specs.Names.{is_full}
use Rattle.pl_change.specs.Store.{installed}
use Rattle.pl_change.proofs.FindLemmas.{at_err}
use Rattle.pl_change.proofs.StoreLemmas.{not_valid, store_full, store_put, store_unlisted, unstored}
use Rattle.pl_change.proofs.UndoLemmas.{rows}
use Rattle.pl_change.proofs.storing.installed.Goals as goal

pub returns-then-not-is_valid_name : goal.returns-then-not-is_valid_name
returns-then-not-is_valid_name g c =
    let invalid : is_valid_name c.args.name.now ≡ false = search rules in
    not_valid c.args.name.now c.args.bytes.now (g.D.Folder.seen c.args.folder.now) invalid

pub returns-in_err-original : goal.returns-in_err-original
returns-in_err-original g c =
    let a = g.D.Folder.seen c.args.folder.now in
    let valid : is_valid_name c.args.name.now ≡ true = search rules in
    at_err (λ r. Finds (installed a.files c.args.name.now c.args.bytes.now) rows r a a) c.from_residual.result c.in_err-original.field-0.0 c.from_residual.ensures.1
    (unstored c.args.name.now c.args.bytes.now valid a c.in_err-original.field-0.0 c.in_err-original.ensures)

pub returns-in_err-names : goal.returns-in_err-names
returns-in_err-names g c =
    let seen = g.D.Folder.seen in
    let a = seen c.args.folder.now in
    let valid : is_valid_name c.args.name.now ≡ true = search rules in
    at_err (λ r. Finds (installed a.files c.args.name.now c.args.bytes.now) rows r a (seen c.list.new.folder)) c.from_residual-in_err-names.result c.in_err-names.field-0.0 c.from_residual-in_err-names.ensures.1
    (store_unlisted c.args.name.now c.args.bytes.now valid c.in_ok-original.original c.in_ok-original.ensures c.in_err-names.field-0.0 c.in_err-names.ensures.found)

pub returns-then-is_full : goal.returns-then-is_full
returns-then-is_full g c =
    let valid : is_valid_name c.args.name.now ≡ true = search rules in
    store_full c.args.name.now c.args.bytes.now valid c.in_ok-original.original c.in_ok-original.ensures c.in_ok-names.names c.in_ok-names.ensures.found
    (ap (λ (ns : List (String Global)). is_full (map string_bytes ns) c.args.name.now) (sym c.deref.ensures.value) ∙ sym c.is_full.ensures ∙ c.if-is_full.true)

pub put-requires : goal.put-requires
put-requires g c =
    let valid : is_valid_name c.args.name.now ≡ true = search rules in
    valid_length c.args.name.now valid

pub returns : goal.returns
returns g c =
    let valid : is_valid_name c.args.name.now ≡ true = search rules in
    store_put c.args.name.now c.args.bytes.now valid c.in_ok-original.original c.in_ok-original.ensures c.in_ok-names.names c.in_ok-names.ensures.found c.put.result
    (ap (λ (ns : List (String Global)). is_full (map string_bytes ns) c.args.name.now) (sym c.deref.ensures.value) ∙ sym c.is_full.ensures ∙ c.if-is_full.false) c.put.ensures
