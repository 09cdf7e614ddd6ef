use Rattle.std.proofs.Common.{◌≡◌, ℕ, List, map, true, false, rules, sym, ◌∙◌, ap, subst}
use Rattle.std.specs.Prelude.{Err, String, string_bytes}
use Rattle.std.specs.declared.alloc.Global.{Global}
use Rattle.pl_base.specs.Names.{is_valid_name}
use Rattle.pl_change.specs.Answers.{Finds}
use Rattle.pl_change.specs.Names.{has_name}
use Rattle.pl_change.specs.Store.{removed}
use Rattle.pl_change.specs.declared.fault.BatchFault.TheVariants.{NoMemory}
use Rattle.pl_change.specs.declared.fault.BatchFault.TheVariants as faults
use Rattle.pl_change.specs.declared.cause.Cause.TheVariants as causes
use Rattle.pl_change.proofs.FindLemmas.{at_err}
use Rattle.pl_change.proofs.StoreLemmas.{remove_absent, remove_invalid, remove_one, remove_unlisted}
use Rattle.pl_change.proofs.UndoLemmas.{rows}
use Rattle.pl_change.proofs.storing.removed.Goals as goal

pub returns-then-not-is_valid_name : goal.returns-then-not-is_valid_name
returns-then-not-is_valid_name g c =
    let invalid : is_valid_name c.args.name.now ≡ false = search rules in
    remove_invalid c.args.name.now (g.D.Folder.seen c.args.folder.now) invalid

pub returns-in_err-names : goal.returns-in_err-names
returns-in_err-names g c =
    let seen = g.D.Folder.seen in
    let valid : is_valid_name c.args.name.now ≡ true = search rules in
    at_err (λ r. Finds (removed (seen c.args.folder.now).files c.args.name.now) rows r (seen c.args.folder.now) (seen c.list.new.folder)) c.from_residual.result c.in_err-names.field-0.0 c.from_residual.ensures.1
    (remove_unlisted c.args.name.now valid c.in_err-names.field-0.0 c.in_err-names.ensures.found)

pub returns-then-not-has_name : goal.returns-then-not-has_name
returns-then-not-has_name g c =
    let seen = g.D.Folder.seen in
    let valid : is_valid_name c.args.name.now ≡ true = search rules in
    let a = seen c.args.folder.now in
    subst (λ (n : List ℕ). Finds (removed a.files c.args.name.now) rows (Err (faults.Cause (causes.NotThere n))) a (seen c.list.new.folder)) (sym c.in_ok-copy_of.ensures)
    (remove_absent c.args.name.now valid c.in_ok-names.names c.in_ok-names.ensures.found
    (ap (λ (ns : List (String Global)). has_name c.args.name.now (map string_bytes ns)) (sym c.deref.ensures.value) ∙ sym c.has_name.ensures ∙ c.if-not-has_name.true))

pub returns : goal.returns
returns g c =
    let valid : is_valid_name c.args.name.now ≡ true = search rules in
    remove_one c.args.name.now valid c.in_ok-names.names c.in_ok-names.ensures.found _ c.in_ok-drop_row.ensures
    (ap (λ (ns : List (String Global)). has_name c.args.name.now (map string_bytes ns)) (sym c.deref.ensures.value) ∙ sym c.has_name.ensures ∙ c.if-not-has_name.false)
