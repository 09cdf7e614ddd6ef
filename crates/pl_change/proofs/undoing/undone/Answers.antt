use Rattle.std.proofs.Common.{List, map, sym, ◌∙◌, ap}
use Rattle.std.specs.List.{filter_map}
use Rattle.std.specs.Prelude.{string_bytes, String}
use Rattle.std.specs.declared.alloc.Global.{Global}
use Rattle.pl_change.specs.Answers.{Finds}
use Rattle.pl_change.specs.Folder.{ascend}
use Rattle.pl_change.specs.Looked.{row_at}
use Rattle.pl_change.specs.Names.{are_many}
use Rattle.pl_change.specs.Undo.{undone}
use Rattle.pl_change.specs.declared.fault.BatchFault.TheVariants.{NoMemory}
use Rattle.pl_change.proofs.FindLemmas.{at_err}
use Rattle.pl_change.proofs.LookedLemmas.{undone_fails, undone_found, undone_lacks, undone_mixed}
use Rattle.pl_change.proofs.UndoLemmas.{rows, undone_many, undone_unlisted}
use Rattle.pl_change.proofs.undoing.undone.Goals as goal

pub returns-in_err-names : goal.returns-in_err-names
returns-in_err-names g c =
    let seen = g.D.Folder.seen in
    at_err (λ r. Finds (undone (seen c.args.folder.now).files c.args.asked.now) rows r (seen c.args.folder.now) (seen c.list.new.folder)) c.from_residual.result c.in_err-names.field-0.0 c.from_residual.ensures.1
    (undone_unlisted c.args.asked.now c.in_err-names.field-0.0 c.in_err-names.ensures.found)

pub returns-then-are_many : goal.returns-then-are_many
returns-then-are_many g c =
    undone_many c.args.asked.now c.in_ok-names.names c.in_ok-names.ensures.found (ap (λ (ns : List (String Global)). are_many (map string_bytes ns)) (sym c.deref.ensures.value) ∙ sym c.are_many.ensures ∙ c.if-are_many.true)

pub returns-then-not-ascend : goal.returns-then-not-ascend
returns-then-not-ascend g c =
    undone_mixed c.args.asked.now c.in_ok-names.names c.in_ok-names.ensures.found (ap (λ (ns : List (String Global)). ascend (map string_bytes ns)) (sym c.deref-2.ensures.value) ∙ sym c.ascend.ensures ∙ c.if-not-ascend.true)

pub returns-in_err-looked : goal.returns-in_err-looked
returns-in_err-looked g c =
    let seen = g.D.Folder.seen in
    at_err (λ r. Finds (undone (seen c.args.folder.now).files c.args.asked.now) rows r (seen c.args.folder.now) (seen c.look_at_all.new.folder)) c.from_residual-in_err-looked.result c.in_err-looked.field-0.0 c.from_residual-in_err-looked.ensures.1
    (undone_fails c.args.asked.now c.in_ok-names.names c.in_ok-names.ensures.found (ap (λ (ns : List (String Global)). are_many (map string_bytes ns)) (sym c.deref.ensures.value) ∙ sym c.are_many.ensures ∙ c.if-are_many.false) c.in_err-looked.field-0.0 c.in_err-looked.ensures.passes)

pub in_order-requires : goal.in_order-requires
in_order-requires g c =
    ap (λ (ns : List (String Global)). ascend (map string_bytes ns)) (c.deref-3.ensures.value ∙ sym c.deref-2.ensures.value) ∙ sym c.ascend.ensures ∙ c.if-not-ascend.false

pub returns-in_err-in_order : goal.returns-in_err-in_order
returns-in_err-in_order g c =
    let seen = g.D.Folder.seen in
    at_err (λ r. Finds (undone (seen c.args.folder.now).files c.args.asked.now) rows r (seen c.args.folder.now) (seen c.look_at_all.new.folder)) c.from_residual-in_err-in_order.result NoMemory c.from_residual-in_err-in_order.ensures.1
    (undone_lacks c.args.asked.now c.in_ok-names.names c.in_ok-names.ensures.found (ap (λ (ns : List (String Global)). are_many (map string_bytes ns)) (sym c.deref.ensures.value) ∙ sym c.are_many.ensures ∙ c.if-are_many.false) c.in_ok-looked.looked c.in_ok-looked.ensures.passes)

pub returns : goal.returns
returns g c =
    undone_found c.args.asked.now c.in_ok-names.names c.in_ok-names.ensures.found (ap (λ (ns : List (String Global)). are_many (map string_bytes ns)) (sym c.deref.ensures.value) ∙ sym c.are_many.ensures ∙ c.if-are_many.false) c.in_ok-looked.looked c.in_ok-looked.ensures.passes c.in_ok-looked.ensures.found c.in_ok-looked.ensures.names c.in_ok-in_order.field-0
    (c.in_ok-in_order.ensures ∙ ap (λ (ns : List (String Global)). filter_map (row_at c.in_ok-looked.looked) (map string_bytes ns)) c.deref-3.ensures.value)
