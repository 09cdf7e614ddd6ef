use Rattle.std.proofs.Common.{List, map, sym, ◌∙◌, ap}
use Rattle.std.specs.Prelude.{string_bytes, String}
use Rattle.std.specs.declared.alloc.Global.{Global}
use Rattle.pl_batch.specs.All.{all_made}
use Rattle.pl_change.specs.Answers.{Finds}
use Rattle.pl_change.specs.Folder.{ascend}
use Rattle.pl_change.specs.Names.{are_many}
use Rattle.pl_batch.proofs.AllLemmas.{all_few, all_many, all_mixed, all_unlisted, it, names_listed}
use Rattle.pl_change.proofs.FindLemmas.{at_err}
use Rattle.pl_batch.proofs.all.all_made.Goals as goal

pub returns-in_err-names : goal.returns-in_err-names
returns-in_err-names g c =
    let seen = g.D.Folder.seen in
    at_err (λ r. Finds (all_made (seen c.args.folder.now).files c.args.asked.now) it r (seen c.args.folder.now) (seen c.list.new.folder)) c.from_residual.result c.in_err-names.field-0.0 c.from_residual.ensures.1
    (all_unlisted c.args.asked.now c.in_err-names.field-0.0 c.in_err-names.ensures.found)

pub returns-then-are_many : goal.returns-then-are_many
returns-then-are_many g c =
    all_many c.args.asked.now c.in_ok-names.names c.in_ok-names.ensures.found (ap (λ (ns : List (String Global)). are_many (map string_bytes ns)) (sym c.deref.ensures.value) ∙ sym c.are_many.ensures ∙ c.if-are_many.true)

pub returns-then-not-ascend : goal.returns-then-not-ascend
returns-then-not-ascend g c =
    all_mixed c.args.asked.now c.in_ok-names.names c.in_ok-names.ensures.found (ap (λ (ns : List (String Global)). ascend (map string_bytes ns)) (sym c.deref-2.ensures.value) ∙ sym c.ascend.ensures ∙ c.if-not-ascend.true)

pub made_of_folder-requires-clause-ascend : goal.made_of_folder-requires-clause-ascend
made_of_folder-requires-clause-ascend g c =
    ap (λ (ns : List (String Global)). ascend (map string_bytes ns)) (c.deref-3.ensures.value ∙ sym c.deref-2.ensures.value) ∙ sym c.ascend.ensures ∙ c.if-not-ascend.false

pub made_of_folder-requires-clause-listed : goal.made_of_folder-requires-clause-listed
made_of_folder-requires-clause-listed g c =
    λ t. ap (λ (ns : List (String Global)). map string_bytes ns) c.deref-3.ensures.value ∙ names_listed c.args.asked.now c.in_ok-names.names c.in_ok-names.ensures.found t

pub returns : goal.returns
returns g c =
    all_few c.args.asked.now c.in_ok-names.names c.in_ok-names.ensures.found c.made_of_folder.result (ap (λ (ns : List (String Global)). are_many (map string_bytes ns)) (sym c.deref.ensures.value) ∙ sym c.are_many.ensures ∙ c.if-are_many.false) c.made_of_folder.ensures
