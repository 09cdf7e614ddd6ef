use Rattle.std.proofs.Common.{List, ◌∙◌, ap, map, sym}
use Rattle.std.specs.Prelude.{String, string_bytes}
use Rattle.std.specs.declared.alloc.Global.{Global}
use Rattle.pl_change.specs.Answers.{Finds}
use Rattle.pl_change.specs.Copied.{copied}
use Rattle.pl_change.specs.Folder.{ascend}
use Rattle.pl_change.specs.Names.{are_many}
use Rattle.pl_change.proofs.CopiedLemmas.{few, many, mixed, names_listed, unlisted_copy, whole}
use Rattle.pl_change.proofs.FindLemmas.{at_err}
use Rattle.pl_change.proofs.copying.copy_files.Goals as goal

pub returns-in_err-names-clause-found : goal.returns-in_err-names-clause-found
returns-in_err-names-clause-found g c =
    let seen = g.D.Folder.seen in
    let fault = c.in_err-names.field-0.0 in
    at_err (λ r. Finds (copied (seen c.args.folder.now).files) whole r (seen c.args.folder.now) (seen c.list.new.folder)) c.from_residual.result fault c.from_residual.ensures.1
    (unlisted_copy fault c.in_err-names.ensures.found)

pub returns-then-are_many-clause-found : goal.returns-then-are_many-clause-found
returns-then-are_many-clause-found g c =
    many c.in_ok-names.names c.in_ok-names.ensures.found (ap (λ (ns : List (String Global)). are_many (map string_bytes ns)) (sym c.deref.ensures.value) ∙ sym c.are_many.ensures ∙ c.if-are_many.true)

pub returns-then-not-ascend-clause-found : goal.returns-then-not-ascend-clause-found
returns-then-not-ascend-clause-found g c =
    mixed c.in_ok-names.names c.in_ok-names.ensures.found (ap (λ (ns : List (String Global)). ascend (map string_bytes ns)) (sym c.deref-2.ensures.value) ∙ sym c.ascend.ensures ∙ c.if-not-ascend.true)

pub copy_named-requires-clause-ascend : goal.copy_named-requires-clause-ascend
copy_named-requires-clause-ascend g c =
    ap (λ (ns : List (String Global)). ascend (map string_bytes ns)) (c.deref-3.ensures.value ∙ sym c.deref-2.ensures.value) ∙ sym c.ascend.ensures ∙ c.if-not-ascend.false

pub copy_named-requires-clause-listed : goal.copy_named-requires-clause-listed
copy_named-requires-clause-listed g c =
    λ t. ap (λ (ns : List (String Global)). map string_bytes ns) c.deref-3.ensures.value ∙ names_listed c.in_ok-names.names c.in_ok-names.ensures.found t

pub returns-clause-found : goal.returns-clause-found
returns-clause-found g c =
    few c.in_ok-names.names c.in_ok-names.ensures.found c.copy_named.result (ap (λ (ns : List (String Global)). are_many (map string_bytes ns)) (sym c.deref.ensures.value) ∙ sym c.are_many.ensures ∙ c.if-are_many.false) c.copy_named.ensures.found
