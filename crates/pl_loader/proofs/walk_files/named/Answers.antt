use Rattle.std.proofs.Common.{◌<◌, ◌^◌, List, ℕ, Ok, length, sym, ap, subst, ◌∙◌}
use Rattle.pl_base.specs.Answers.{Answers}
use Rattle.pl_loader.specs.Faults.{is_memory}
use Rattle.pl_loader.specs.Loading.{IsRead}
use Rattle.pl_loader.specs.Given.{IsReadPlain}
use Rattle.pl_loader.specs.Walk.{named}
use Rattle.pl_loader.specs.declared.object_file.ObjectFile.{ObjectFile}
use Rattle.pl_loader.proofs.GivenFileLaws.{named_plain, read_plain}
use Rattle.pl_loader.proofs.walk_files.named.Goals as goal

pub read_named-requires : goal.read_named-requires
read_named-requires c = subst (λ (xs : List ℕ). length xs < 2 ^ 32) (sym c.into_parts-parts.ensures.bytes) c.requires

pub returns-in-None-clause-exact : goal.returns-in-None-clause-exact
returns-in-None-clause-exact c = subst (λ (xs : List ℕ). Answers is_memory c.read_named.result (named c.args.name xs)) c.into_parts-parts.ensures.bytes c.read_named.ensures.exact

pub returns-in-Some-clause-exact : goal.returns-in-Some-clause-exact
returns-in-Some-clause-exact c =
    let bytes = c.into_parts-parts.result.bytes.items in
    let known : IsReadPlain bytes c.in-Some.object = subst (λ (xs : List ℕ). IsReadPlain xs c.in-Some.object) (sym c.into_parts-parts.ensures.bytes) (rw c.in-Some.is at c.into_parts-parts.ensures.known) in
    ap (named c.args.name) (sym c.into_parts-parts.ensures.bytes) ∙ named_plain c.args.name bytes c.in-Some.object known ∙ ap (λ (f : ObjectFile). Ok f) (sym c.with_mark.ensures)

pub returns-in-Some-clause-read : goal.returns-in-Some-clause-read
returns-in-Some-clause-read c =
    let bytes = c.into_parts-parts.result.bytes.items in
    let known : IsReadPlain bytes c.in-Some.object = subst (λ (xs : List ℕ). IsReadPlain xs c.in-Some.object) (sym c.into_parts-parts.ensures.bytes) (rw c.in-Some.is at c.into_parts-parts.ensures.known) in
    let few = subst (λ (xs : List ℕ). length xs < 2 ^ 32) (sym c.into_parts-parts.ensures.bytes) c.requires in
    subst IsRead (sym c.with_mark.ensures) (read_plain c.args.name bytes c.in-Some.object few known)
