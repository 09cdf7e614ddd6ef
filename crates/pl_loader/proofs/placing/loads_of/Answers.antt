use Rattle.std.proofs.Common.{◌≡◌, ℕ, List, None, Some, sym, ap, subst, ◌∙◌}
use Rattle.std.specs.List.{All}
use Rattle.std.proofs.lemmas.Result.{IfOk-weaker}
use Rattle.pl_elf.specs.Headers.{header, loads, segments}
use Rattle.pl_elf.specs.declared.segment.Segment.{Segment}
use Rattle.pl_loader.proofs.FormLaws.{EndsLow, ends_by, has_header}
use Rattle.pl_loader.proofs.placing.loads_of.Goals as goal

pub header_fields-requires : goal.header_fields-requires
header_fields-requires c = rw c.as_slice-bytes.ensures (has_header c.args.file.now c.in-Some.mark c.requires c.in-Some.is)

pub returns-in-None-clause-ends : goal.returns-in-None-clause-ends
returns-in-None-clause-ends c =
    IfOk-weaker c.loads.result _ _ (λ v is. subst (λ (ss : List Segment). All EndsLow ss) (sym (is ∙ ap loads c.as_slice.ensures)) (ends_by c.args.file.now None c.requires c.in-None.is)) c.loads.ensures

pub returns-in_ok-segments-in-Some-clause-ends : goal.returns-in_ok-segments-in-Some-clause-ends
returns-in_ok-segments-in-Some-clause-ends c =
    let bytes : c.as_slice-bytes.result.now ≡ c.in-Some.mark.file = c.as_slice-bytes.ensures in
    let all : c.deref.result.now ≡ segments c.in-Some.mark.file (header c.in-Some.mark.file) =
    c.deref.ensures.value ∙ c.in_ok-segments-in-Some.ensures ∙ ap (segments c.as_slice-bytes.result.now) c.header_fields.ensures ∙ ap (λ (b : List ℕ). segments b (header b)) bytes in
    IfOk-weaker c.loads-in-Some.result _ _ (λ v is. subst (λ (ss : List Segment). All EndsLow ss) (sym (is ∙ ap loads all)) (ends_by c.args.file.now (Some c.in-Some.mark) c.requires c.in-Some.is)) c.loads-in-Some.ensures
