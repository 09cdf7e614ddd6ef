use Rattle.std.proofs.Common.{◌≡◌, ◌<◌, ◌^◌, List, ℕ, length, false, sym, ap, subst, ◌∙◌}
use Rattle.pl_form.specs.Marks.{has_mark}
use Rattle.pl_loader.specs.Given.{IsReadPlain}
use Rattle.pl_loader.proofs.GivenFileLaws.{plain_read}
use Rattle.pl_loader.proofs.file_given.GivenFile.fixed.Goals as goal

pub bears_mark-requires : goal.bears_mark-requires
bears_mark-requires c = subst (λ (xs : List ℕ). length xs < 2 ^ 32) (sym (c.as_slice.ensures.value ∙ c.into_parts-parts.ensures.bytes)) c.requires

pub known-requires : goal.known-requires
known-requires c =
    let r = c.into_parts-parts.ensures.read in
    let same = sym c.into_parts-parts.ensures.bytes in
    let plain : has_mark c.args.program ≡ false = ap has_mark (same ∙ sym c.as_slice.ensures.value) ∙ sym c.in-Ok.ensures ∙ c.if-marked.false in
    subst (λ (xs : List ℕ). IsReadPlain xs c.into_parts-parts.result.object) same (plain_read c.args.program c.into_parts-parts.result.object r.read r.bare plain)
