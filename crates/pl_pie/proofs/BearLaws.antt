-- The header, the program headers and the section headers of a fixed file are those of the fixed object.
use Rattle.std.proofs.Common.{◌≡◌, ℕ, false, List, Ok, refl, sym, ap, ◌∙◌, arith}
use Rattle.pl_base.specs.Bytes.{word64}
use Rattle.pl_elf.specs.Headers.{header}
use Rattle.pl_elf.specs.Kinds.{is_static}
use Rattle.pl_elf.specs.declared.header.Header.{Header}
use Rattle.pl_object.specs.Reads.{reads, headers, static_object, object}
use Rattle.pl_object.specs.declared.object.Object.{Object}
use Rattle.pl_object.proofs.AcceptedLaws.{read_holds}
use Rattle.law_fixed.specs.Fixed.{fixed_header, fixed}
use Rattle.pl_pie.specs.Pie.{as_program}
use Rattle.pl_pie.specs.Fix.{fixed_bytes}
use Rattle.pl_pie.specs.Laws.{FixedFileBears}
use Rattle.pl_pie.proofs.PieLaws.{IsPie, pie_is, not_static}
use Rattle.pl_pie.proofs.RebasedLaws.{rebased_length, rebased_header, rebased_segments, rebased_sections}

-- the entry of an object is that of its header
pub entry_is : (p : List ℕ) (o : Object) → reads p ≡ Ok o → o.entry ≡ o.header.entry
unfolding static_object object headers
entry_is p o e = read_holds (λ y. y.entry ≡ y.header.entry) p (λ h s. refl) (λ h d l s. refl) o e

header_entry : (p : List ℕ) → (header p).entry ≡ word64 24 p
unfolding header
header_entry p = refl

pub file_bears : FixedFileBears
unfolding fixed_bytes fixed fixed_header
file_bears at o bytes is_some =
    let is : IsPie bytes o = pie_is bytes o is_some in
    let p : List ℕ = as_program bytes in
    let other : is_static o.kind ≡ false = not_static o.kind is.program in
    let entry : o.entry ≡ word64 24 p = entry_is p o is.read ∙ ap (λ (h : Header). h.entry) (sym is.accepted.head.header) ∙ header_entry p in
    let size = rebased_length at p o is.accepted other in
    record {
      header = rebased_header at p o is.accepted other entry ∙ ap (fixed_header at) is.accepted.head.header;
      segments = rebased_segments at p o is.accepted other;
      sections = rebased_sections at p o is.accepted other;
      long = omega (arith, size, is.accepted.head.long);
      segments_in = omega (arith, size, is.accepted.head.segments_in);
      sections_in = omega (arith, size, is.accepted.head.sections_in);
    }
