-- What is read of a fixed file is what clauses 12 to 31 read of it, by the program's dynamic table with the values of its address tags moved.
use Rattle.std.proofs.Common.{◌≡◌, ℕ, ◌+◌, ◌%◌, ◌≤◌, Bool, false, List, map, Some, Result, Ok, ap, ◌∙◌}
use Rattle.std.specs.Prelude.{if◌then◌else◌}
use Rattle.pl_base.specs.Answers.{◌>>=◌, because}
use Rattle.pl_dyn.specs.declared.dynamic.Dynamic.{Dynamic}
use Rattle.pl_dyn.specs.declared.fault.DynFault.{DynFault}
use Rattle.pl_elf.specs.Clauses.{is_static_file}
use Rattle.pl_elf.specs.Headers.{sections}
use Rattle.pl_elf.specs.declared.constants.TheConstants.{ADDRESS_LIMIT}
use Rattle.pl_elf.specs.declared.fault.HeaderFault.{HeaderFault}
use Rattle.pl_elf.specs.declared.header.Header.{Header}
use Rattle.pl_elf.specs.declared.section.Section.{Section}
use Rattle.pl_elf.specs.declared.segment.Segment.{Segment}
use Rattle.pl_object.specs.Reads.{dynamic, dynamic_object, headers, parts, reads, static_program}
use Rattle.pl_object.specs.Refusals.{of_dynamic, of_header}
use Rattle.pl_object.specs.declared.headers.Headers.{Headers}
use Rattle.pl_object.specs.declared.object.Object.{Object}
use Rattle.law_fixed.specs.Fixed.{fixed, fixed_header, fixed_section, fixed_segment}
use Rattle.pl_pie.specs.Pie.{as_program, pie}
use Rattle.pl_pie.proofs.AtLaws.{IsAt, dynamic_of, file_at, headers_of, new_tags, old_tags}
use Rattle.pl_pie.proofs.DynamicLaws.{dynamic_read}
use Rattle.pl_pie.proofs.HeadAgain.{file_taken, is_head}
use Rattle.pl_pie.proofs.HeadClauses.{static_kept}
use Rattle.pl_pie.proofs.RebasedLaws.{rebased_sections, rebased_segments}
use Rattle.pl_pie.proofs.TagLaws.{moved_dynamic}

module _ (bytes : List ℕ) (o : Object) (at : ℕ) (some : pie bytes ≡ Some o) (aligned : at % o.align ≡ 0) (ends : at + o.span ≤ ADDRESS_LIMIT) (is : IsAt bytes o at) where
  abbrev p : List ℕ
  p = as_program bytes

  abbrev file : List ℕ
  file = file_at at o bytes

  -- its headers
  abbrev fixed_headers : Headers
  fixed_headers = record { header = fixed_header at o.header; segments = map (fixed_segment at) o.segments; sections = map (fixed_section at) o.sections }

  headers_again : headers file (fixed_header at o.header) ≡ fixed_headers
  unfolding headers
  headers_again =
      ap (λ (ss : List Segment). record { header = fixed_header at o.header; segments = ss; sections = sections file (fixed_header at o.header) }) (rebased_segments at p o is.pie.accepted is.other)
      ∙ ap (λ (ss : List Section). record { header = fixed_header at o.header; segments = map (fixed_segment at) o.segments; sections = ss }) (rebased_sections at p o is.pie.accepted is.other)

  -- its dynamic table
  abbrev tags_again : Dynamic
  tags_again = record { tags = new_tags at bytes o; spare = o.spare }

  table_again : dynamic file (map (fixed_segment at) o.segments) ≡ Ok tags_again
  unfolding moved_dynamic
  table_again = dynamic_read at p o is.pie.accepted is.other is.stands is.low (dynamic_of (old_tags bytes o) o) is.table

  read_parts : reads file ≡ dynamic_object file fixed_headers tags_again
  unfolding reads parts
  read_parts =
      let plain : is_static_file file (fixed_header at o.header) ≡ false = static_kept at p file o.header (is_head bytes o at some aligned ends) ∙ is.plain in
      ap (λ (r : Result Header HeaderFault). because of_header r >>= λ h. parts file (headers file h)) (file_taken bytes o at some aligned ends)
      ∙ ap (λ (f : Headers). if is_static_file file f.header then static_program file f else (because of_dynamic (dynamic file f.segments) >>= dynamic_object file f)) headers_again
      ∙ ap (λ (b : Bool). if b then static_program file fixed_headers else (because of_dynamic (dynamic file (map (fixed_segment at) o.segments)) >>= dynamic_object file fixed_headers)) plain
      ∙ ap (λ (r : Result Dynamic DynFault). because of_dynamic r >>= dynamic_object file fixed_headers) table_again

  -- what is read of it
  pub reads_again : reads file ≡ dynamic_object file (headers_of (fixed at o)) (dynamic_of (new_tags at bytes o) (fixed at o))
  unfolding fixed
  reads_again = read_parts
