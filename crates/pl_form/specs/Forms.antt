-- The two forms, with their undo sections: version 2 of the section where there is a digest.
use Rattle.std.specs.Prelude.{ℕ, List, length, Option}
use Rattle.pl_elf.specs.declared.segment.Segment.{Segment}
use Rattle.pl_undo.specs.Section.{undo_bytes}
use Rattle.pl_form.specs.Back.{undo_of}
use Rattle.pl_form.specs.Parts.{Original, library_plan, program_plan, form}
use Rattle.pl_form.specs.declared.parts.FormPlan.{FormPlan}
use Rattle.pl_form.specs.declared.parts.Listed.{Listed}
use Rattle.pl_form.specs.declared.parts.Extension.{Extension}
use Rattle.pl_form.specs.Found.{moved_tables, ss_of, secs_of, d_of, tags_of, ps_of}

abbrev pub undo_part : FormPlan → Original → Option (List ℕ) → List ℕ
undo_part p o digest = undo_bytes (undo_of p.slot p.cut (length p.more) o.dynamic o.spots o.bytes digest)

-- the form by a plan, with the bytes for the places
unfoldable pub planned : FormPlan → Original → List ℕ → Option (List ℕ) → List ℕ
planned p o flat digest = form p o flat (undo_part p o digest)

abbrev pub form_of_library : Original → ℕ → ℕ → ℕ → Listed → List ℕ → Option (List ℕ) → List ℕ
form_of_library o slot stamp checksum l flat digest = planned (library_plan o slot stamp checksum l) o flat digest

abbrev pub form_of_program : Original → ℕ → Segment → Extension → List ℕ → Option (List ℕ) → List ℕ
form_of_program o index last e flat digest = planned (program_plan o index last flat e) o flat digest

-- an original, with all that is found in it by its own header, tables and rows
abbrev pub original_of : List ℕ → Original
original_of o = record {
  bytes = o;
  dynamic = d_of o;
  tables = moved_tables (ss_of o) (secs_of o) (tags_of o);
  spots = ps_of o;
  tags = length (tags_of o);
}
