-- The tables of a form's plan.
use Rattle.std.specs.Prelude.{ℕ, ◌+◌, List, ◌++◌, length}
use Rattle.pl_base.specs.Windows.{within}
use Rattle.pl_elf.specs.declared.segment.Segment.{Segment}
use Rattle.pl_object.specs.declared.object.Object.{Object}
use Rattle.pl_form.specs.Extending.{split_segments, all_sections, program_table}
use Rattle.pl_form.specs.Parts.{old_names, extension, whole_extension}
use Rattle.pl_form.specs.declared.layout.Layout.{Layout}
use Rattle.pl_form.specs.declared.parts.Extension.{Extension}
use Rattle.pl_form.specs.declared.parts.FormPlan.{FormPlan}
use Rattle.pl_form.specs.declared.parts.FormTables.{FormTables}
use Rattle.pl_form.specs.declared.parts.Spot.{Spot}
use Rattle.pl_form.specs.declared.program.Insertion.{Insertion}
use Rattle.pl_form.specs.declared.program.Last.{Last}
use Rattle.pl_form.specs.declared.program.Shift.{Shift}
use Rattle.pl_form.specs.declared.section_names.TheConstants.{LIBSTR_NAME, LIBLIST_NAME, CONFLICT_NAME}

-- a plan by its tables
abbrev pub plan_of : ℕ → ℕ → List ℕ → FormTables → List (List ℕ) → FormPlan
plan_of slot cut more t parts = record {
  slot = slot;
  cut = cut;
  more = more;
  segments = t.segments;
  dynamic = t.dynamic;
  parts = parts;
  sections = t.sections;
  names = t.names;
}

-- the tables of a plan
abbrev pub tables_of : FormPlan → FormTables
tables_of p = record { segments = p.segments; dynamic = p.dynamic; sections = p.sections; names = p.names }

-- ---- a program

-- what is inserted behind the file bytes of the last PT_LOAD
abbrev pub inserted : Segment → List Spot → List ℕ → Extension → Insertion
inserted last ps flat e = record { bytes = whole_extension (extension last ps flat e); grown = length (extension last ps flat e) }

-- by it, what follows in the file moves
abbrev pub shift_of : Segment → Insertion → Shift
shift_of last more = record { cut = last.offset + last.filesz; size = length more.bytes }

abbrev pub program_tables : List ℕ → Object → Layout → Last → Insertion → Extension → FormTables
program_tables bytes x l last more e = record {
  segments = split_segments (shift_of last.segment more) more.grown last x.segments;
  dynamic = program_table last.segment e l.tags (within l.dynamic bytes);
  sections = all_sections (length (old_names bytes)) x.sections last.segment (shift_of last.segment more) e;
  names = LIBSTR_NAME ++ (LIBLIST_NAME ++ CONFLICT_NAME);
}
