use Rattle.std.proofs.Common.{List, ℕ, length, ap, ◌∙◌, arith}
use Rattle.pl_elf.specs.declared.section.Section.{Section}
use Rattle.pl_elf.specs.declared.segment.Segment.{Segment}
use Rattle.pl_form.specs.Extending.{all_sections, program_table, split_segments}
use Rattle.pl_form.specs.Faults.{cut_of}
use Rattle.pl_form.proofs.LengthLaws.{names_most}
use Rattle.pl_form.proofs.EntryLaws.{table_within, table_length}
use Rattle.pl_form.proofs.PlanLaws.{same_tables}
use Rattle.pl_form.proofs.program.program_tables.Goals as goal

pub program_sections-requires-clause-names : goal.program_sections-requires-clause-names
program_sections-requires-clause-names c = omega (arith, ap length c.old_names-names.ensures, names_most c.args.bytes.now, c.requires.few)

pub program_table-requires-clause-spare : goal.program_table-requires-clause-spare
program_table-requires-clause-spare c =
    omega (
      arith,
      table_length c.args.bytes.now c.args.layout.now c.part-table.result.now c.requires.program.dynamic
          (table_within c.args.bytes.now c.part-table.result.now c.args.layout.now c.at.result c.size.result c.at.ensures c.size.ensures c.part-table.ensures.bytes),
      c.requires.program.spare,
    )

pub returns : goal.returns
returns c =
    let last = c.args.last.now in
    let e = c.args.lists.now in
    let x = c.args.object.now in
    let grown = c.args.more.now.grown in
    let told = length c.old_names-names.result.now in
    same_tables _ _ _ _ _ _ _ _
    (c.from_vec.ensures ∙ c.in_ok-segments.ensures
    ∙ ap (λ (s : List Segment). split_segments (record { cut = cut_of last.segment; size = c.len.result }) grown last s) c.as_slice.ensures
    ∙ ap (λ (n : ℕ). split_segments (record { cut = cut_of last.segment; size = n }) grown last x.segments) c.len.ensures)
    (c.from_vec-2.ensures ∙ c.in_ok-dynamic.ensures
    ∙ ap (program_table last.segment e c.args.layout.now.tags) (table_within c.args.bytes.now c.part-table.result.now c.args.layout.now c.at.result c.size.result c.at.ensures c.size.ensures c.part-table.ensures.bytes))
    (c.from_vec-3.ensures ∙ c.in_ok-sections.ensures
    ∙ ap (λ (s : List Section). all_sections told s last.segment (record { cut = cut_of last.segment; size = c.len.result }) e) c.as_slice-old.ensures
    ∙ ap (λ (n : ℕ). all_sections told x.sections last.segment (record { cut = cut_of last.segment; size = n }) e) c.len.ensures
    ∙ ap (λ (ns : List ℕ). all_sections (length ns) x.sections last.segment (record { cut = cut_of last.segment; size = length c.args.more.now.bytes }) e) c.old_names-names.ensures)
    (c.from_vec-4.ensures ∙ c.in_ok-new.ensures)

pub old_names-names-requires : goal.old_names-names-requires
old_names-names-requires c = c.requires.program.names
