use Rattle.std.proofs.Common.{ap, length, refl, sym, ◌∙◌}
use Rattle.pl_form.specs.declared.fault.FormFault.TheVariants.{TooLarge}
use Rattle.pl_rewrite.proofs.DigestLaws.{numbered_read, read_item}
use Rattle.pl_rewrite.proofs.NumberedLaws.{row_within}
use Rattle.pl_rewrite.proofs.ProgramFormLaws.{fills_are, form_large, form_made, no_object, program_firm, program_row}
use Rattle.pl_rewrite.proofs.RowTestLaws.{file_at}
use Rattle.pl_rewrite.proofs.program.form_of.Goals as goal
use Rattle.sha2.specs.Sha256.{sha256}

pub bounds-files-row : goal.bounds-files-row
bounds-files-row c = row_within c.args.work.now.numbered.now c.args.row c.requires.program.program.walk

pub returns-in_default : goal.returns-in_default
returns-in_default c = absurd (no_object c.args.work.now.numbered.now c.args.row c.index-files-row.result c.requires.program.program.walk c.index-files-row.is c.in_default.ensures)

pub list_of-requires-clause-numbered : goal.list_of-requires-clause-numbered
list_of-requires-clause-numbered c = c.requires.program.work.numbered

pub list_of-requires-clause-rows : goal.list_of-requires-clause-rows
list_of-requires-clause-rows c = c.requires.program.program.walk.rows

pub digest_at-digest-requires-clause-numbered : goal.digest_at-digest-requires-clause-numbered
digest_at-digest-requires-clause-numbered c = c.requires.program.work.numbered

pub digest_at-digest-requires-clause-row : goal.digest_at-digest-requires-clause-row
digest_at-digest-requires-clause-row c = row_within c.args.work.now.numbered.now c.args.row c.requires.program.program.walk

pub original-original-requires : goal.original-original-requires
original-original-requires c =
    let n = c.args.work.now.numbered.now in
    read_item n.files.now c.args.row c.index-files-row.result (numbered_read n c.requires.program.work.numbered) (row_within n c.args.row c.requires.program.program.walk) c.index-files-row.is

pub form_program_with-requires-clause-firm : goal.form_program_with-requires-clause-firm
form_program_with-requires-clause-firm c =
    let f = program_row c.args.work.now.numbered.now c.args.row c.index-files-row.result c.in-Some.object.now c.requires.program.program.walk c.index-files-row.is c.in-Some.ensures in
    program_firm c.args.work.now c.args.row c.index-files-row.result c.in-Some.object.now c.original-original.result.now c.requires.program.program f c.original-original.ensures

pub form_program_with-requires-clause-fills : goal.form_program_with-requires-clause-fills
form_program_with-requires-clause-fills c =
    let f = program_row c.args.work.now.numbered.now c.args.row c.index-files-row.result c.in-Some.object.now c.requires.program.program.walk c.index-files-row.is c.in-Some.ensures in
    fills_are c.args.work.now.numbered.now c.args.row c.index-files-row.result c.in-Some.object.now c.args.made.fills.items c.args.made.fills.items f c.requires.fills refl

pub form_program_with-requires-clause-digest : goal.form_program_with-requires-clause-digest
form_program_with-requires-clause-digest c =
    let n = c.args.work.now.numbered.now in
    let at = file_at n c.args.row c.index-files-row.result (row_within n c.args.row c.requires.program.program.walk) c.index-files-row.is in
    c.digest_at-digest.ensures c.index-files-row.result at ∙ ap sha256 (sym c.original-original.ensures)

pub returns-in-Ok : goal.returns-in-Ok
returns-in-Ok c =
    let n = c.args.work.now.numbered.now in
    let t = c.index-files-row.result in
    let o = c.in-Some.object.now in
    let f = program_row n c.args.row t o c.requires.program.program.walk c.index-files-row.is c.in-Some.ensures in (
      ap length c.as_slice-rows.ensures.value,
      λ ss are.
          rw (← c.as_slice-rows.ensures.value)
          (form_made n c.args.row t o c.args.made.fills.items c.as_slice-rows.result.now c.as_slice-listed.result.now c.original-original.result.now c.args.version c.in-Ok.file.items c.shrink_to_fit.new.self.items ss f c.original-original.ensures (c.as_slice-listed.ensures ∙ c.in_ok-list.ensures)
          c.in-Ok.ensures c.shrink_to_fit.ensures.items are),
    )

pub returns-in-Err-TooLarge : goal.returns-in-Err-TooLarge
returns-in-Err-TooLarge c =
    let n = c.args.work.now.numbered.now in
    let t = c.index-files-row.result in
    let o = c.in-Some.object.now in
    let f = program_row n c.args.row t o c.requires.program.program.walk c.index-files-row.is c.in-Some.ensures in (
      tt,
      λ ss are.
          rw (← c.as_slice-rows.ensures.value)
          (form_large n c.args.row t o c.args.made.fills.items c.as_slice-rows.result.now c.as_slice-listed.result.now c.original-original.result.now c.args.version TooLarge ss f c.original-original.ensures (c.as_slice-listed.ensures ∙ c.in_ok-list.ensures)
          (rw c.in-Err-TooLarge.field-0-is at c.in-Err-TooLarge.ensures) are),
    )
