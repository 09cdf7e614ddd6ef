use Rattle.std.proofs.Common.{◌≡◌, length, Some, refl, ap, subst, sym, ◌∙◌, arith}
use Rattle.std.specs.Prelude.{slice_get}
use Rattle.std.proofs.lemmas.Option.{slice_get_read}
use Rattle.pl_rewrite.specs.Contents.{IsNewProgram}
use Rattle.pl_rewrite.specs.Outcomes.{AreHeldFlags}
use Rattle.pl_rewrite.specs.RowWords.{AreRowWords}
use Rattle.pl_rewrite.proofs.NumberedLaws.{row_within}
use Rattle.pl_rewrite.proofs.ProgramRowLaws.{have_words, program_rows, stale_library_row, told_rows}
use Rattle.pl_rewrite.proofs.RowTestLaws.{file_or}
use Rattle.pl_rewrite.proofs.VerifyRowLaws.{column_one, library_one, needed_walks, program_one}
use Rattle.pl_rewrite.proofs.verifying.meant_by.Goals as goal

pub held_by_programs-requires-clause-one_each : goal.held_by_programs-requires-clause-one_each
held_by_programs-requires-clause-one_each c = c.requires.stale.count

pub links_for-requires : goal.links_for-requires
links_for-requires c =
    let held = subst (AreHeldFlags c.args.numbered.now c.args.stale.now) (sym c.as_slice.ensures.value) c.in_ok-held.ensures in
    record {
      numbered = c.requires.numbered;
      flags = record { made = c.requires.stale.count; held = ap length c.as_slice.ensures.value ∙ c.in_ok-held.ensures.count };
      walks = needed_walks c.args.numbered.now c.args.stale.now c.as_slice.result.now c.args.row c.requires.numbered c.requires.walk c.requires.stale held;
    }

pub words_of_rows-requires-clause-needed : goal.words_of_rows-requires-clause-needed
words_of_rows-requires-clause-needed c = record { made = c.requires.stale.count; held = ap length c.as_slice.ensures.value ∙ c.in_ok-held.ensures.count }

pub words_of_rows-requires-clause-links : goal.words_of_rows-requires-clause-links
words_of_rows-requires-clause-links c = c.in_ok-links.ensures

pub bounds-numbered-row : goal.bounds-numbered-row
bounds-numbered-row c = row_within c.args.numbered.now c.args.row c.requires.walk

pub remove-one-requires : goal.remove-one-requires
remove-one-requires c = omega (arith, row_within c.args.numbered.now c.args.row c.requires.walk, c.in_ok-row_words.ensures.count, c.in_ok-row_words.row_words.ok.0)

pub library_meant-requires-clause-row : goal.library_meant-requires-clause-row
library_meant-requires-clause-row c =
    let n = c.args.numbered.now in
    let lt = row_within n c.args.row c.requires.walk in
    let at = file_or n c.args.row c.index-numbered-row.result lt in
    let on = library_one n c.args.stale.now c.args.row _ lt c.requires.stale at (sym c.is_library.ensures ∙ c.if-is_library.true) in
    stale_library_row n c.args.stale.now c.args.row c.requires.numbered lt (column_one n c.args.stale.now c.args.row c.requires.stale c.requires.walk) on

pub library_meant-requires-clause-words : goal.library_meant-requires-clause-words
library_meant-requires-clause-words c =
    let n = c.args.numbered.now in
    let all = c.in_ok-row_words.row_words.items in
    let lt = row_within n c.args.row c.requires.walk in
    let file = file_or n c.args.row c.index-numbered-row.result lt in
    let on = library_one n c.args.stale.now c.args.row _ lt c.requires.stale file (sym c.is_library.ensures ∙ c.if-is_library.true) in
    let held = subst (AreHeldFlags n c.args.stale.now) (sym c.as_slice.ensures.value) c.in_ok-held.ensures in
    let told = told_rows n _ c.args.stale.now all c.in_ok-row_words.ensures refl held in
    let words = have_words n told.asked c.args.stale.now all told.made (column_one n c.args.stale.now c.args.row c.requires.stale c.requires.walk) told.told in
    let at : slice_get all c.args.row ≡ Some c.remove-one.result = slice_get_read all (length all) c.args.row c.remove-one.result refl (omega (arith, lt, words.count)) c.remove-one.ensures.value in
    words.each c.args.row c.remove-one.result at on

pub program_file-requires-clause-work : goal.program_file-requires-clause-work
program_file-requires-clause-work c =
    let n = c.args.numbered.now in
    let held = subst (AreHeldFlags n c.args.stale.now) (sym c.as_slice.ensures.value) c.in_ok-held.ensures in
    let rows = told_rows n _ c.args.stale.now c.as_slice-2.result.now (subst (AreRowWords n _) (sym c.as_slice-2.ensures.value) c.in_ok-row_words.ensures) refl held in
    record { numbered = c.requires.numbered; asked = rows.asked; row_words = rows.told }

pub program_file-requires-clause-program : goal.program_file-requires-clause-program
program_file-requires-clause-program c =
    let n = c.args.numbered.now in
    let lt = row_within n c.args.row c.requires.walk in
    let at = file_or n c.args.row c.index-numbered-row.result lt in
    let on = program_one n c.args.stale.now c.args.row _ lt c.requires.stale at (sym c.is_library.ensures ∙ c.if-is_library.false) in
    let held = subst (AreHeldFlags n c.args.stale.now) (sym c.as_slice.ensures.value) c.in_ok-held.ensures in
    let rows = told_rows n _ c.args.stale.now c.as_slice-2.result.now (subst (AreRowWords n _) (sym c.as_slice-2.ensures.value) c.in_ok-row_words.ensures) refl held in
    program_rows _ rows.asked c.args.stale.now c.requires.numbered rows.made rows.held (column_one n c.args.stale.now c.args.row c.requires.stale c.requires.walk) rows.told c.args.row on

pub returns-in-None : goal.returns-in-None
returns-in-None c = subst (IsNewProgram c.args.numbered.now c.args.row c.args.version) c.in-None.is c.in_ok-made.ensures

pub returns : goal.returns
returns c = (subst (IsNewProgram c.args.numbered.now c.args.row c.args.version) c.in-Some.is c.in_ok-made.ensures).0
