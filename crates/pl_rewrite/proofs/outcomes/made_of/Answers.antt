use Rattle.std.proofs.Common.{refl, length, ap, subst, sym, ◌∙◌}
use Rattle.pl_rewrite.specs.Outcomes.{AreHeldFlags}
use Rattle.pl_rewrite.specs.RowWords.{AreRowWords}
use Rattle.pl_rewrite.proofs.ProgramRowLaws.{have_words, links_needed, told_rows}
use Rattle.pl_rewrite.proofs.outcomes.made_of.Goals as goal

pub held_by_programs-requires-clause-one_each : goal.held_by_programs-requires-clause-one_each
held_by_programs-requires-clause-one_each c = c.requires.run.column.count

pub words_of_rows-requires-clause-needed : goal.words_of_rows-requires-clause-needed
words_of_rows-requires-clause-needed c = record { made = c.requires.run.column.count; held = ap length c.as_slice.ensures.value ∙ c.in_ok-held.ensures.count }

pub words_of_rows-requires-clause-links : goal.words_of_rows-requires-clause-links
words_of_rows-requires-clause-links c =
    let held = subst (AreHeldFlags c.args.numbered.now c.args.stale.now) (sym c.as_slice.ensures.value) c.in_ok-held.ensures in
    links_needed c.args.numbered.now c.args.stale.now c.as_slice.result.now c.args.links held c.requires.links

pub programs_of-requires-clause-row_words : goal.programs_of-requires-clause-row_words
programs_of-requires-clause-row_words c =
    let n = c.args.numbered.now in
    let held = subst (AreHeldFlags n c.args.stale.now) (sym c.as_slice.ensures.value) c.in_ok-held.ensures in
    told_rows n _ c.args.stale.now c.as_slice-2.result.now (subst (AreRowWords n _) (sym c.as_slice-2.ensures.value) c.in_ok-row_words.ensures) refl held

pub with_libraries-requires-clause-row_words : goal.with_libraries-requires-clause-row_words
with_libraries-requires-clause-row_words c =
    let n = c.args.numbered.now in
    let held = subst (AreHeldFlags n c.args.stale.now) (sym c.as_slice.ensures.value) c.in_ok-held.ensures in
    let told = told_rows n _ c.args.stale.now c.in_ok-row_words.row_words.items c.in_ok-row_words.ensures refl held in
    have_words n told.asked c.args.stale.now c.in_ok-row_words.row_words.items told.made c.requires.run.column told.told
