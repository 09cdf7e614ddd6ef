use Rattle.pl_rewrite.proofs.ProgramRowLaws.{program_rows}
use Rattle.pl_rewrite.proofs.outcomes.programs_of.Goals as goal

pub program_outcomes-requires : goal.program_outcomes-requires
program_outcomes-requires c =
    let told = c.requires.row_words in
    record {
      work = record { numbered = c.requires.run.numbered; asked = told.asked; row_words = told.told };
      count = c.requires.run.column.count;
      rows = program_rows _ told.asked c.args.stale.now c.requires.run.numbered told.made told.held c.requires.run.column told.told;
    }
