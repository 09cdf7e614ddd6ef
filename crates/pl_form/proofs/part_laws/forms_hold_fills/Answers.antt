use Rattle.pl_form.proofs.StandLaws.{fills_told, libraries_hold_fills, parts_found, programs_hold_fills}
use Rattle.pl_form.proofs.part_laws.forms_hold_fills.Goals as goal

pub returns-clause-libraries : goal.returns-clause-libraries
returns-clause-libraries c = libraries_hold_fills

pub returns-clause-programs : goal.returns-clause-programs
returns-clause-programs c = programs_hold_fills

pub returns-clause-told : goal.returns-clause-told
returns-clause-told c = fills_told

pub returns-clause-found : goal.returns-clause-found
returns-clause-found c = parts_found
