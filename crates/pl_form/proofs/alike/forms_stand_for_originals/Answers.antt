use Rattle.pl_form.proofs.PieceLaws.{given_wanted, library_moved, library_stands, program_stands}
use Rattle.pl_form.proofs.alike.forms_stand_for_originals.Goals as goal

pub returns : goal.returns
returns c = record { libraries = library_stands; programs = program_stands; wanted = given_wanted; moved = library_moved }
