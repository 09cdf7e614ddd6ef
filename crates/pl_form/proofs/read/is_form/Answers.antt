use Rattle.std.proofs.Common.{length, sym}
use Rattle.std.specs.Prelude.{◌==◌}
use Rattle.std.proofs.lemmas.Bool.{and_parts}
use Rattle.pl_form.specs.Back.{wanted}
use Rattle.pl_form.specs.Reading.{is_placed}
use Rattle.pl_form.proofs.MarkedLaws.{made_align}
use Rattle.pl_form.proofs.SoundLaws.{placed_even}
use Rattle.pl_form.proofs.read.is_form.Goals as goal

pub fits-requires : goal.fits-requires
fits-requires c = made_align c.args.marked.now c.requires.made

pub form_with-requires-clause-even : goal.form_with-requires-clause-even
form_with-requires-clause-even c = λ library.
    let p = and_parts (length c.args.flat.now == wanted c.as_slice.result.now) (is_placed c.args.marked.now) (sym c.if-not-fits.ensures) in
    placed_even c.args.marked.now p.1 library
