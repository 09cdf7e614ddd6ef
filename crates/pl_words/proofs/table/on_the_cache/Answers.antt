use Rattle.std.proofs.Common.{◌≡◌, ◌∙◌, Bool, cond, List, [], ◌∷◌, Result, Ok, ap, subst, sym}
use Rattle.std.specs.Prelude.{codes}
use Rattle.pl_base.specs.Answers.{Answers}
use Rattle.clap.specs.Words.{Row, found_of, rows_of}
use Rattle.pl_words.specs.Found.{fits}
use Rattle.pl_words.specs.Line.{is_memory}
use Rattle.pl_words.specs.Table.{chosen, forms_in_memory, forms_on_the_cache}
use Rattle.pl_words.specs.declared.command.Command.{Command}
use Rattle.pl_words.specs.declared.command.Command.TheVariants.{Print}
use Rattle.pl_words.specs.declared.fault.WordsFault.{WordsFault}
use Rattle.pl_words.proofs.table.on_the_cache.Goals as goal

abbrev meant : List Row → Bool → Result Command WordsFault
meant rows b = cond b (Ok Print) (chosen forms_in_memory rows)

by_test : (rows : List Row) (b : Bool) → b ≡ fits (codes "print-cache" ∷ []) [] rows → chosen forms_on_the_cache rows ≡ meant rows b
unfolding forms_on_the_cache
by_test rows b is = ap (meant rows) (sym is)

pub returns-then-fits : goal.returns-then-fits
returns-then-fits c = by_test (rows_of (found_of c.args.matches.now)) c.fits.result c.fits.ensures ∙ ap (meant (rows_of (found_of c.args.matches.now))) c.if-fits.true

pub returns : goal.returns
returns c =
    subst (Answers is_memory c.in_memory.result)
    (sym (by_test (rows_of (found_of c.args.matches.now)) c.fits.result c.fits.ensures ∙ ap (meant (rows_of (found_of c.args.matches.now))) c.if-fits.false)) c.in_memory.ensures
