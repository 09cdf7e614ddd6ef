use Rattle.std.proofs.Common.{rules}
use Rattle.std.proofs.lemmas.Slice.Zip.{AllZip-long}
use Rattle.pl_loader.specs.Places.{IsAt}
use Rattle.pl_loader.proofs.StartLaws.{start_is}
use Rattle.pl_loader.proofs.starting.started.Goals as goal

pub imaged-requires-clause-one_each : goal.imaged-requires-clause-one_each
imaged-requires-clause-one_each g c = rw c.new-places.ensures (AllZip-long IsAt c.args.files.now c.in_ok-rows.rows c.in_ok-rows.ensures.within)

pub returns-clause-ok : goal.returns-clause-ok
returns-clause-ok g c = record {
  modules = c.in_ok-modules.modules;
  numbered = c.in_ok-modules.ensures;
  at = c.in_ok-rows.rows;
  placed = c.in_ok-rows.ensures.placed;
  starts = start_is c.args.files.now c.in_ok-modules.modules c.in_ok-rows.rows _ (rw (c.as_slice.ensures, c.new-places.ensures) at c.in_ok-image.ensures.ok) (search rules) (search rules) (search rules) c.entry_of.ensures;
  stands = λ fast. search rules;
}
