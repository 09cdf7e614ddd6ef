use Rattle.std.proofs.Common.{Option, length, refl, sym, rules}
use Rattle.std.proofs.lemmas.Option.{slice_get_read}
use Rattle.pl_cone.specs.Calls.{is_named}
use Rattle.pl_cone.specs.declared.taken.Taken.{Taken}
use Rattle.pl_cone.proofs.ListLaws.{find_done, find_past}
use Rattle.pl_cone.proofs.calls.row_of.Goals as goal

pub returns-then-eq : goal.returns-then-eq
returns-then-eq c = (
  c.index-files-row.result,
  slice_get_read c.args.files.now (length c.args.files.now) c.loop-row.row c.index-files-row.result refl c.loop-row-test.true c.index-files-row.is,
  search rules,
)

pub loop-row-preserved : goal.loop-row-preserved
loop-row-preserved c =
    find_past (is_named c.args.name.now) (λ (x : Option Taken). x) c.args.files.now c.loop-row.row c.index-files-row.result _ c.loop-row-test.true c.index-files-row.is (search rules) c.loop-row.invariant

pub returns : goal.returns
returns c = sym (find_done (is_named c.args.name.now) (λ (x : Option Taken). x) c.args.files.now c.loop-row.row _ c.loop-row-test.false c.loop-row.invariant)
