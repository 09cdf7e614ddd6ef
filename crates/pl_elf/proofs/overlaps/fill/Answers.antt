use Rattle.std.proofs.Common.{rules, ◌≤◌, take}
use Rattle.pl_elf.proofs.TableLaws.{rows_done}
use Rattle.pl_elf.proofs.overlaps.fill.Goals as goal

pub returns-clause-rows : goal.returns-clause-rows
returns-clause-rows c =
    let le : c.args.header.now.phnum ≤ c.loop-index.index = search rules in
    rows_done c.args.bytes.now c.args.header.now c.loop-index.index (take c.loop-index.count c.loop-index.table) _ le c.loop-index.invariant.0
