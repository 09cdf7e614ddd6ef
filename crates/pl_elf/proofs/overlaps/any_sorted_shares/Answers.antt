use Rattle.std.proofs.Common.{◌∙◌}
use Rattle.pl_elf.specs.Headers.{loads, segments}
use Rattle.pl_elf.specs.Clauses.{load_windows, overlap_in_file}
use Rattle.pl_elf.proofs.SweepLaws.{swept}
use Rattle.pl_elf.proofs.overlaps.any_sorted_shares.Goals as goal

pub returns : goal.returns
unfolding overlap_in_file
returns c =
    let same = rw c.fill-count.ensures.rows at c.sort.ensures.same in
    c.sweep.ensures ∙ swept (load_windows (loads (segments c.args.bytes.now c.args.header.now))) c.sort.new.extents same c.sort.ensures.rising
