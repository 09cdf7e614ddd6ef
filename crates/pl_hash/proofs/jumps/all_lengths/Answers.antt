use Rattle.std.proofs.Common.{◌≡◌, true, ap, ◌∙◌, length, arith}
use Rattle.std.proofs.lemmas.List.{take_at}
use Rattle.pl_hash.specs.Lengths.{HasLengths}
use Rattle.pl_hash.proofs.LengthLaws.{all_end}
use Rattle.pl_hash.proofs.jumps.all_lengths.Goals as goal

pub returns : goal.returns
returns c =
    let t = c.args.table.now in
    let ended : c.note_all-ends.result ≡ true = c.note_all-ends.ensures.value ∙ all_end t c.requires.ends in
    let has : HasLengths t c.note_all-ends.new.lengths = rw ended at c.note_all-ends.ensures.known in
    let long : length c.note_all-ends.new.lengths ≡ c.in_ok-lengths.lengths.len = omega (arith, c.note_all-ends.ensures.len, c.deref_mut.ensures.len, ap length c.deref_mut.ensures.value) in
    rw (take_at c.note_all-ends.new.lengths _ c.in_ok-lengths.lengths.len long) has
