use Rattle.std.proofs.Common.{ap, length, arith, rules}
use Rattle.pl_form.proofs.FindingLaws.{part_short, stored_put}
use Rattle.pl_form.proofs.back.put_stored.Goals as goal

pub put_bytes-requires : goal.put_bytes-requires
put_bytes-requires c = omega (arith, ap length c.part-first.ensures.bytes, part_short 0 64 c.as_slice-headers.result.now, c.requires.room.0)

pub returns : goal.returns
returns c =
    stored_put c.args.undo.now c.args.dynamic.now c.args.header.now c.args.front.now c.put_bytes.new.bytes c.put_bytes-2.new.bytes c.put_bytes-3.new.bytes c.put_bytes-4.new.bytes c.requires.head
    (search rules) (search rules) (search rules) (search rules)
