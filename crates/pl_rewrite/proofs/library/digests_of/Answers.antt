use Rattle.std.proofs.Common.{arith}
use Rattle.pl_rewrite.proofs.DigestLaws.{digests_more, read_item}
use Rattle.pl_rewrite.proofs.library.digests_of.Goals as goal

pub digest_if-requires : goal.digest_if-requires
digest_if-requires c = read_item c.args.files.now c.loop-row.row c.index-files-row.result c.requires.taken (omega arith) c.index-files-row.is

pub loop-row-preserved : goal.loop-row-preserved
loop-row-preserved c = digests_more c.args.files.now c.loop-row.row c.index-files-row.result c.loop-row.digests.items _ c.in_ok-digest_if.field-0 (omega arith) c.index-files-row.is c.in_ok-digest_if.ensures c.in_ok-push.ensures.items c.loop-row.invariant
