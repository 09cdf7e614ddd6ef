use Rattle.std.proofs.Common.{ap, arith, get_or, subst, sym, ◌∙◌}
use Rattle.pl_cone.specs.Taken.{HasItsEntry}
use Rattle.pl_cone.specs.declared.taken.Taken.{Taken}
use Rattle.pl_form.specs.Files.{original_in}
use Rattle.pl_form.specs.Words.{checksum_of}
use Rattle.pl_rewrite.proofs.DigestLaws.{borne_is, checksum_made, checksum_told, digest_long, numbered_read, read_item}
use Rattle.pl_rewrite.proofs.library.checksum_at.Goals as goal

pub word32-requires : goal.word32-requires
word32-requires c = omega (arith, digest_long c.args.numbered.now.files.now c.args.row c.index-numbered-row.result c.digest_at.result c.requires.row c.digest_at.ensures)

pub returns : goal.returns
returns c = checksum_made c.args.numbered.now.files.now c.args.row c.digest_at.result c.word32.result c.digest_at.ensures c.word32.ensures

pub returns-then-is_library : goal.returns-then-is_library
returns-then-is_library c =
    let ts = c.args.numbered.now.files.now in
    let there = c.index-numbered-row.is in
    let read = subst HasItsEntry there (read_item ts c.args.row c.index-numbered-row.result (numbered_read c.args.numbered.now c.requires.numbered) c.requires.row there) in
    let sum = borne_is (get_or ts c.args.row c.index-numbered-row.result) c.in-Some.marked.now (c.in-Some.ensures.read read) (sym c.is_library.ensures ∙ c.if-is_library.true) in
    checksum_told ts c.args.row c.index-numbered-row.result c.in-Some.marked.now.checksum c.requires.row there (sum ∙ ap (λ (t : Taken). checksum_of (original_in t.bytes)) (sym there))
