use Rattle.std.proofs.Common.{ap, subst, sym, ◌∙◌, arith}
use Rattle.pl_cone.specs.Taken.{HasItsEntry}
use Rattle.pl_cone.specs.declared.taken.Taken.{Taken}
use Rattle.pl_form.specs.Files.{original_in}
use Rattle.pl_rewrite.proofs.DigestLaws.{digest_made, digest_told, digests_count, numbered_read, read_item}
use Rattle.pl_rewrite.proofs.library.digest_at.Goals as goal

pub bounds : goal.bounds
bounds c = omega (arith, digests_count c.args.numbered.now.files.now c.args.numbered.now.digests.now c.requires.numbered.digests, c.requires.row)

pub original-requires : goal.original-requires
original-requires c = subst HasItsEntry c.index-numbered-row.is (read_item c.args.numbered.now.files.now c.args.row c.index-numbered-row.result (numbered_read c.args.numbered.now c.requires.numbered) c.requires.row c.index-numbered-row.is)

pub returns-in-None : goal.returns-in-None
returns-in-None c = digest_made c.args.numbered.now.files.now c.args.row c.index-numbered-row.result c.original.result.now c.digest_of.result c.requires.row c.index-numbered-row.is (c.original.ensures ∙ ap (λ (t : Taken). original_in t.bytes) (sym c.index-numbered-row.is)) c.digest_of.ensures.value

pub returns-in-Some : goal.returns-in-Some
returns-in-Some c = digest_told c.args.numbered.now.files.now c.args.numbered.now.digests.now c.args.row c.in-Some.digest _ c.requires.numbered.digests c.requires.row c.in-Some.is
