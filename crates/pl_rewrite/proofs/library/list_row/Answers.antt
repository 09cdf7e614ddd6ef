use Rattle.std.proofs.Common.{sym, ap, ◌∙◌, arith}
use Rattle.pl_cone.specs.declared.taken.Taken.{Taken}
use Rattle.pl_rewrite.proofs.DigestLaws.{row_made}
use Rattle.pl_rewrite.proofs.RowTestLaws.{column_at}
use Rattle.pl_rewrite.proofs.library.list_row.Goals as goal

pub returns : goal.returns
returns c =
    row_made c.args.numbered.now c.args.row c.index-numbered-row.result _ c.requires.numbered c.requires.row c.index-numbered-row.is (c.in_ok-name.ensures ∙ (c.as_str.ensures ∙ ap (λ (t : Taken). t.name) (sym c.index-numbered-row.is))) (column_at c.args.numbered.now.stamps.now c.args.row _ (omega (arith, c.requires.row, c.requires.numbered.stamps))) c.checksum_at.ensures
